use Rattle.std.proofs.Common.{◌≡◌, ◌++◌, map, drop, flat_map, codes, decimal, false}
use Rattle.serde_json.specs.Data.{string}
use Rattle.serde_json.specs.View.{items_of}
use Rattle.serde_json.specs.Written.{items_text}
use Rattle.line_print.specs.Lines.{told}
use Rattle.line_print.proofs.told.events_line.Given as goal

-- what is appended so far and the turns that are still to come are one list
abbrev pub invariant-loop-turn : goal.invariant-loop-turn
invariant-loop-turn l =
    l.out.items ++ items_text l.later (items_of (map (λ event. string (told l.script event)) (flat_map (λ turn. turn) (drop l.turn-index l.turns))))
    ≡ (((l.fn.out.items ++ codes "{\"command\":") ++ decimal l.command) ++ codes ",\"reply\":[") ++ items_text false (items_of (map (λ event. string (told l.script event)) (flat_map (λ turn. turn) l.turns)))
