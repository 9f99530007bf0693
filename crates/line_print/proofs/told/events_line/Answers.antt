use Rattle.std.proofs.Common.{◌≡◌, ◌≤◌, ◌<◌, ℕ, ◌+◌, ◌++◌, List, OnOk, subst, length, get_or, drop, map, flat_map, ap, sym, ◌∙◌, arith}
use Rattle.std.proofs.lemmas.List.{drop_all, drop_more}
use Rattle.serde_json.specs.Data.{string}
use Rattle.serde_json.specs.View.{items_of}
use Rattle.serde_json.specs.Written.{items_text}
use Rattle.task_events.specs.declared.event.Event.{Event}
use Rattle.line_print.specs.Lines.{told}
use Rattle.line_print.proofs.PrintLemmas.{list_text}
use Rattle.line_print.proofs.told.events_line.Goals as goal

-- the events of the turns from a place on are those of that turn and those of the turns after it
turns_from : (turns : List (List Event)) (i : ℕ) (turn : List Event) → i < length turns → turn ≡ get_or turns i turn
    → turn ++ flat_map (λ t. t) (drop (i + 1) turns) ≡ flat_map (λ t. t) (drop i turns)
turns_from turns i turn h is =
    ap (λ (t : List Event). t ++ flat_map (λ u. u) (drop (i + 1) turns)) is
    ∙ sym (ap (flat_map (λ t. t)) (drop_more turns i turn h))

pub loop-turn-preserved : goal.loop-turn-preserved
loop-turn-preserved c =
    let turns = c.args.turns.now in
    let i = c.loop-turn.turn-index in
    c.in_ok-later.ensures (flat_map (λ turn. turn) (drop (i + 1) turns))
    ∙ ap (λ events. c.loop-turn.out.items ++ items_text c.loop-turn.later (items_of (map (λ event. string (told c.args.script.now event)) events)))
    (turns_from turns i c.turn-item.result c.loop-turn-test.true c.turn-item.is)
    ∙ c.loop-turn.invariant

pub returns : goal.returns
returns c =
    let ended : length c.args.turns.now ≤ c.loop-turn.turn-index = omega arith in
    subst (λ (text : List ℕ). OnOk c.push.result (c.push.new.out.items ≡ text))
    (list_text c.args.command _ c.args.out.now.items c.loop-turn.out.items (rw (drop_all c.loop-turn.turn-index c.args.turns.now ended) at c.loop-turn.invariant))
    c.push.ensures
