use Rattle.std.proofs.Common.{◌≡◌, map, drop}
use Rattle.std.specs.List.{position_from}
use Rattle.std.specs.Str.{bytes_eq}
use Rattle.script_lang.specs.Names.{place_among}
use Rattle.script_lang.proofs.names.place_among.Given as goal

-- the names that are left decide
abbrev pub invariant-loop-place : goal.invariant-loop-place
invariant-loop-place l = position_from (bytes_eq l.name) l.place (map (λ n. n.now) (drop l.place l.names)) ≡ place_among l.name (map (λ n. n.now) l.names)
