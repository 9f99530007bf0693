use Rattle.std.proofs.Common.{◌≡◌, ◌||◌, ℕ, List, take}
use Rattle.std.specs.HashSet.{contains_by}
use Rattle.std.specs.List.{list_any}
use Rattle.std.specs.Str.{bytes_eq}
use Rattle.command_roots.specs.Known.{is_of_corpus}
use Rattle.line_print.proofs.known.indices_of.Given as goal

abbrev pub invariant-loop-dest : goal.invariant-loop-dest
invariant-loop-dest l = (index : List ℕ) → contains_by (λ k. bytes_eq index k.now) l.known ≡ (is_of_corpus l.corpus index || list_any (bytes_eq index) (take l.dest-index l.dests))
