use Rattle.std.proofs.Common.{◌≡◌, ℕ, List, take}
use Rattle.std.specs.HashSet.{contains_by}
use Rattle.std.specs.List.{list_any}
use Rattle.std.specs.Str.{bytes_eq}
use Rattle.line_print.proofs.known.corpus_indices.Given as goal

abbrev pub invariant-loop-line : goal.invariant-loop-line
invariant-loop-line l = (index : List ℕ) → contains_by (λ k. bytes_eq index k.now) l.known ≡ list_any (λ line. bytes_eq index line.index) (take l.line-index l.corpus.lines)
