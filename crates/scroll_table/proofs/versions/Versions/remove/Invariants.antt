use Rattle.std.proofs.Common.{◌≡◌, ℕ, List, take, false, cond}
use Rattle.scroll_table.specs.declared.versions.Kept.{Kept}
use Rattle.scroll_table.specs.Versions.{keeps}
use Rattle.scroll_table.proofs.Versioned.{among}
use Rattle.scroll_table.proofs.versions.Versions.remove.Given as goal

abbrev pub invariant-loop-count : goal.invariant-loop-count
invariant-loop-count l = (i : List ℕ) (k : Kept) → keeps l.self i k ≡ cond (among l.id l.context.ask.index (take l.count-index l.context.shards) i k) false (keeps l.initial.self i k)
