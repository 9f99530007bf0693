use Rattle.std.proofs.Common.{◌≡◌, map, take}
use Rattle.reindex.proofs.replies.docs_of.Given as goal

abbrev pub invariant-loop-hit : goal.invariant-loop-hit
invariant-loop-hit l = l.docs.items ≡ map (λ hit. hit.doc) (take l.hit-index l.hit-items)
