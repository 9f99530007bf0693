use Rattle.std.proofs.Common.{◌≡◌, take}
use Rattle.task_events.proofs.copying.copy_docs.Given as goal

abbrev pub invariant-loop-doc : goal.invariant-loop-doc
invariant-loop-doc l = l.copies.items ≡ take l.doc-index l.doc-items
