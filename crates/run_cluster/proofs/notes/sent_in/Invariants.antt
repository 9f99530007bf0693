use Rattle.std.proofs.Common.{◌≡◌, ◌≤◌, ◌*◌, take}
use Rattle.std.specs.List.{sum_by}
use Rattle.run_cluster.proofs.notes.sent_in.Given as goal

abbrev pub invariant-loop-told : goal.invariant-loop-told
invariant-loop-told l = (l.all ≡ sum_by (λ told. told.sent) (take l.told-index l.inboxes)) × (l.all ≤ l.told-index * 18446744073709551615)
