use Rattle.std.proofs.Common.{◌≡◌, ℕ, [], Some, vec_len}
use Rattle.std.specs.Prelude.{slice_get}
use Rattle.crossbeam_channel.specs.Claims.{view, IsSeatAt}
use Rattle.crossbeam_channel.specs.Ends.{sends_on}
use Rattle.node_link.specs.Rule.{hub}
use Rattle.node_link.specs.Inbox.{put}
use Rattle.node_link.specs.declared.ends.Sender.{Sender}
use Rattle.node_link.proofs.ends.calls.inbox.Given as goal

abbrev pub invariant-loop-number : goal.invariant-loop-number
invariant-loop-number g l =
    IsSeatAt (sends_on l.first) l.pass
    × (view l.pass ≡ hub l.number [])
    × (vec_len l.all ≡ l.number)
    × ((k : ℕ) (s : Sender g.row.L.Denot) → slice_get l.all.items k ≡ Some s → (sends_on s.port ≡ sends_on l.first) × (s.number ≡ k) × (put s ≡ []))
