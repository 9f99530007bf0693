-- What was linked stays so.
use Rattle.std.proofs.Common.{◌≡◌, ℕ, List, length, Some, sym, ◌∙◌}
use Rattle.std.specs.Prelude.{slice_get}
use Rattle.node_link.specs.declared.ends.Sender.{Sender}
use Rattle.node_link.specs.Inbox.{IsSame, LeadsTo}
use Rattle.run_inboxes.specs.declared.ends.Ends.{Ends}
use Rattle.run_inboxes.specs.Pairs.{Pairwise}
use Rattle.run_inboxes.specs.Ends.{SameEnds, IsWhole, AreLinked}
use Rattle.run_inboxes.proofs.Pairs.{pairs_length, pairs_left}

module _ {L : Type 0} where
  pub linked_still : (old new : List (Ends L)) → Pairwise SameEnds old new → AreLinked old → AreLinked new
  linked_still old new same linked = record { whole = whole; lead = lead }
    where
      whole : (k : ℕ) (e : Ends L) → slice_get new k ≡ Some e → IsWhole (length new) e
      whole k e at =
          let d = pairs_left SameEnds old new same k e at in
          let w = linked.whole k d.0 d.1 in
          let long = pairs_length SameEnds old new same in
          record { senders = pairs_length IsSame d.0.senders.items e.senders.items d.2.senders ∙ w.senders ∙ sym long; inbox = d.2.inbox.1 ∙ w.inbox ∙ sym long }

      lead : (k i : ℕ) (e f : Ends L) (s : Sender L) → slice_get new k ≡ Some e → slice_get new i ≡ Some f → slice_get e.senders.items i ≡ Some s → LeadsTo f.inbox k s
      lead k i e f s at there is =
          let d = pairs_left SameEnds old new same k e at in
          let g = pairs_left SameEnds old new same i f there in
          let r = pairs_left IsSame d.0.senders.items e.senders.items d.2.senders i s is in
          let l = linked.lead k i d.0 g.0 r.0 d.1 g.1 r.1 in
          (r.2.0 ∙ l.0 ∙ sym g.2.inbox.0, r.2.1 ∙ l.1)
