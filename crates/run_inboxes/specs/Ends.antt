-- The ends of all inboxes of a cluster, and which end leads where.
use Rattle.std.specs.Prelude.{◌≡◌, ℕ, List, [], length, slice_get, Some}
use Rattle.std.specs.Global.{Vec}
use Rattle.node_link.specs.declared.ends.Sender.{Sender}
use Rattle.node_link.specs.declared.ends.Receiver.{Receiver}
use Rattle.node_link.specs.Inbox.{put, got, senders_of, capacity_of, IsSame, SameInbox, LeadsTo}
use Rattle.run_inboxes.specs.declared.ends.Ends.{Ends}
use Rattle.run_inboxes.specs.Pairs.{Pairwise}

module _ {L : Type 0} where
  -- one and the same ends, before and after
  pub record SameEnds (old new : Ends L) : Type 0 where
    pub inbox : SameInbox old.inbox new.inbox
    pub senders : Pairwise IsSame old.senders.items new.senders.items

  -- it has a sender for each of so many inboxes, and its own inbox has so many senders
  pub record IsWhole (count : ℕ) (e : Ends L) : Type 0 where
    pub senders : length e.senders.items ≡ count
    pub inbox : senders_of e.inbox ≡ count

  -- All ends of so many inboxes. Whoever has the ends at place k sends into the inbox of the ends at place i by its sender at place i, which is number k of the senders there.
  pub record AreLinked (all : List (Ends L)) : Type 0 where
    pub whole : (k : ℕ) (e : Ends L) → slice_get all k ≡ Some e → IsWhole (length all) e
    pub lead : (k i : ℕ) (e f : Ends L) (s : Sender L) → slice_get all k ≡ Some e → slice_get all i ≡ Some f → slice_get e.senders.items i ≡ Some s → LeadsTo f.inbox k s

  -- nothing was sent or taken by them, and the inbox has room for so many letters at a time
  pub record AreNew (capacity : ℕ) (e : Ends L) : Type 0 where
    pub taken : got e.inbox ≡ []
    pub sent : (i : ℕ) (s : Sender L) → slice_get e.senders.items i ≡ Some s → put s ≡ []
    pub room : capacity_of e.inbox ≡ capacity

  -- a new inbox for so many letters at a time, with its senders, so many
  pub record IsOpened (capacity count : ℕ) (r : Receiver L) (senders : Vec (Sender L)) : Type 0 where
    pub made : senders_of r ≡ count
    pub long : length senders.items ≡ count
    pub room : capacity_of r ≡ capacity
    pub taken : got r ≡ []
    pub lead : (k : ℕ) (s : Sender L) → slice_get senders.items k ≡ Some s → LeadsTo r k s × (put s ≡ [])
