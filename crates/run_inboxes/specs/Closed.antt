-- What is known of all inboxes of a cluster once they are closed.
use Rattle.std.specs.Prelude.{◌≡◌, ◌≤◌, ◌<◌, ℕ, List, [], length, slice_get, Option, None, Some}
use Rattle.std.specs.Global.{Vec}
use Rattle.node_link.specs.declared.ends.Sender.{Sender}
use Rattle.node_link.specs.declared.ends.Receiver.{Receiver}
use Rattle.node_link.specs.declared.ends.SenderEnd.{SenderEnd}
use Rattle.node_link.specs.declared.ends.Tally.{Tally}
use Rattle.node_link.specs.Rule.{of, total}
use Rattle.node_link.specs.Inbox.{put, got, senders_of, sent_total, LeftBy, AreEnds, TookInOrder, TookAll, Begins}
use Rattle.run_inboxes.specs.declared.ends.Ends.{Ends}
use Rattle.run_inboxes.specs.Pairs.{Pairwise}

module _ {L : Type 0} where
  -- these are what the senders left of those ends
  abbrev pub AllLeft : Ends L → Vec (SenderEnd L) → Type 0
  AllLeft e left = Pairwise LeftBy e.senders.items left.items

  -- the inbox can be closed with these
  abbrev pub MayFinish : Receiver L → Vec (SenderEnd L) → Type 0
  MayFinish r left = (0 < senders_of r) × AreEnds r left.items

  -- an inbox was closed with what its senders left
  pub record IsFinished (r : Receiver L) (left : Vec (SenderEnd L)) (t : Tally) : Type 0 where
    pub order : TookInOrder r left.items
    pub all : t.sent ≡ t.taken → TookAll r left.items
    pub most : t.taken ≤ t.sent
    pub taken : t.taken ≡ length (got r)
    pub sent : t.sent ≡ sent_total left.items

  abbrev pub put_by : Option (Sender L) → List L
  put_by None = []
  put_by (Some s) = put s

  -- what was sent by these ends into the inbox at that place
  abbrev pub sent_into : ℕ → Ends L → List L
  sent_into place e = put_by (slice_get e.senders.items place)

  -- The inbox at that place was closed: it took of each sender a beginning of what that one sent, in its order, and where as much was taken as was sent, all of it.
  pub record IsClosed (all : List (Ends L)) (place : ℕ) (r : Receiver L) (t : Tally) : Type 0 where
    pub order : (k : ℕ) (e : Ends L) (s : Sender L) → slice_get all k ≡ Some e → slice_get e.senders.items place ≡ Some s → Begins (of k (got r)) (put s)
    pub whole : t.sent ≡ t.taken → (k : ℕ) (e : Ends L) (s : Sender L) → slice_get all k ≡ Some e → slice_get e.senders.items place ≡ Some s → of k (got r) ≡ put s
    pub most : t.taken ≤ t.sent
    pub taken : t.taken ≡ length (got r)
    pub sent : t.sent ≡ total (λ e. length (sent_into place e)) all

  -- so was each of these
  pub record AreClosed (all : List (Ends L)) (tallies : List Tally) : Type 0 where
    pub count : length tallies ≡ length all
    pub each : (i : ℕ) (e : Ends L) (t : Tally) → slice_get all i ≡ Some e → slice_get tallies i ≡ Some t → IsClosed all i e.inbox t
