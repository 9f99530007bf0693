-- What clauses say of the ends of an inbox.
use Rattle.std.specs.Prelude.{◌≡◌, ℕ, List, [], ◌∷◌, ◌++◌, length, slice_get, Some}
use Rattle.crossbeam_channel.specs.Claims.{view}
use Rattle.crossbeam_channel.specs.Ends.{sends_on, receives_on, ruled_capacity}
use Rattle.node_link.specs.declared.rule.Tagged.{Tagged}
use Rattle.node_link.specs.declared.ends.Sender.{Sender}
use Rattle.node_link.specs.declared.ends.Receiver.{Receiver}
use Rattle.node_link.specs.declared.ends.SenderEnd.{SenderEnd}
use Rattle.node_link.specs.Rule.{of, total}

module _ {L : Type 0} where
  -- what a sender sent, in order
  abbrev pub put : Sender L → List L
  put s = (view s.pass).put

  abbrev pub number_of : Sender L → ℕ
  number_of s = s.number

  -- what a receiver took, each letter with its sender, in order
  abbrev pub got : Receiver L → List (Tagged L)
  got r = (view r.pass).got

  -- how many senders its inbox has
  abbrev pub senders_of : Receiver L → ℕ
  senders_of r = (view r.pass).made

  -- for how many letters at a time its inbox has room
  abbrev pub capacity_of : Receiver L → ℕ
  capacity_of r = ruled_capacity (receives_on r.mouth)

  -- what the sender that left this end sent, in order
  abbrev pub sent_by : SenderEnd L → List L
  sent_by e = (view e.pass).put

  abbrev pub number_left : SenderEnd L → ℕ
  number_left e = e.number

  -- one and the same sender, before and after
  abbrev pub IsSame : Sender L → Sender L → Type 0
  IsSame old new = (sends_on new.port ≡ sends_on old.port) × (number_of new ≡ number_of old)

  -- one and the same inbox, before and after
  abbrev pub SameInbox : Receiver L → Receiver L → Type 0
  SameInbox old new = (receives_on new.mouth ≡ receives_on old.mouth) × (senders_of new ≡ senders_of old)

  -- the sender leads to this inbox, by that number
  abbrev pub LeadsTo : Receiver L → ℕ → Sender L → Type 0
  LeadsTo r number s = (sends_on s.port ≡ receives_on r.mouth) × (number_of s ≡ number)

  -- the end is what this sender left
  abbrev pub LeftBy : Sender L → SenderEnd L → Type 0
  LeftBy s e = (sent_by e ≡ put s) × (sends_on e.port ≡ sends_on s.port) × (number_left e ≡ number_of s)

  -- the end is what that sender of this inbox left
  abbrev pub IsEndAt : Receiver L → ℕ → SenderEnd L → Type 0
  IsEndAt r number e = (sends_on e.port ≡ receives_on r.mouth) × (number_left e ≡ number)

  -- all ends of this inbox, by number
  abbrev pub AreEnds : Receiver L → List (SenderEnd L) → Type 0
  AreEnds r ends = (length ends ≡ senders_of r) × ((k : ℕ) (e : SenderEnd L) → slice_get ends k ≡ Some e → IsEndAt r k e)

  -- the receiver took this letter, of some sender, and nothing else
  abbrev pub TookOne : Receiver L → Receiver L → L → Type 0
  TookOne old new letter = (from : ℕ) × (got new ≡ got old ++ record { from = from; letter = letter } ∷ [])

  -- the one list begins the other
  abbrev pub Begins : List L → List L → Type 0
  Begins xs ys = (rest : List L) × (xs ++ rest ≡ ys)

  -- what was taken of each sender is a beginning of what it sent
  abbrev pub TookInOrder : Receiver L → List (SenderEnd L) → Type 0
  TookInOrder r ends = (k : ℕ) (e : SenderEnd L) → slice_get ends k ≡ Some e → Begins (of k (got r)) (sent_by e)

  -- what was taken of each sender is all that it sent
  abbrev pub TookAll : Receiver L → List (SenderEnd L) → Type 0
  TookAll r ends = (k : ℕ) (e : SenderEnd L) → slice_get ends k ≡ Some e → of k (got r) ≡ sent_by e

  -- how many letters the ends' senders sent
  abbrev pub sent_total : List (SenderEnd L) → ℕ
  sent_total ends = total (λ e. length (sent_by e)) ends
