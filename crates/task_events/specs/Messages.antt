-- The messages in flight.
use Rattle.std.specs.Prelude.{ℕ, Bool, false, List, [], ◌∷◌, ◌++◌, ◌&&◌, not, Option, Some, None, map, count_by, if◌then◌else◌}
use Rattle.task_ids.specs.declared.task_id.TaskId.{TaskId}
use Rattle.task_events.specs.declared.request.Request.{Request as AskedFor}
use Rattle.task_events.specs.declared.reply.Reply.{Reply}
use Rattle.task_events.specs.declared.reply.Reply.TheVariants.{Cancelled, Rejected}
use Rattle.task_events.specs.declared.event.Event.{Event}
use Rattle.task_events.specs.declared.event.Event.TheVariants.{Ask, Put, Reject, Refuse, Mark, BanPut, Listed, Acked, BanGone, Answered, End}
use Rattle.task_events.specs.Same.{same_pair}
use Rattle.task_events.specs.Tasks.{no_counts, parent_of, ask_of}
use Rattle.task_events.specs.Asks.{unanswered_nodes}
use Rattle.task_events.specs.Bans.{banned_nodes, unbans_are_sent, ack_is_due}

pub data Message : Type 0 where
  -- of an ask, to its node
  Request : (parent : TaskId) → (ask to : ℕ) → (request : AskedFor) → Message
  -- to the task that asked
  Answer : (parent : TaskId) → (ask : ℕ) → (reply : Reply) → Message
  -- of the children of a marked task, with the number of the cancellation, to a node
  Ban : (parent : TaskId) → (cancel to : ℕ) → Message
  -- of a ban, from a node
  Ack : (parent : TaskId) → (from : ℕ) → Message
  -- of a ban, to a node
  Unban : (parent : TaskId) → (to : ℕ) → Message

-- the request of this ask; and likewise below
abbrev pub is_request : TaskId → ℕ → Message → Bool
is_request p k (Request q j n r) = same_pair p k q j
is_request p k _ = false

abbrev pub is_answer : TaskId → ℕ → Message → Bool
is_answer p k (Answer q j r) = same_pair p k q j
is_answer p k _ = false

-- a ban of this task to this node; and likewise below
abbrev pub is_ban : ℕ → TaskId → Message → Bool
is_ban n p (Ban q c m) = same_pair p n q m
is_ban n p _ = false

abbrev pub is_ack : ℕ → TaskId → Message → Bool
is_ack n p (Ack q m) = same_pair p n q m
is_ack n p _ = false

abbrev pub is_unban : ℕ → TaskId → Message → Bool
is_unban n p (Unban q m) = same_pair p n q m
is_unban n p _ = false

-- the messages without the first of that kind, which is delivered
abbrev pub without : (Message → Bool) → List Message → List Message
without kind [] = []
without kind (m ∷ ms) = if kind m then ms else m ∷ without kind ms

-- what an ending child sends to the task that asked for it
abbrev pub answer_from : Option TaskId → ℕ → Reply → List Message
answer_from None k reply = []
answer_from (Some p) k reply = Answer p k reply ∷ []

-- once a task has ended and its bans are placed, an unban to each banned node
abbrev pub unbans_from : TaskId → List Event → List Message
unbans_from t h = if unbans_are_sent t h then map (Unban t) (banned_nodes t h) else []

-- the acknowledgement of the ban of p on n, where it became due between an earlier moment and a later one
abbrev pub ack_from : ℕ → TaskId → List Event → List Event → List Message
ack_from n p earlier later = if ack_is_due n p later && not (ack_is_due n p earlier) then Ack p n ∷ [] else []

-- that of the ban of a task's parent on the task's node
abbrev pub ack_over : Option TaskId → ℕ → List Event → List Event → List Message
ack_over None n earlier later = []
ack_over (Some p) n earlier later = ack_from n p earlier later

-- the messages that were sent and not delivered, in the order of their sending
abbrev pub in_flight : List Event → List Message
in_flight [] = []
in_flight (Ask p k n r ∷ h) = in_flight h ++ Request p k n r ∷ []
in_flight (Put t p k ∷ h) = without (is_request p k) (in_flight h)
in_flight (Reject n p k ∷ h) = without (is_request p k) (in_flight h) ++ Answer p k (Rejected n) ∷ []
in_flight (Refuse t c ∷ h) = in_flight h ++ answer_from (parent_of t h) (ask_of t h) (Cancelled t c no_counts) ++ unbans_from t (Refuse t c ∷ h) ++ ack_over (parent_of t h) t.node h (Refuse t c ∷ h)
in_flight (Mark t c ∷ h) = in_flight h ++ map (Ban t c) (unanswered_nodes t h)
in_flight (BanPut n p c ∷ h) = without (is_ban n p) (in_flight h)
in_flight (Listed n p ∷ h) = in_flight h ++ ack_from n p h (Listed n p ∷ h)
in_flight (Acked p n ∷ h) = without (is_ack n p) (in_flight h) ++ unbans_from p (Acked p n ∷ h) ++ ack_over (parent_of p h) p.node h (Acked p n ∷ h)
in_flight (BanGone n p ∷ h) = without (is_unban n p) (in_flight h)
in_flight (Answered p k ∷ h) = without (is_answer p k) (in_flight h)
in_flight (End t r ∷ h) = in_flight h ++ answer_from (parent_of t h) (ask_of t h) r ++ unbans_from t (End t r ∷ h) ++ ack_over (parent_of t h) t.node h (End t r ∷ h)
in_flight (_ ∷ h) = in_flight h

-- how many messages of that kind are in flight
abbrev pub number_in_flight : (Message → Bool) → List Event → ℕ
number_in_flight kind h = count_by kind (in_flight h)
