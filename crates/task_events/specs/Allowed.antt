-- When each kind of event may come next.
use Rattle.std.specs.Prelude.{ℕ, ◌+◌, ◌<◌, ◌≤◌, ◌≡◌, ◌≢◌, Bool, true, false, ◌||◌, ◌==◌, List, [], Option, Some, None, option_map, ⊤}
use Rattle.task_ids.specs.declared.task_id.TaskId.{TaskId}
use Rattle.task_ids.specs.declared.cluster.Cluster.{Cluster}
use Rattle.task_events.specs.declared.reply.Reply.{Reply}
use Rattle.task_events.specs.declared.reply.Reply.TheVariants.{Cancelled, Rejected}
use Rattle.task_events.specs.declared.event.Event.{Event}
use Rattle.task_events.specs.declared.event.Event.TheVariants.{Begin, Root, RootRejected, Ask, Put, Reject, Pass, Refuse, Cancel, NotFound, Mark, BanPut, Listed, Acked, BanGone, Work, Write, Answered, End, AnswerPlaced, AnswerDone, Tick}
use Rattle.task_events.specs.Tasks.{is_live, has_ended, live_on, last_number, is_new, parent_of}
use Rattle.task_events.specs.Asks.{last_ask, node_of_ask, unanswered}
use Rattle.task_events.specs.Bans.{mark_of, listing_is_open, bans_are_placed, ban_over, open_ban_over}
use Rattle.task_events.specs.Messages.{is_request, is_answer, is_ban, is_ack, is_unban, number_in_flight}
use Rattle.task_events.specs.Cancels.{last_command, beginning, turn_of, is_named, waits, found_none, is_answered_placed, is_answered_done}

-- the task and the number of the cancellation in a cancelled reply
abbrev pub cancellation_in : Reply → Option (TaskId × ℕ)
cancellation_in (Cancelled t c counts) = Some (t, c)
cancellation_in _ = None

abbrev pub is_rejection : Reply → Bool
is_rejection (Rejected n) = true
is_rejection _ = false

-- the number is the one in the option
abbrev pub is_number : ℕ → Option ℕ → Bool
is_number c None = false
is_number c (Some d) = c == d

-- the task has its node's next number, and a slot there is free
pub record TakesSlot (cluster : Cluster) (t : TaskId) (h : List Event) : Type 0 where
  pub next : t.number ≡ last_number t.node h + 1
  pub free : live_on t.node h < cluster.slots

-- a live task that may ask, work or end: it does not have to pass any more
pub record GoesOn (t : TaskId) (h : List Event) : Type 0 where
  pub live : is_live t h ≡ true
  pub passed : is_new t h ≡ false

-- no live child of p on n is without a mark
abbrev pub HasAllMarked : ℕ → TaskId → List Event → Type 0
HasAllMarked n p h = (t : TaskId) → parent_of t h ≡ Some p → t.node ≡ n → is_live t h ≡ true → mark_of t h ≢ None

-- of the live children of its parent on its node that have no mark the task is the lowest
abbrev pub IsLowest : TaskId → List Event → Type 0
IsLowest t h = (u : TaskId) → parent_of u h ≡ parent_of t h → u.node ≡ t.node → is_live u h ≡ true → mark_of u h ≡ None → t.number ≤ u.number

-- the cancellation has no answer yet, and it is one that looked for tasks
pub record IsDue (c : ℕ) (h : List Event) : Type 0 where
  pub placed_once : is_answered_placed c h ≡ false
  pub done_once : is_answered_done c h ≡ false
  pub found : found_none c h ≡ false
  -- one that names no task is answered at once
  pub at_once : waits c h ≡ None → beginning h ≡ Some c

pub record AskAllowed (cluster : Cluster) (p : TaskId) (k n : ℕ) (h : List Event) : Type 0 where
  pub goes_on : GoesOn p h
  pub unmarked : mark_of p h ≡ None
  pub next : k ≡ last_ask p h + 1
  pub low : 1 ≤ n
  pub high : n ≤ cluster.nodes

pub record PutAllowed (cluster : Cluster) (t p : TaskId) (k : ℕ) (h : List Event) : Type 0 where
  pub requested : 0 < number_in_flight (is_request p k) h
  pub node : node_of_ask p k h ≡ Some t.node
  pub takes : TakesSlot cluster t h

pub record RejectAllowed (cluster : Cluster) (n : ℕ) (p : TaskId) (k : ℕ) (h : List Event) : Type 0 where
  pub requested : 0 < number_in_flight (is_request p k) h
  pub node : node_of_ask p k h ≡ Some n
  pub full : cluster.slots ≤ live_on n h

pub record RootAllowed (cluster : Cluster) (k : ℕ) (t : TaskId) (h : List Event) : Type 0 where
  pub begins : beginning h ≡ Some k
  pub in_cluster : t.node ≤ cluster.nodes
  pub takes : TakesSlot cluster t h

pub record RootRejectedAllowed (cluster : Cluster) (k n : ℕ) (h : List Event) : Type 0 where
  pub begins : beginning h ≡ Some k
  pub low : 1 ≤ n
  pub high : n ≤ cluster.nodes
  pub full : cluster.slots ≤ live_on n h

-- A child's first step goes by the ban of its parent on its node.
pub record PassAllowed (t : TaskId) (h : List Event) : Type 0 where
  pub live : is_live t h ≡ true
  pub first : is_new t h ≡ true
  pub no_ban : ban_over t h ≡ None

pub record RefuseAllowed (t : TaskId) (c : ℕ) (h : List Event) : Type 0 where
  pub live : is_live t h ≡ true
  pub first : is_new t h ≡ true
  pub ban : ban_over t h ≡ Some c

-- The current command names a live task, once.
pub record CancelAllowed (c : ℕ) (t : TaskId) (wait : Bool) (h : List Event) : Type 0 where
  pub current : last_command h ≡ c
  pub live : is_live t h ≡ true
  pub once : is_named c t h ≡ false
  pub one_kind : (other : Bool) → waits c h ≡ Some other → wait ≡ other
  pub not_placed : is_answered_placed c h ≡ false
  pub not_done : is_answered_done c h ≡ false
  pub not_missing : found_none c h ≡ false

-- A task is marked by the cancellation that names it, or by the open listing of its parent on its node, which
-- takes the lowest child that has no mark.
pub record MarkAllowed (t : TaskId) (c : ℕ) (h : List Event) : Type 0 where
  pub live : is_live t h ≡ true
  pub unmarked : mark_of t h ≡ None
  pub cause : is_named c t h || is_number c (open_ban_over t h) ≡ true
  pub lowest : is_named c t h ≡ false → IsLowest t h

pub record BanPutAllowed (n : ℕ) (p : TaskId) (c : ℕ) (h : List Event) : Type 0 where
  pub sent : 0 < number_in_flight (is_ban n p) h
  pub number : mark_of p h ≡ Some c

pub record ListedAllowed (n : ℕ) (p : TaskId) (h : List Event) : Type 0 where
  pub opened : listing_is_open n p h ≡ true
  pub all_marked : HasAllMarked n p h

pub record WorkAllowed (t : TaskId) (h : List Event) : Type 0 where
  pub goes_on : GoesOn t h
  pub unmarked : mark_of t h ≡ None

-- A task ends with no ask unanswered, and with a cancelled reply exactly where it is marked.
pub record EndAllowed (t : TaskId) (reply : Reply) (h : List Event) : Type 0 where
  pub goes_on : GoesOn t h
  pub answered : unanswered t h ≡ []
  pub cancelled : cancellation_in reply ≡ option_map (λ c. (t, c)) (mark_of t h)
  pub no_rejection : is_rejection reply ≡ false

-- A cancellation that does not wait is answered when the bans of all its tasks are placed.
pub record AnswerPlacedAllowed (c : ℕ) (h : List Event) : Type 0 where
  pub due : IsDue c h
  pub kind : waits c h ≢ Some true
  pub placed : (t : TaskId) → is_named c t h ≡ true → bans_are_placed t h ≡ true

-- One that waits is answered when they have ended too.
pub record AnswerDoneAllowed (c : ℕ) (h : List Event) : Type 0 where
  pub due : IsDue c h
  pub kind : waits c h ≢ Some false
  pub placed : (t : TaskId) → is_named c t h ≡ true → bans_are_placed t h ≡ true
  pub ended : (t : TaskId) → is_named c t h ≡ true → has_ended t h ≡ true

-- the event may come next
abbrev pub Allowed : Cluster → Event → List Event → Type 0
Allowed cluster (Begin k) h = k ≡ last_command h + 1
Allowed cluster (Root k t) h = RootAllowed cluster k t h
Allowed cluster (RootRejected k n) h = RootRejectedAllowed cluster k n h
Allowed cluster (Ask p k n r) h = AskAllowed cluster p k n h
Allowed cluster (Put t p k) h = PutAllowed cluster t p k h
Allowed cluster (Reject n p k) h = RejectAllowed cluster n p k h
Allowed cluster (Pass t) h = PassAllowed t h
Allowed cluster (Refuse t c) h = RefuseAllowed t c h
Allowed cluster (Cancel c t wait) h = CancelAllowed c t wait h
Allowed cluster (NotFound c) h = beginning h ≡ Some c
Allowed cluster (Mark t c) h = MarkAllowed t c h
Allowed cluster (BanPut n p c) h = BanPutAllowed n p c h
Allowed cluster (Listed n p) h = ListedAllowed n p h
Allowed cluster (Acked p n) h = 0 < number_in_flight (is_ack n p) h
Allowed cluster (BanGone n p) h = 0 < number_in_flight (is_unban n p) h
Allowed cluster (Work t) h = WorkAllowed t h
Allowed cluster (Write index shard outcome id) h = turn_of h ≢ None
Allowed cluster (Answered p k) h = 0 < number_in_flight (is_answer p k) h
Allowed cluster (End t reply) h = EndAllowed t reply h
Allowed cluster (AnswerPlaced c) h = AnswerPlacedAllowed c h
Allowed cluster (AnswerDone c) h = AnswerDoneAllowed c h
Allowed cluster (Tick ms) h = ⊤
