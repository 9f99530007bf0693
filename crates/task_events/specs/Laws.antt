-- The laws of cancellation.
use Rattle.std.specs.Prelude.{ℕ, ◌+◌, ◌<◌, ◌≤◌, ◌≡◌, ◌≢◌, ◌⊎◌, Bool, true, false, ◌&&◌, ◌||◌, not, is_some, ◌==◌, List, [], ◌∷◌, Some, None, option_map, cond, All, Contains, remove, slice_get, count_by}
use Rattle.std.specs.List.{list_any}
use Rattle.task_ids.specs.declared.task_id.TaskId.{TaskId}
use Rattle.task_ids.specs.declared.cluster.Cluster.{Cluster}
use Rattle.task_events.specs.declared.reply.Reply.{Reply}
use Rattle.task_events.specs.declared.reply.Reply.TheVariants.{Cancelled}
use Rattle.task_ids.specs.declared.text.Text.{Text}
use Rattle.task_events.specs.declared.event.Outcome.{Outcome}
use Rattle.task_events.specs.declared.event.Event.{Event}
use Rattle.task_events.specs.declared.event.Event.TheVariants.{Begin, NotFound, Write, Root, RootRejected, Ask, Put, Reject, Pass, Refuse, Cancel, Mark, Listed, Acked, Work, End, AnswerPlaced, AnswerDone}
use Rattle.task_events.specs.Same.{same_task}
use Rattle.task_events.specs.Tasks.{no_counts, is_live, live_tasks, has_ended, is_new, has_passed, refusal_of, reply_of, live_child, live_on, parent_of, ancestors, descends}
use Rattle.task_events.specs.Asks.{is_unanswered, unanswered, node_of_ask, request_of_ask, answer_of}
use Rattle.task_events.specs.Bans.{mark_of, late_ban, banned_nodes, standing_ban, ban_over, listing_is_open, is_listed, is_acked, is_gone, bans_are_placed, unbans_are_sent, listed_children, ack_is_due}
use Rattle.task_events.specs.declared.request.Request.{Request as AskedFor}
use Rattle.task_events.specs.Messages.{Message, in_flight, is_request, is_answer, is_ban, is_ack, is_unban, without, number_in_flight}
use Rattle.task_events.specs.Messages.Message.{Request, Answer, Ban, Ack, Unban}
use Rattle.task_events.specs.Cancels.{last_command, has_acted, turn_of, is_named, waits, found_none, is_answered_placed, is_answered_done, names_one_of}
use Rattle.task_events.specs.Allowed.{cancellation_in, is_rejection}
use Rattle.task_events.specs.Lawful.{AwaitsNoMark, Lawful}

-- An ask is in one place: its request is in flight, or its child is live, or its answer is in flight; but in
-- none once it is answered.
pub record OnePlace (h : List Event) : Type 0 where
  pub place : (p : TaskId) (k : ℕ) → number_in_flight (is_request p k) h + live_child p k h + number_in_flight (is_answer p k) h ≡ cond (is_unanswered p k h) 1 0
  -- the asker of an unanswered ask is live
  pub asker : (p : TaskId) (k : ℕ) → is_unanswered p k h ≡ true → is_live p h ≡ true
  -- so an ended task has no unanswered ask
  pub ended : (p : TaskId) (k : ℕ) → has_ended p h ≡ true → is_unanswered p k h ≡ false

-- 1 where this holds, else 0
abbrev pub one_if : Bool → ℕ
one_if b = cond b 1 0

abbrev pub stands : ℕ → TaskId → List Event → Bool
stands n p h = is_some (standing_ban n p h)

abbrev pub is_banned : ℕ → TaskId → List Event → Bool
is_banned n p h = list_any (λ m. n == m) (banned_nodes p h)

-- the listing for p on n has ended, and a child that was put there before is live and its bans are not placed
abbrev pub awaits_children : ℕ → TaskId → List Event → Bool
awaits_children n p h = is_listed n p h && not (ack_is_due n p h)

-- ---- the seven stages of a ban of p on n, each 1 where it is the one

abbrev pub ban_in_flight : ℕ → TaskId → List Event → ℕ
ban_in_flight n p h = number_in_flight (is_ban n p) h

abbrev pub children_listed : ℕ → TaskId → List Event → ℕ
children_listed n p h = one_if (stands n p h && listing_is_open n p h)

abbrev pub children_awaited : ℕ → TaskId → List Event → ℕ
children_awaited n p h = one_if (stands n p h && awaits_children n p h)

abbrev pub ack_in_flight : ℕ → TaskId → List Event → ℕ
ack_in_flight n p h = cond (stands n p h) (number_in_flight (is_ack n p) h) 0

abbrev pub waits_for_unban : ℕ → TaskId → List Event → ℕ
waits_for_unban n p h = one_if (stands n p h && (is_acked n p h && not (unbans_are_sent p h)))

abbrev pub unban_in_flight : ℕ → TaskId → List Event → ℕ
unban_in_flight n p h = cond (stands n p h) (number_in_flight (is_unban n p) h) 0

abbrev pub ban_gone : ℕ → TaskId → List Event → ℕ
ban_gone n p h = one_if (is_gone n p h)

-- The ban of a task on one of its banned nodes is in one stage of seven: it is in flight; it stands with its listing
-- open; it stands, is listed, and awaits that each child listed is stopped; it stands and its acknowledgement is in
-- flight; it stands, is acknowledged, and the unbans of the task are not sent; it stands and its unban is in flight; it
-- is gone.
pub record OneStage (h : List Event) : Type 0 where
  pub stage : (n : ℕ) (p : TaskId) → is_banned n p h ≡ true →
      ban_in_flight n p h + children_listed n p h + children_awaited n p h + ack_in_flight n p h + waits_for_unban n p h + unban_in_flight n p h + ban_gone n p h ≡ 1
  -- on the way there a ban is in flight, or being listed, or awaits the listed children, or is being acknowledged, or is
  -- acknowledged
  pub placing : (n : ℕ) (p : TaskId) → number_in_flight (is_ban n p) h + one_if (listing_is_open n p h) + one_if (awaits_children n p h) + number_in_flight (is_ack n p) h + one_if (is_acked n p h) ≡ one_if (is_banned n p h)
  -- the acknowledgement is sent exactly where it is due, and then comes
  pub acking : (n : ℕ) (p : TaskId) → number_in_flight (is_ack n p) h + one_if (is_acked n p h) ≡ one_if (ack_is_due n p h)
  -- it is in flight, or it stands, or it is gone; and no other ban stands
  pub standing : (n : ℕ) (p : TaskId) → number_in_flight (is_ban n p) h + one_if (stands n p h) + one_if (is_gone n p h) ≡ one_if (is_banned n p h)
  -- the unbans are sent exactly where the task has ended and its bans are placed, and then come
  pub going : (n : ℕ) (p : TaskId) → number_in_flight (is_unban n p) h + one_if (is_gone n p h) ≡ one_if (is_banned n p h && unbans_are_sent p h)
  -- a banned node is one of a marked task, and a ban that stands has the number of the mark
  pub marked : (n : ℕ) (p : TaskId) → is_banned n p h ≡ true → mark_of p h ≢ None
  pub number : (n : ℕ) (p : TaskId) (c : ℕ) → standing_ban n p h ≡ Some c → mark_of p h ≡ Some c

-- A child that is put where a ban of its parent has been put before never passes, and ends refused with that ban's
-- number.
pub record RefusesLateChildren (h : List Event) : Type 0 where
  pub not_passed : (t : TaskId) (c : ℕ) → late_ban t h ≡ Some c → has_passed t h ≡ false
  pub refused : (t : TaskId) (c : ℕ) → late_ban t h ≡ Some c → has_ended t h ≡ true → refusal_of t h ≡ Some c

-- nothing of the bans of p is on its way
pub record IsQuiet (p : TaskId) (h : List Event) : Type 0 where
  pub no_ban : (n : ℕ) → number_in_flight (is_ban n p) h ≡ 0
  pub no_listing : (n : ℕ) → listing_is_open n p h ≡ false
  pub no_ack : (n : ℕ) → number_in_flight (is_ack n p) h ≡ 0
  pub no_unban : (n : ℕ) → number_in_flight (is_unban n p) h ≡ 0

-- Once its messages are handled, an ended task has no ban.
abbrev pub LeavesNoBan : List Event → Type 0
LeavesNoBan h = (p : TaskId) → has_ended p h ≡ true → IsQuiet p h → (n : ℕ) → standing_ban n p h ≡ None

-- The listing for p on n ends with every child of p on n ended or marked.
abbrev pub ListsAllChildren : ℕ → TaskId → List Event → Type 0
ListsAllChildren n p h = (t : TaskId) → parent_of t h ≡ Some p → t.node ≡ n → has_ended t h ≡ false → mark_of t h ≢ None

-- Each child of p on n that was put before the listing ended has ended, or is marked and its own bans are placed.
abbrev pub HasStoppedChildren : ℕ → TaskId → List Event → Type 0
HasStoppedChildren n p h = (t : TaskId) → Contains (listed_children n p h) t → (has_ended t h ≡ true) ⊎ ((mark_of t h ≢ None) × (bans_are_placed t h ≡ true))

-- Over each live descendant of the task a ban of its parent stands on its node, and the descendant is marked or has not
-- passed: nothing of the tree starts, and nothing goes on.
abbrev pub HasStoppedTree : TaskId → List Event → Type 0
HasStoppedTree a h = (t : TaskId) → descends a t h ≡ true → is_live t h ≡ true → (ban_over t h ≢ None) × ((mark_of t h ≢ None) ⊎ (has_passed t h ≡ false))

-- so it is with the tree of each task that the cancellation named
abbrev pub HasStoppedTrees : ℕ → List Event → Type 0
HasStoppedTrees c h = (a : TaskId) → is_named c a h ≡ true → HasStoppedTree a h

-- For each task that the cancellation named the listing has ended on each banned node.
abbrev pub HasListedAll : ℕ → List Event → Type 0
HasListedAll c h = (t : TaskId) (n : ℕ) → is_named c t h ≡ true → is_banned n t h ≡ true → is_listed n t h ≡ true

-- A running earlier child is cancelled: where a listing has ended, all children there are ended or marked; a ban is
-- acknowledged only where besides each of those children has ended or has its own bans placed; and a cancellation is
-- answered only after all listings of its tasks have ended, when their whole trees have stopped.
pub record CancelsEarlyChildren (cluster : Cluster) : Type 0 where
  pub listed : (n : ℕ) (p : TaskId) (h : List Event) → Lawful cluster (Listed n p ∷ h) → ListsAllChildren n p h
  pub acked : (n : ℕ) (p : TaskId) (h : List Event) → Lawful cluster (Acked p n ∷ h) → HasStoppedChildren n p h
  pub placed : (c : ℕ) (h : List Event) → Lawful cluster (AnswerPlaced c ∷ h) → HasListedAll c h × HasStoppedTrees c h
  pub done : (c : ℕ) (h : List Event) → Lawful cluster (AnswerDone c ∷ h) → HasListedAll c h × HasStoppedTrees c h

-- Where the bans of a task are placed its whole tree has stopped, from then on.
abbrev pub StopsPlacedTrees : List Event → Type 0
StopsPlacedTrees h = (a : TaskId) → bans_are_placed a h ≡ true → HasStoppedTree a h

-- a cancellation that named one of these tasks has been answered
abbrev pub IsCalledOff : List TaskId → List Event → Type 0
IsCalledOff ts h = (c : ℕ) × (is_answered_placed c h || is_answered_done c h ≡ true) × (names_one_of c ts h ≡ true)

-- After the answer of a cancellation no descendant of a task that it named passes, and neither such a task nor a
-- descendant of one asks or works.
pub record StartsNothingLater (cluster : Cluster) : Type 0 where
  pub passes : (t : TaskId) (h : List Event) → Lawful cluster (Pass t ∷ h) → IsCalledOff (ancestors t h) h → ⊥
  pub asks : (t : TaskId) (k n : ℕ) (r : AskedFor) (h : List Event) → Lawful cluster (Ask t k n r ∷ h) → IsCalledOff (t ∷ ancestors t h) h → ⊥
  pub works : (t : TaskId) (h : List Event) → Lawful cluster (Work t ∷ h) → IsCalledOff (t ∷ ancestors t h) h → ⊥

-- So from the end of a listing on, a live child of the banned task there is marked, or it was put late, after the
-- ban with the mark's number.
abbrev pub LetsNoChildEscape : List Event → Type 0
LetsNoChildEscape h = (t p : TaskId) → parent_of t h ≡ Some p → is_listed t.node p h ≡ true → is_live t h ≡ true → mark_of t h ≡ None → late_ban t h ≡ mark_of p h

-- After the answer of a cancellation that waits no task that it named is live, and no descendant of one.
pub record WaitsForDescendants (h : List Event) : Type 0 where
  pub named : (c : ℕ) (t : TaskId) → is_answered_done c h ≡ true → is_named c t h ≡ true → has_ended t h ≡ true
  pub not_live : (c : ℕ) (t : TaskId) → is_answered_done c h ≡ true → is_named c t h ≡ true → is_live t h ≡ false
  pub descendants : (c : ℕ) (a t : TaskId) → is_answered_done c h ≡ true → is_named c a h ≡ true → descends a t h ≡ true → is_live t h ≡ false

-- A task is marked only by a cancellation that named it or an ancestor, and refused only by one that named an
-- ancestor. So a reply is cancelled only by such a one.
pub record CancelsWithCause (h : List Event) : Type 0 where
  pub mark : (t : TaskId) (c : ℕ) → mark_of t h ≡ Some c → names_one_of c (t ∷ ancestors t h) h ≡ true
  pub refusal : (t : TaskId) (c : ℕ) → refusal_of t h ≡ Some c → names_one_of c (ancestors t h) h ≡ true
  pub refused_reply : (t : TaskId) (c : ℕ) → refusal_of t h ≡ Some c → reply_of t h ≡ Some (Cancelled t c no_counts)
  -- a task that was not refused has a cancelled reply exactly where it is marked, with the mark's number
  pub ended_reply : (t : TaskId) (reply : Reply) → reply_of t h ≡ Some reply → refusal_of t h ≡ None → cancellation_in reply ≡ option_map (λ c. (t, c)) (mark_of t h)
  -- no task's reply is a rejection: that is said of an ask for which none was put
  pub no_rejection : (t : TaskId) (reply : Reply) → reply_of t h ≡ Some reply → is_rejection reply ≡ false
  pub reply : (t u : TaskId) (c : ℕ) (reply : Reply) → reply_of t h ≡ Some reply → cancellation_in reply ≡ Some (u, c) → (u ≡ t) × (names_one_of c (t ∷ ancestors t h) h ≡ true)

-- Each task that a cancellation named is marked, but for one that the newest event names.
abbrev pub MarksNamedTasks : List Event → Type 0
MarksNamedTasks h = AwaitsNoMark h → (c : ℕ) (t : TaskId) → is_named c t h ≡ true → mark_of t h ≢ None

-- a ban of the task's parent with this number stands on the task's node
abbrev pub IsUnderBan : TaskId → ℕ → List Event → Type 0
IsUnderBan t c h = (p : TaskId) × (parent_of t h ≡ Some p) × (standing_ban t.node p h ≡ Some c)

-- the same, with the ban's listing open
abbrev pub IsUnderListing : TaskId → ℕ → List Event → Type 0
IsUnderListing t c h = (p : TaskId) × (parent_of t h ≡ Some p) × (standing_ban t.node p h ≡ Some c) × (listing_is_open t.node p h ≡ true)

-- What is so when each of these events comes.
pub record EventsHaveCauses (cluster : Cluster) : Type 0 where
  -- a task is marked once
  pub marked_once : (t : TaskId) (c : ℕ) (h : List Event) → Lawful cluster (Mark t c ∷ h) → mark_of t h ≡ None
  -- by the cancellation that names it, or by the open listing of its parent's ban on its node
  pub marked_by : (t : TaskId) (c : ℕ) (h : List Event) → Lawful cluster (Mark t c ∷ h) → (is_named c t h ≡ true) ⊎ IsUnderListing t c h
  pub refused_by : (t : TaskId) (c : ℕ) (h : List Event) → Lawful cluster (Refuse t c ∷ h) → IsUnderBan t c h
  -- a task ends with a cancelled reply exactly where it is marked, with the mark's number
  pub ended_by : (t : TaskId) (reply : Reply) (h : List Event) → Lawful cluster (End t reply ∷ h) → cancellation_in reply ≡ option_map (λ c. (t, c)) (mark_of t h)
  -- a live task asks and works only after its first step, and only until it is marked
  pub asks : (p : TaskId) (k n : ℕ) (r : AskedFor) (h : List Event) → Lawful cluster (Ask p k n r ∷ h) → (mark_of p h ≡ None) × (is_new p h ≡ false) × (is_live p h ≡ true)
  pub works : (t : TaskId) (h : List Event) → Lawful cluster (Work t ∷ h) → (mark_of t h ≡ None) × (is_new t h ≡ false) × (is_live t h ≡ true)
  -- on the ask's node, a rejection comes exactly where as many tasks are live as it has slots
  pub rejected : (n : ℕ) (p : TaskId) (k : ℕ) (h : List Event) → Lawful cluster (Reject n p k ∷ h) → (live_on n h ≡ cluster.slots) × (node_of_ask p k h ≡ Some n)
  pub root_rejected : (k n : ℕ) (h : List Event) → Lawful cluster (RootRejected k n ∷ h) → (live_on n h ≡ cluster.slots) × (1 ≤ n) × (n ≤ cluster.nodes)
  pub put : (t p : TaskId) (k : ℕ) (h : List Event) → Lawful cluster (Put t p k ∷ h) → (live_on t.node h < cluster.slots) × (node_of_ask p k h ≡ Some t.node)
  pub root : (k : ℕ) (t : TaskId) (h : List Event) → Lawful cluster (Root k t ∷ h) → live_on t.node h < cluster.slots

-- Each message is in flight at most once.
pub record OnceInFlight (h : List Event) : Type 0 where
  pub request : (p : TaskId) (k : ℕ) → number_in_flight (is_request p k) h ≤ 1
  pub answer : (p : TaskId) (k : ℕ) → number_in_flight (is_answer p k) h ≤ 1
  pub ban : (n : ℕ) (p : TaskId) → number_in_flight (is_ban n p) h ≤ 1
  pub ack : (n : ℕ) (p : TaskId) → number_in_flight (is_ack n p) h ≤ 1
  pub unban : (n : ℕ) (p : TaskId) → number_in_flight (is_unban n p) h ≤ 1

-- What a message in flight says is what has happened: a request goes to the node of its ask, an answer has the
-- reply of the ask's child or its rejection, a ban has its task's mark and goes to a banned node, an acknowledgement
-- comes from an ended listing each child of which has stopped, and an unban goes to a banned node once the task has
-- ended and its bans are placed.
abbrev pub IsTold : Message → List Event → Type 0
IsTold (Request p k n r) h = (node_of_ask p k h ≡ Some n) × (request_of_ask p k h ≡ Some r)
IsTold (Answer p k reply) h = answer_of p k h ≡ Some reply
IsTold (Ban p c n) h = (mark_of p h ≡ Some c) × (is_banned n p h ≡ true)
IsTold (Ack p n) h = ack_is_due n p h ≡ true
IsTold (Unban p n) h = (unbans_are_sent p h ≡ true) × (is_banned n p h ≡ true)

abbrev pub MessagesTellThePast : List Event → Type 0
MessagesTellThePast h = All (λ m. IsTold m h) (in_flight h)

-- nothing is on its way, no listing is open, and no live task has to pass, to be refused, or to end as cancelled
pub record IsAtRest (h : List Event) : Type 0 where
  pub nothing_in_flight : in_flight h ≡ []
  pub no_listing : (n : ℕ) (p : TaskId) → listing_is_open n p h ≡ false
  pub no_first_step : (t : TaskId) → is_live t h ≡ true → is_new t h ≡ false
  pub no_cancelled_end : (t : TaskId) → is_live t h ≡ true → mark_of t h ≢ None → unanswered t h ≢ []

-- a live task that is not marked and has no ask unanswered: where it takes no step, it waits for a due moment
pub record IsLeaf (t : TaskId) (h : List Event) : Type 0 where
  pub live : is_live t h ≡ true
  pub passed : is_new t h ≡ false
  pub unmarked : mark_of t h ≡ None
  pub answered : unanswered t h ≡ []

-- At rest nothing is live but such tasks and their ancestors.
abbrev pub RestsOnLeaves : List Event → Type 0
RestsOnLeaves h = IsAtRest h → (t : TaskId) → is_live t h ≡ true → (u : TaskId) × IsLeaf u h × ((u ≡ t) ⊎ (descends t u h ≡ true))

-- The bans of a marked task go to every node to which an unanswered ask of it was sent; so to every node on which it
-- has a live child, or may get one.
pub record ReachesEveryChild (h : List Event) : Type 0 where
  pub asked : (p : TaskId) (k n : ℕ) → mark_of p h ≢ None → is_unanswered p k h ≡ true → node_of_ask p k h ≡ Some n → is_banned n p h ≡ true
  pub live : (t p : TaskId) → mark_of p h ≢ None → parent_of t h ≡ Some p → is_live t h ≡ true → is_banned t.node p h ≡ true

-- every live task stands on a node of the cluster
abbrev pub StandsInCluster : Cluster → List Event → Type 0
StandsInCluster cluster h = (t : TaskId) → is_live t h ≡ true → t.node ≤ cluster.nodes

-- A child passes or is refused as its first step, and a root needs neither.
pub record StepsFirst (h : List Event) : Type 0 where
  pub child : (t p : TaskId) → parent_of t h ≡ Some p → is_live t h ≡ true → is_new t h ≡ not (has_passed t h)
  pub root : (t : TaskId) → parent_of t h ≡ None → (is_new t h ≡ false) × (has_passed t h ≡ false)

-- nothing is live, in flight or listed
pub record IsDrained (h : List Event) : Type 0 where
  pub nothing_in_flight : in_flight h ≡ []
  pub no_listing : (n : ℕ) (p : TaskId) → listing_is_open n p h ≡ false
  pub nothing_live : (t : TaskId) → is_live t h ≡ false

-- Then no ban stands, and of each marked task the bans are placed and it has ended: each answer is due.
abbrev pub DrainsAll : List Event → Type 0
DrainsAll h = IsDrained h → ((n : ℕ) (p : TaskId) → standing_ban n p h ≡ None) × ((t : TaskId) → mark_of t h ≢ None → (bans_are_placed t h ≡ true) × (has_ended t h ≡ true))

-- Where nothing is in flight and no listing is open, the bans of each marked task are placed, though it may be live: no
-- listing awaits a child for ever.
abbrev pub PlacesBans : List Event → Type 0
PlacesBans h = in_flight h ≡ [] → ((n : ℕ) (p : TaskId) → listing_is_open n p h ≡ false) → (t : TaskId) → mark_of t h ≢ None → bans_are_placed t h ≡ true

-- the cancellation has no answer, and has not found that there is no task
abbrev pub IsOpenCancel : ℕ → List Event → Type 0
IsOpenCancel c h = (is_answered_placed c h ≡ false) × (is_answered_done c h ≡ false) × (found_none c h ≡ false)

-- A cancellation is answered once, in the way that its command asks for; before that it names live tasks, each once.
pub record AnswersCancelsOnce (cluster : Cluster) : Type 0 where
  pub placed : (c : ℕ) (h : List Event) → Lawful cluster (AnswerPlaced c ∷ h) → IsOpenCancel c h × (waits c h ≢ Some true)
  pub done : (c : ℕ) (h : List Event) → Lawful cluster (AnswerDone c ∷ h) → IsOpenCancel c h × (waits c h ≢ Some false)
  pub named : (c : ℕ) (t : TaskId) (wait : Bool) (h : List Event) → Lawful cluster (Cancel c t wait ∷ h) → IsOpenCancel c h × (is_live t h ≡ true) × (is_named c t h ≡ false)
  pub one_kind : (c : ℕ) (t : TaskId) (wait other : Bool) (h : List Event) → Lawful cluster (Cancel c t wait ∷ h) → waits c h ≡ Some other → wait ≡ other

-- Commands are numbered in order, and what a command begins with is the first that it does.
pub record CommandsActInOrder (cluster : Cluster) : Type 0 where
  pub begun : (k : ℕ) (h : List Event) → Lawful cluster (Begin k ∷ h) → (k ≡ last_command h + 1) × (has_acted k h ≡ false)
  pub started : (k : ℕ) (t : TaskId) (h : List Event) → Lawful cluster (Root k t ∷ h) → (last_command h ≡ k) × (has_acted k h ≡ false)
  pub rejected : (k n : ℕ) (h : List Event) → Lawful cluster (RootRejected k n ∷ h) → (last_command h ≡ k) × (has_acted k h ≡ false)
  pub missing : (c : ℕ) (h : List Event) → Lawful cluster (NotFound c ∷ h) → (last_command h ≡ c) × (has_acted c h ≡ false)
  pub naming : (c : ℕ) (t : TaskId) (wait : Bool) (h : List Event) → Lawful cluster (Cancel c t wait ∷ h) → last_command h ≡ c
  -- a cancellation that named no task is answered at once
  pub at_once : (c : ℕ) (h : List Event) → Lawful cluster (AnswerPlaced c ∷ h) → waits c h ≡ None → (last_command h ≡ c) × (has_acted c h ≡ false)
  pub at_once_done : (c : ℕ) (h : List Event) → Lawful cluster (AnswerDone c ∷ h) → waits c h ≡ None → (last_command h ≡ c) × (has_acted c h ≡ false)

-- A document is written only in a turn of work of a live task that is not marked.
abbrev pub WritesInTurns : Cluster → Type 0
WritesInTurns cluster = (index id : Text) (shard : ℕ) (outcome : Outcome) (h : List Event) → Lawful cluster (Write index shard outcome id ∷ h) → (t : TaskId) × (turn_of h ≡ Some t) × (is_live t h ≡ true) × (mark_of t h ≡ None)

-- A message of this kind is in flight, and to deliver it is to take away what stands at this place.
abbrev pub IsDeliveredAt : ℕ → (Message → Bool) → List Event → Type 0
IsDeliveredAt i kind h = (0 < number_in_flight kind h) × (without kind (in_flight h) ≡ remove (in_flight h) i)

-- Whichever message in flight is delivered next, it is taken from its own place, and the order of the others stays.
pub record DeliversAnyMessage (h : List Event) : Type 0 where
  pub request : (i : ℕ) (p : TaskId) (k n : ℕ) (r : AskedFor) → slice_get (in_flight h) i ≡ Some (Request p k n r) → IsDeliveredAt i (is_request p k) h
  pub answer : (i : ℕ) (p : TaskId) (k : ℕ) (reply : Reply) → slice_get (in_flight h) i ≡ Some (Answer p k reply) → IsDeliveredAt i (is_answer p k) h
  pub ban : (i : ℕ) (p : TaskId) (c n : ℕ) → slice_get (in_flight h) i ≡ Some (Ban p c n) → IsDeliveredAt i (is_ban n p) h
  pub ack : (i : ℕ) (p : TaskId) (n : ℕ) → slice_get (in_flight h) i ≡ Some (Ack p n) → IsDeliveredAt i (is_ack n p) h
  pub unban : (i : ℕ) (p : TaskId) (n : ℕ) → slice_get (in_flight h) i ≡ Some (Unban p n) → IsDeliveredAt i (is_unban n p) h

-- The list of live tasks has each live task once and no other, and as many of a node as are live there.
pub record ListsLiveTasks (h : List Event) : Type 0 where
  pub once : (t : TaskId) → count_by (same_task t) (live_tasks h) ≡ one_if (is_live t h)
  pub on_node : (n : ℕ) → count_by (λ t. n == t.node) (live_tasks h) ≡ live_on n h
