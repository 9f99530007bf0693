-- What the moves of the world append to the past.
use Rattle.std.specs.Prelude.{◌≡◌, ◌⊎◌, ℕ, ◌<◌, ◌≤◌, Bool, true, false, List, ◌∷◌, ◌++◌, slice_get, length, Some, ⊤}
use Rattle.task_ids.specs.declared.cluster.Cluster.{Cluster}
use Rattle.task_events.specs.declared.stop.Stop.{Stop}
use Rattle.task_events.specs.declared.stop.Stop.TheVariants.{HistoryFull, NumbersSpent, Memory}
use Rattle.task_events.specs.declared.history.TheConstants.{MAX_EVENTS}
use Rattle.task_events.specs.declared.event.Event.{Event}
use Rattle.task_events.specs.declared.event.Event.TheVariants.{Root, RootRejected, Put, Reject, Refuse, Answered, End, BanPut, Acked, BanGone}
use Rattle.task_ids.specs.declared.task_id.TaskId.{TaskId}
use Rattle.task_events.specs.declared.reply.Reply.TheVariants.{Cancelled}
use Rattle.task_events.specs.declared.reply.Counts.{Counts}
use Rattle.task_events.specs.Tasks.{live_on, last_number}
use Rattle.task_events.specs.Allowed.{TakesSlot, RefuseAllowed, EndAllowed}
use Rattle.task_events.specs.Messages.{Message, in_flight}
use Rattle.task_events.specs.Messages.Message.{Request, Answer, Ban, Ack, Unban}
use Rattle.world_moves.specs.Cancels.{with_due}

-- The event with which a message is delivered. A request starts its child where a slot of its node is free, and is rejected where none is.
abbrev pub IsDelivery : Cluster → List Event → Message → Event → Type 0
IsDelivery cluster h (Request p k n r) (Put t q j) = TakesSlot cluster t h × (t.node ≡ n) × (q ≡ p) × (j ≡ k)
IsDelivery cluster h (Request p k n r) (Reject m q j) = (cluster.slots ≤ live_on n h) × (m ≡ n) × (q ≡ p) × (j ≡ k)
IsDelivery cluster h (Answer p k reply) (Answered q j) = (q ≡ p) × (j ≡ k)
IsDelivery cluster h (Ban p c n) (BanPut m q d) = (m ≡ n) × (q ≡ p) × (d ≡ c)
IsDelivery cluster h (Ack p n) (Acked q m) = (q ≡ p) × (m ≡ n)
IsDelivery cluster h (Unban p n) (BanGone m q) = (m ≡ n) × (q ≡ p)
IsDelivery cluster h _ _ = ⊥

-- The past after the delivery of the message of this place among those in flight, and after the answers that come due with it.
abbrev pub Delivers : Cluster → List Event → ℕ → List Event → Type 0
Delivers cluster h nth new = (m : Message) × (e : Event) × (slice_get (in_flight h) nth ≡ Some m) × IsDelivery cluster h m e × (new ≡ with_due e h)

-- The event with which the root of a command comes to its node: it starts there where a slot is free, and is rejected where none is.
abbrev pub IsStart : Cluster → List Event → ℕ → ℕ → Bool → Event → Type 0
IsStart cluster h command node true (Root c t) = TakesSlot cluster t h × (t.node ≡ node) × (c ≡ command)
IsStart cluster h command node false (RootRejected c n) = (cluster.slots ≤ live_on node h) × (n ≡ node) × (c ≡ command)
IsStart cluster h command node _ _ = ⊥

-- The past after the root of a command has come to its node, and whether it started there.
abbrev pub Starts : Cluster → List Event → ℕ → ℕ → Bool → List Event → Type 0
Starts cluster h command node started new = (e : Event) × IsStart cluster h command node started e × (new ≡ e ∷ h)

-- the last number that a node gives
unfoldable pub greatest_number : ℕ
greatest_number = 1048575

-- The node has a free slot, and no number is left for its next task.
abbrev pub NodeLacksNumber : Cluster → List Event → ℕ → Type 0
NodeLacksNumber cluster h n = (live_on n h < cluster.slots) × (last_number n h ≡ greatest_number)

-- The message is a request that finds a free slot, and no number is left for its child.
abbrev pub LacksNumber : Cluster → List Event → Message → Type 0
LacksNumber cluster h (Request p k n r) = NodeLacksNumber cluster h n
LacksNumber cluster h _ = ⊥

-- The message of this place is such a request.
abbrev pub DeliveryLacksNumber : Cluster → List Event → ℕ → Type 0
DeliveryLacksNumber cluster h nth = (m : Message) × (slice_get (in_flight h) nth ≡ Some m) × LacksNumber cluster h m

-- On the way from one past to a whole one some of the events have come.
abbrev pub IsPartOf : List Event → List Event → List Event → Type 0
IsPartOf h new whole = (later earlier : List Event) × (whole ≡ later ++ new) × (new ≡ earlier ++ h)

-- The past is as it was, or some of the events of the move have come.
abbrev pub IsPartly : (List Event → List Event → Type 0) → List Event → List Event → Type 0
IsPartly Moves h new = (new ≡ h) ⊎ ((whole : List Event) × Moves h whole × IsPartOf h new whole)

-- The history is full, and one event more, at least, belongs to what was to be done, of which these pasts are first parts.
abbrev pub IsCutShort : (List Event → Type 0) → List Event → Type 0
IsCutShort IsPart new = (length new ≡ MAX_EVENTS) × (e : Event) × IsPart (e ∷ new)

-- Why something comes to an early end with this past: the history is full and one of its events was still to come, or a number is lacking, or memory ran out.
abbrev pub Stops : (List Event → Type 0) → Type 0 → List Event → Stop → Type 0
Stops IsPart LacksNumber new HistoryFull = IsCutShort IsPart new
Stops IsPart LacksNumber new NumbersSpent = LacksNumber
Stops IsPart LacksNumber new Memory = ⊤

-- why a delivery does, and a move that needs no number
abbrev pub StopsDelivery : Cluster → List Event → ℕ → List Event → Stop → Type 0
StopsDelivery cluster h nth new stop = Stops (IsPartly (λ x y. Delivers cluster x nth y) h) (DeliveryLacksNumber cluster h nth × (new ≡ h)) new stop

abbrev pub StopsMove : (List Event → List Event → Type 0) → List Event → List Event → Stop → Type 0
StopsMove Moves h new stop = Stops (IsPartly Moves h) ⊥ new stop

-- The event with which a task leaves that a cancellation has stopped, having counted so much: a child that has not passed is refused, and a marked task ends once its asks are answered.
abbrev pub MayLeave : Counts → TaskId → Event → List Event → Type 0
MayLeave counts t (Refuse u c) h = (u ≡ t) × RefuseAllowed t c h
MayLeave counts t (End u reply) h = (u ≡ t) × ((c : ℕ) × (reply ≡ Cancelled t c counts) × EndAllowed t reply h)
MayLeave counts t _ h = ⊥
