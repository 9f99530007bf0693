-- What the letters of workers make of a command that has begun.
use Rattle.std.specs.Prelude.{◌≡◌, ℕ, ◌+◌, ◌-◌, ◌^◌, ◌==◌, min, not, ◌&&◌, ◌||◌, Bool, true, false, List, [], ◌∷◌, length, Option, None, Some, IfSome, is_some, slice_get, if◌then◌else◌}
use Rattle.std.specs.Option.{option_eq}
use Rattle.std.specs.Ordering.{is_lt}
use Rattle.child_track.specs.Token.{ReceiptParts}
use Rattle.line_print.specs.declared.reply.LineReply.TheVariants as replies
use Rattle.node_link.specs.declared.body.RootAnswered.{RootAnswered}
use Rattle.node_link.specs.declared.page.Page.{Page}
use Rattle.task_events.specs.declared.answered.AnsweredRequest.{AnsweredRequest}
use Rattle.task_events.specs.declared.answered.AnsweredRequest.TheVariants as told
use Rattle.task_events.specs.declared.reply.Reply.{Reply}
use Rattle.task_events.specs.declared.request.ScrollAsk.{ScrollAsk}
use Rattle.task_ids.specs.TaskIdOrder.{task_id_cmp}
use Rattle.task_ids.specs.declared.task_id.TaskId.{TaskId}
use Rattle.task_ids.specs.declared.task_info.TaskInfo.{TaskInfo}
use Rattle.data_pool.specs.Gathered as gather
use Rattle.data_pool.specs.Gathered.{Gathered}
use Rattle.run_book.specs.Told.{all_told, is_whole, with_part}
use Rattle.run_book.specs.Listing.{listed}
use Rattle.run_book.specs.declared.entry.Answer.{Answer}
use Rattle.run_book.specs.declared.entry.Naming.{Naming}
use Rattle.run_book.specs.declared.entry.PageNote.{PageNote}
use Rattle.run_book.specs.declared.entry.RootAsk.{RootAsk}
use Rattle.run_book.specs.declared.entry.RootAsk.TheVariants as roots
use Rattle.run_book.specs.declared.entry.SentPage.{SentPage}
use Rattle.run_book.specs.declared.entry.State.{State}
use Rattle.run_book.specs.declared.entry.State.TheVariants as states
use Rattle.run_book.specs.declared.entry.Waits.TheVariants as waits

abbrev pub same_bool : Bool → Bool → Bool
same_bool true b = b
same_bool false b = not b

abbrev pub same_id : TaskId → TaskId → Bool
same_id a b = (a.node == b.node) && (a.number == b.number)

-- ---- receipts

-- a task comes after another, and any after none
abbrev pub is_later_task : Option TaskId → Option TaskId → Bool
is_later_task (Some task) (Some other) = is_lt (task_id_cmp other task)
is_later_task (Some task) None = true
is_later_task None other = false

-- the later of two receipts, by the ids of their tasks
abbrev pub later_of : Option ReceiptParts → Option ReceiptParts → Option ReceiptParts
later_of (Some first) (Some second) = if is_later_task second.task first.task then Some second else Some first
later_of (Some first) None = Some first
later_of None other = other

-- the receipt, if there is one, is that of this task
abbrev pub is_receipt_of : TaskId → Option ReceiptParts → Bool
is_receipt_of task None = false
is_receipt_of task (Some receipt) = option_eq same_id receipt.task (Some task)

-- it is that of this task, if there is one
abbrev pub is_of_last : Option TaskId → Option ReceiptParts → Bool
is_of_last None receipt = true
is_of_last (Some last) receipt = is_receipt_of last receipt

-- it is that of the last of these tasks, or there is none
abbrev pub shows_last : List TaskId → Option ReceiptParts → Bool
shows_last tasks receipt = is_of_last (slice_get tasks (length tasks - 1)) receipt

-- ---- cancels by a filter

-- each node has named its tasks, and each of these is cancelled; a cancel that waits has the receipt of the last
abbrev pub is_settled : Naming → Bool
is_settled naming = is_whole naming.named && ((naming.done == naming.tasks) && (not naming.wait || shows_last (all_told naming.named) naming.receipt))

-- its answer, once it has one
abbrev pub settled : Naming → State
settled naming =
    if is_settled naming
    then states.Answered (record { reply = replies.Cancelled (all_told naming.named) naming.wait; receipt = naming.receipt; page = None })
    else states.Waits (waits.Naming naming)

-- a count that goes no higher than the machine's numbers
abbrev pub counted : ℕ → ℕ → ℕ
counted count more = min (count + more) (2 ^ 64 - 1)

-- a node names its tasks
abbrev pub with_named : Naming → ℕ → List TaskId → Naming
with_named naming node tasks = record naming { named = with_part naming.named node tasks; tasks = counted naming.tasks (length tasks) }

-- one of the tasks is cancelled
abbrev pub with_done : Naming → Option ReceiptParts → Naming
with_done naming receipt = record naming { done = counted naming.done 1; receipt = later_of naming.receipt receipt }

-- ---- lists

-- it has its answer once all rows are there
abbrev pub list_by : Gathered → ℕ → Option (List TaskInfo) → State
list_by gathered now None = states.Waits (waits.Rows gathered now)
list_by gathered now (Some rows) = states.Answered (record { reply = replies.Listed (listed now rows) now; receipt = None; page = None })

-- A data worker gives its part. A second one, and one of a worker that is not there, is passed over.
abbrev pub with_rows : Gathered → ℕ → Option ℕ → List TaskInfo → State
with_rows gathered now None rows = states.Waits (waits.Rows gathered now)
with_rows gathered now (Some part) rows =
    if gather.takes gathered part
    then list_by (gather.with_part gathered part rows) now (gather.answer_of (gather.with_part gathered part rows))
    else states.Waits (waits.Rows gathered now)

-- ---- each letter

-- one of the tasks that were named is cancelled
abbrev pub after_one_of : Naming → Option ReceiptParts → State
after_one_of naming receipt = if same_bool naming.wait (is_some receipt) then settled (with_done naming receipt) else states.Waits (waits.Naming naming)

-- a task is cancelled as a cancel wants it: where that waits, there is a receipt
abbrev pub after_cancelled : State → TaskId → Option ReceiptParts → State
after_cancelled (states.Waits (waits.Cancel named wait)) task receipt =
    if same_id named task && same_bool wait (is_some receipt)
    then states.Answered (record { reply = replies.Cancelled (task ∷ []) wait; receipt = receipt; page = None })
    else states.Waits (waits.Cancel named wait)
after_cancelled (states.Waits (waits.Naming naming)) task receipt = after_one_of naming receipt
after_cancelled (states.Waits (waits.Root asked)) task receipt = states.Waits (waits.Root asked)
after_cancelled (states.Waits (waits.Rows rows now)) task receipt = states.Waits (waits.Rows rows now)
after_cancelled (states.Answered answer) task receipt = states.Answered answer
after_cancelled states.Told task receipt = states.Told

-- its node has no such task
abbrev pub after_not_found : State → State
after_not_found (states.Waits (waits.Cancel task wait)) = states.Answered (record { reply = replies.NotFound (Some task); receipt = None; page = None })
after_not_found (states.Waits (waits.Naming naming)) = states.Waits (waits.Naming naming)
after_not_found (states.Waits (waits.Root asked)) = states.Waits (waits.Root asked)
after_not_found (states.Waits (waits.Rows rows now)) = states.Waits (waits.Rows rows now)
after_not_found (states.Answered answer) = states.Answered answer
after_not_found states.Told = states.Told

-- a node names its tasks
abbrev pub after_named : ℕ → List TaskId → State → State
after_named node tasks (states.Waits (waits.Naming naming)) = settled (with_named naming node tasks)
after_named node tasks (states.Waits (waits.Cancel task wait)) = states.Waits (waits.Cancel task wait)
after_named node tasks (states.Waits (waits.Root asked)) = states.Waits (waits.Root asked)
after_named node tasks (states.Waits (waits.Rows rows now)) = states.Waits (waits.Rows rows now)
after_named node tasks (states.Answered answer) = states.Answered answer
after_named node tasks states.Told = states.Told

-- a data worker of this number tells its live tasks
abbrev pub after_rows : Option ℕ → List TaskInfo → State → State
after_rows part rows (states.Waits (waits.Rows gathered now)) = with_rows gathered now part rows
after_rows part rows (states.Waits (waits.Naming naming)) = states.Waits (waits.Naming naming)
after_rows part rows (states.Waits (waits.Cancel task wait)) = states.Waits (waits.Cancel task wait)
after_rows part rows (states.Waits (waits.Root asked)) = states.Waits (waits.Root asked)
after_rows part rows (states.Answered answer) = states.Answered answer
after_rows part rows states.Told = states.Told

-- ---- roots

-- the command whose search a root looks through: the one that opened the context of its page, or its own
abbrev pub searched : ℕ → RootAsk → ℕ
searched command roots.Search = command
searched command (roots.Page sent) = sent.page.search
searched command roots.Reindex = command

-- the page that it was sent, if it was sent one, and the ask by which it uses its context
abbrev pub page_noted : RootAsk → Option PageNote
page_noted roots.Search = None
page_noted (roots.Page sent) = Some sent.page
page_noted roots.Reindex = None

abbrev pub page_used : RootAsk → Option ScrollAsk
page_used roots.Search = None
page_used (roots.Page sent) = Some sent.ask
page_used roots.Reindex = None

-- A request is for the page that was sent: of the same context, and after the same cursor where it tells one.
pub record IsPageSent (sent : SentPage) (ask : ScrollAsk) (page : Option Page) : Type 0 where
  pub context : ask.id ≡ sent.ask.id
  pub cursor : IfSome page (λ p. p.after ≡ sent.page.after)

-- An answer is to a request of this kind, and to the page that was sent.
abbrev pub IsFor : RootAsk → AnsweredRequest → Option Page → Type 0
IsFor roots.Search (told.Search ask) page = Unit {0}
IsFor (roots.Page sent) (told.Scroll ask) page = IsPageSent sent ask page
IsFor roots.Reindex (told.Reindex ask) page = Unit {0}
IsFor _ _ page = ⊥

-- It is to what the root was asked for.
pub record IsAnswerTo (asked : RootAsk) (answered : RootAnswered) : Type 0 where
  pub search : answered.place.search ≡ searched answered.place.command asked
  pub kind : IsFor asked answered.request answered.page

abbrev pub IsToState : State → RootAnswered → Type 0
IsToState (states.Waits (waits.Root asked)) answered = IsAnswerTo asked answered
IsToState (states.Waits (waits.Naming naming)) answered = ⊥
IsToState (states.Waits (waits.Cancel task wait)) answered = ⊥
IsToState (states.Waits (waits.Rows rows now)) answered = ⊥
IsToState (states.Answered answer) answered = ⊥
IsToState states.Told answered = ⊥

-- its root has ended, or was rejected
abbrev pub after_root : Reply → State → State
after_root reply (states.Waits (waits.Root asked)) = states.Answered (record { reply = replies.Task reply; receipt = None; page = page_noted asked })
after_root reply (states.Waits (waits.Naming naming)) = states.Waits (waits.Naming naming)
after_root reply (states.Waits (waits.Cancel task wait)) = states.Waits (waits.Cancel task wait)
after_root reply (states.Waits (waits.Rows rows now)) = states.Waits (waits.Rows rows now)
after_root reply (states.Answered answer) = states.Answered answer
after_root reply states.Told = states.Told

-- of a command that waits for the end of its root, the ask by which that uses a context, if it uses one
abbrev pub root_awaited : State → Option (Option ScrollAsk)
root_awaited (states.Waits (waits.Root asked)) = Some (page_used asked)
root_awaited (states.Waits (waits.Naming naming)) = None
root_awaited (states.Waits (waits.Cancel task wait)) = None
root_awaited (states.Waits (waits.Rows rows now)) = None
root_awaited (states.Answered answer) = None
root_awaited states.Told = None

-- ---- taking the answer

abbrev pub answer_in : State → Option Answer
answer_in (states.Waits awaited) = None
answer_in (states.Answered answer) = Some answer
answer_in states.Told = None

-- the state without its answer
abbrev pub without_answer : State → State
without_answer (states.Waits awaited) = states.Waits awaited
without_answer (states.Answered answer) = states.Told
without_answer states.Told = states.Told
