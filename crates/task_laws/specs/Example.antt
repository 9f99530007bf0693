-- A short history in which a waiting cancellation meets an early child, a late one, and a rejected request.
use Rattle.std.specs.Prelude.{ℕ, ◌≡◌, true, List, [], ◌∷◌}
use Rattle.task_ids.specs.declared.task_id.TaskId.{TaskId}
use Rattle.task_events.specs.declared.request.Request.{Request}
use Rattle.task_events.specs.declared.request.Request.TheVariants.{Fetch}
use Rattle.task_events.specs.declared.reply.Reply.TheVariants.{Cancelled}
use Rattle.task_events.specs.declared.event.Event.{Event}
use Rattle.task_events.specs.declared.event.Event.TheVariants.{Begin, Root, Ask, Put, Reject, Pass, Refuse, Cancel, Mark, BanPut, Listed, Acked, BanGone, Work, Answered, End, AnswerDone}
use Rattle.task_events.specs.Tasks.{no_counts}

-- the id with this node and number
abbrev pub IsId : TaskId → ℕ → ℕ → Type 0
IsId t node number = (t.node ≡ node) × (t.number ≡ number)

-- a request; which one does not matter here
abbrev pub asked : Request
asked = Fetch (record { index = []; shard = 0; version = 0; places = [] })

-- the root's third ask is sent to a node that is full by the time its request comes
abbrev pub until_cancel : TaskId → TaskId → List Event
until_cancel root early =
    Work early
    ∷ Pass early
    ∷ Put early root 1
    ∷ Ask root 3 2 asked
    ∷ Ask root 2 2 asked
    ∷ Ask root 1 2 asked
    ∷ Root 1 root
    ∷ Begin 1
    ∷ []

abbrev pub until_listed : TaskId → TaskId → TaskId → List Event
until_listed root early late =
    Listed 2 root
    ∷ Mark early 2
    ∷ Refuse late 2
    ∷ Reject 2 root 3
    ∷ Put late root 2
    ∷ BanPut 2 root 2
    ∷ Mark root 2
    ∷ Cancel 2 root true
    ∷ Begin 2
    ∷ until_cancel root early

abbrev pub example : TaskId → TaskId → TaskId → List Event
example root early late =
    BanGone 2 root
    ∷ AnswerDone 2
    ∷ End root (Cancelled root 2 no_counts)
    ∷ Answered root 1
    ∷ End early (Cancelled early 2 no_counts)
    ∷ Answered root 3
    ∷ Answered root 2
    ∷ Acked root 2
    ∷ until_listed root early late
