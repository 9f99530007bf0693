-- The registration of a task.
use Rattle.std.specs.Prelude.{◌≡◌, ℕ, List, [], ◌∷◌, ◌++◌, Bool, true, false, is_some, Option, None, Some, option_copied}
use Rattle.task_ids.specs.declared.task_id.TaskId.{TaskId}
use Rattle.task_ids.specs.declared.doc.Doc.{Doc}
use Rattle.child_track.specs.Token.{Token, token_parent}
use Rattle.child_track.specs.Track.{new_track}
use Rattle.task_events.specs.Answered.{as_answered}
use Rattle.task_table.specs.TicketParts.{TicketParts}
use Rattle.task_work.specs.Awaiting.{IsSoundSearch}
use Rattle.task_work.specs.Plans.{IsWorkAt, no_progress}
use Rattle.task_work.specs.declared.work.Work.{Work}
use Rattle.task_work.specs.Works.{IsNewWork, IsBegun, IsWorkOn}
use Rattle.node_boards.specs.Calls.{DataCall}
use Rattle.node_boards.specs.Calls as call
use Rattle.node_parts.specs.Starting.{task_for, page_in}
use Rattle.live_tasks.specs.declared.entry.Entry.{Entry}
use Rattle.live_tasks.specs.declared.registering.Registered.{Registered}
use Rattle.live_tasks.specs.declared.registering.Registered.TheVariants.{Task, Full}
use Rattle.live_tasks.specs.declared.wanted.Parts.{Parts}
use Rattle.live_tasks.specs.declared.wanted.Wanted.{Wanted}

-- a number is drawn, unless one is left unused
abbrev pub drawing : Option ℕ → ℕ → List DataCall
drawing None number = call.draw (Some number) ∷ []
drawing (Some _) number = []

-- and it is claimed with
abbrev pub registering : Option ℕ → ℕ → Option TaskId → Bool → List DataCall
registering drawn number parent is_claimed = drawing drawn number ++ call.claim number parent is_claimed ∷ []

-- a task is live, and the slots were not full
abbrev pub is_task : Registered → Bool
is_task (Task id) = true
is_task (Full token) = false

-- The work of the task with this id that is wanted: it has done nothing.
pub record IsWorkFor (id : TaskId) (wanted : Wanted) (shards : ℕ) (work : Work) : Type 0 where
  pub new : IsNewWork id wanted.request.now shards (option_copied wanted.context) work
  pub begun : IsBegun id wanted.request.now shards work
  pub on : (writes : List Doc) → IsWorkOn work writes
  pub at : (writes : List Doc) → IsWorkAt id wanted.request.now shards (no_progress (option_copied wanted.context)) writes work
  pub sound : IsSoundSearch work

-- What the task with this id is made of: it has done nothing, and carries what its request carries.
pub record AreParts (id : TaskId) (parent : Option TaskId) (wanted : Wanted) (shards now : ℕ) (p : Parts) : Type 0 where
  pub place : p.place ≡ wanted.place
  pub shows : p.shows ≡ page_in wanted.request.now
  pub headers : p.headers ≡ wanted.headers.now
  pub info : p.info ≡ task_for wanted.request.now parent now wanted.headers.now
  pub request : p.request ≡ as_answered wanted.request.now
  pub page : p.page ≡ option_copied wanted.page
  pub work : IsWorkFor id wanted shards p.work

-- the live task of a ticket, which has asked for nothing; a child is new
abbrev pub new_entry : TicketParts → Parts → Entry
new_entry ticket p = record {
  running = record {
    ticket = ticket;
    track = new_track ticket.id;
    work = p.work;
    page = p.shows;
    is_new = is_some (token_parent ticket.token);
    headers = p.headers;
  };
  place = p.place;
  info = p.info;
  request = p.request;
  page = p.page;
  asked = [];
}

-- the live task that a registration makes
pub record IsNewEntry (id : TaskId) (token : Option Token) (wanted : Wanted) (shards now : ℕ) (e : Entry) : Type 0 where
  pub parts : Parts
  pub made : AreParts id (token_parent token) wanted shards now parts
  pub is : e ≡ new_entry (record { id = id; token = token }) parts
