-- A reindex whose reply is stored: it is looked at while it runs and when it has ended, and then its result is forgotten.
use Rattle.std.specs.Prelude.{List, [], ◌∷◌, Bool, false, ◌==◌, Some, None, if◌then◌else◌}
use Rattle.task_ids.specs.declared.task_id.TaskId.{TaskId}
use Rattle.task_events.specs.declared.event.Event.{Event}
use Rattle.task_events.specs.declared.event.Event.TheVariants.{Begin, Root, Work, Cancel, Mark, AnswerPlaced, End}
use Rattle.task_events.specs.declared.reply.Counts.{Counts}
use Rattle.task_events.specs.declared.reply.Reply.{Reply}
use Rattle.task_events.specs.declared.reply.Reply.TheVariants.{Wrote, Cancelled}
use Rattle.task_results.specs.Stands.{Keeping}

-- command 1 is the reindex, and command 5 forgets its result
abbrev pub script : Bool → TaskId → Keeping
script store t = record { stores = λ k. if k == 1 then store else false; forgets = λ k h. if k == 5 then Some t else None }

-- all five documents were written
abbrev pub reply : Reply
reply = Wrote (record { total = 5; created = 5; updated = 0; batches = 1; failures = 0 })

-- command 2 looks while the task runs
abbrev pub running : TaskId → List Event
running t = Begin 2 ∷ Root 1 t ∷ Begin 1 ∷ []

-- command 3 settles, and command 4 looks
abbrev pub over : TaskId → List Event
over t = Begin 4 ∷ End t reply ∷ Work t ∷ Begin 3 ∷ running t

-- command 5 forgets, and command 6 looks
abbrev pub forgotten : TaskId → List Event
forgotten t = Begin 6 ∷ Begin 5 ∷ over t

-- ---- a reindex that a cancel ends while a command waits for it

-- the first two of five were written
abbrev pub half : Counts
half = record { total = 5; created = 2; updated = 0; batches = 1; failures = 0 }

-- command 3 waits, and command 4 cancels
abbrev pub marked : TaskId → List Event
marked t = AnswerPlaced 4 ∷ Mark t 4 ∷ Cancel 4 t false ∷ Begin 4 ∷ Begin 3 ∷ Work t ∷ running t

-- command 5 settles, and command 6 lists
abbrev pub cancelled : TaskId → List Event
cancelled t = Begin 6 ∷ End t (Cancelled t 4 half) ∷ Begin 5 ∷ marked t
