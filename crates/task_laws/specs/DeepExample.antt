-- A short history three tasks deep: the ban of the root is acknowledged only when the child's own ban is.
use Rattle.std.specs.Prelude.{false, List, [], ◌∷◌}
use Rattle.task_ids.specs.declared.task_id.TaskId.{TaskId}
use Rattle.task_events.specs.declared.event.Event.{Event}
use Rattle.task_events.specs.declared.event.Event.TheVariants.{Begin, Root, Ask, Put, Pass, Cancel, Mark, BanPut, Listed, Acked, AnswerPlaced}
use Rattle.task_laws.specs.Example.{asked}

abbrev pub until_deep_cancel : TaskId → TaskId → TaskId → List Event
until_deep_cancel root child grandchild =
    Pass grandchild
    ∷ Put grandchild child 1
    ∷ Ask child 1 3 asked
    ∷ Pass child
    ∷ Put child root 1
    ∷ Ask root 1 2 asked
    ∷ Root 1 root
    ∷ Begin 1
    ∷ []

-- The listing for the root has ended, and awaits the child; the grandchild asked nobody, so that it has stopped as soon
-- as it is marked, and the child's ban is acknowledged.
abbrev pub until_deep_listed : TaskId → TaskId → TaskId → List Event
until_deep_listed root child grandchild =
    Listed 3 child
    ∷ Mark grandchild 2
    ∷ BanPut 3 child 2
    ∷ Listed 2 root
    ∷ Mark child 2
    ∷ BanPut 2 root 2
    ∷ Mark root 2
    ∷ Cancel 2 root false
    ∷ Begin 2
    ∷ until_deep_cancel root child grandchild

abbrev pub deep_example : TaskId → TaskId → TaskId → List Event
deep_example root child grandchild =
    AnswerPlaced 2
    ∷ Acked root 2
    ∷ Acked child 3
    ∷ until_deep_listed root child grandchild
