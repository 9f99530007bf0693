-- How far the run of a script has come, and what was noted before each command.
use Rattle.std.specs.Prelude.{◌≡◌, ℕ, ◌+◌, ◌<◌, List, length, slice_get, Option, Some, None}
use Rattle.task_ids.specs.declared.cluster.Cluster.{Cluster}
use Rattle.task_ids.specs.declared.corpus.Corpus.{Corpus}
use Rattle.task_events.specs.declared.event.Event.{Event}
use Rattle.task_events.specs.declared.stop.Stop.{Stop}
use Rattle.task_events.specs.Cancels.{last_command}
use Rattle.task_events.specs.Laws.{IsDrained}
use Rattle.task_events.specs.Turns.{begun, history_before}
use Rattle.script_lang.specs.declared.command.Command.{Command}
use Rattle.script_lang.specs.declared.command.Script.{Script}
use Rattle.world_moves.specs.Cancels.{AllAnswered}
use Rattle.world_steps.specs.Scripts.{HasRun, IsRun, IsRunSoFar, StopsRun}
use Rattle.world_steps.specs.World.{WorldView}
use Rattle.line_print.specs.declared.note.Note.{Note}
use Rattle.line_print.specs.Lines.{note_of, IsFound}

-- before each of the first commands, so many, it was noted what it lists, or why it makes nothing happen if it does not
abbrev pub NotesAll : Cluster → Script → List Event → ℕ → List (Option Note) → Type 0
NotesAll cluster script past n found = (i : ℕ) (command : Command) → i < n → slice_get script.commands i ≡ Some command → slice_get found i ≡ Some (note_of cluster script command (history_before (i + 1) past))

-- The first commands, so many, have run.
pub record HasCome (script : Script) (n : ℕ) (found : List (Option Note)) (world : WorldView) : Type 0 where
  pub reads : world.script ≡ script
  pub goes_on : world.stopped ≡ None
  pub runs : HasRun world.cluster world.corpus world.script n world.past
  pub begun_so_many : begun world.past ≡ n
  pub last : last_command world.past ≡ n
  pub noted : length found ≡ n
  pub notes : NotesAll world.cluster script world.past n found

-- A run came to an early end with this past.
pub record EndsEarly (cluster : Cluster) (corpus : Corpus) (script : Script) (past : List Event) (stop : Stop) : Type 0 where
  pub ran_so_far : IsRunSoFar cluster corpus script past
  pub cause : StopsRun cluster corpus script past stop

-- A run came to its end with this past, and what its lines tell was noted: of each list what it lists, and of each command that made nothing happen why.
pub record EndsWhole (cluster : Cluster) (corpus : Corpus) (script : Script) (past : List Event) (found : List (Option Note)) : Type 0 where
  pub ran : IsRun cluster corpus script past
  pub drained : IsDrained past
  pub answered : AllAnswered past
  pub tells : IsFound cluster script past found
