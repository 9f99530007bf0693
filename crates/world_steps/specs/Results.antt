-- What the world knows of the results of tasks, by what has happened.
use Rattle.std.specs.Prelude.{◌≡◌, ℕ, List}
use Rattle.std.specs.BTreeMap.{BTreeMap}
use Rattle.std.specs.BTreeMap as tree
use Rattle.std.specs.BTreeSet.{contains}
use Rattle.std.specs.FinMap.{empty}
use Rattle.std.specs.Ordering.{nat_cmp}
use Rattle.task_ids.specs.declared.task_id.TaskId.{TaskId}
use Rattle.task_ids.specs.TaskIdOrder.{task_id_cmp}
use Rattle.task_events.specs.declared.event.Event.{Event}
use Rattle.task_results.specs.Stands.{is_stored, results_at}
use Rattle.script_lang.specs.declared.command.Script.{Script}
use Rattle.command_roots.specs.Results.{keeping}
use Rattle.command_roots.specs.Roots.{root_of}
use Rattle.world_steps.specs.declared.results.KnownResults.{KnownResults}

-- the task of each command that started one
abbrev pub KnowsRoots : List Event → BTreeMap ℕ TaskId → Type 0
KnowsRoots h roots = (k : ℕ) → tree.get nat_cmp roots k ≡ root_of k h

-- The table has the results that stand, and nobody waits there.
pub record KnowsResults (script : Script) (h : List Event) (results : KnownResults) : Type 0 where
  pub table : results.table ≡ record { kept = results_at (keeping script) h; waiting = empty }
  pub storing : (t : TaskId) → contains task_id_cmp results.storing t ≡ is_stored (keeping script) t h
  pub roots : KnowsRoots h results.roots
