use Rattle.std.proofs.Common.{◌∙◌, true, false, sym}
use Rattle.std.specs.BTreeSet.{contains}
use Rattle.task_ids.specs.TaskIdOrder.{task_id_cmp}
use Rattle.world_steps.specs.World.{ready_in}
use Rattle.world_moves.proofs.KeptTasks.{known_at}
use Rattle.world_steps.proofs.ready.note_ready.Goals as goal

pub returns-then-not-is_ready-clause-known : goal.returns-then-not-is_ready-clause-known
returns-then-not-is_ready-clause-known c =
    let s = c.args.state.now in
    known_at c.args.task false (contains task_id_cmp c.args.tasks.now) (contains task_id_cmp c.remove.new.self) (ready_in s) c.remove.ensures.updates.0 (sym c.if-not-is_ready.ensures)

pub returns-in-Ok-clause-known : goal.returns-in-Ok-clause-known
returns-in-Ok-clause-known c =
    let s = c.args.state.now in
    known_at c.args.task true (contains task_id_cmp c.args.tasks.now) (contains task_id_cmp c.insert.new.self) (ready_in s) c.in-Ok.ensures.updates.0 (sym c.is_ready.ensures ∙ c.if-not-is_ready.false)
