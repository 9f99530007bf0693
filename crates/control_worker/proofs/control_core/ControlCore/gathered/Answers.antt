-- A part that is not the last stays in what is gathered.
use Rattle.std.proofs.Common.{option_map, sym, ap, ◌∙◌}
use Rattle.std.specs.Global.{Vec}
use Rattle.task_ids.specs.declared.task_info.TaskInfo.{TaskInfo}
use Rattle.control_worker.specs.View.{view_of, gathers_of}
use Rattle.control_worker.proofs.Gathering.{one_after}
use Rattle.control_worker.proofs.control_core.ControlCore.gathered.Goals as goal

pub returns-in_ok-keep_gather-in-None-clause-after : goal.returns-in_ok-keep_gather-in-None-clause-after
returns-in_ok-keep_gather-in-None-clause-after c =
    let given = c.in_ok-gather.ensures in
    let part = c.in_ok-all.ensures in
    let none = sym (ap (option_map (λ (rows : Vec TaskInfo). rows.items)) c.in-None.is) ∙ part.answer in
    one_after c.args.worker c.args.cancel c.args.rows.items (view_of c.args.self.now) c.in_ok-gather.gather c.part.new.self (gathers_of c.take_gather.new.gathers) (gathers_of c.keep_gather.new.gathers)
    (cc) given.gather none part.after given.after c.in_ok-keep_gather-in-None.ensures.ok
