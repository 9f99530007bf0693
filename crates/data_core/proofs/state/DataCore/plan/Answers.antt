-- The plan of the task that was found is that of the task.
use Rattle.std.proofs.Common.{◌≡◌, sym, subst}
use Rattle.std.specs.Prelude.{IfOk}
use Rattle.task_work.specs.Works.{place_of}
use Rattle.live_tasks.specs.declared.entry.Entry.{Entry}
use Rattle.data_parts.specs.Steps.{HasCome}
use Rattle.entry_facts.specs.Entries.{writes_for}
use Rattle.data_core.specs.Plans.{plan_for}
use Rattle.data_core.proofs.Stepping.{found_is}
use Rattle.data_core.proofs.state.DataCore.plan.Goals as goal

pub returns-clause-plan : goal.returns-clause-plan
returns-clause-plan c = λ e at come.
    let core = c.args.self.now in
    let x = c.in-Some.entry.now in
    let same = found_is _ x e c.in-Some.ensures at in
    let its = subst (λ (y : Entry). HasCome y.running.work (writes_for core.shards (place_of y.running.work))) same come in
    subst (λ (y : Entry). IfOk c.plan_of.result (λ step. step ≡ plan_for core.shards core.clock y)) (sym same) (c.plan_of.ensures.step (writes_for core.shards (place_of x.running.work)) its.0)
