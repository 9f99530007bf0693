-- What is known of the task decides what its step is.
use Rattle.std.proofs.Common.{sym, ap, ◌∙◌, subst}
use Rattle.std.specs.Prelude.{IfSome}
use Rattle.std.proofs.lemmas.Result.{IfOk-weaker}
use Rattle.node_link.specs.Lawful.{IsCancelOfRun}
use Rattle.run_facts.specs.Cancels.{cancels_of}
use Rattle.live_tasks.specs.declared.entry.Entry.{Entry}
use Rattle.live_tasks.specs.Ties.{IsNew, IsPassed}
use Rattle.entry_facts.proofs.Live.{each_at}
use Rattle.data_core.specs.Cores.{IsGoodEntry}
use Rattle.data_core.specs.Plans.{IsOpen}
use Rattle.data_core.proofs.Stepping.{found_is, new_step, marked_step, planned_step}
use Rattle.data_core.proofs.step.data_step.Goals as goal

pub first_step-requires-clause-new : goal.first_step-requires-clause-new
first_step-requires-clause-new g c = subst IsNew c.in-Some.ensures c.if-is_new.true

pub follow_plan-requires-clause-passed : goal.follow_plan-requires-clause-passed
follow_plan-requires-clause-passed g c = subst IsPassed c.in-Some.ensures c.if-is_new.false

pub follow_plan-requires-clause-unmarked : goal.follow_plan-requires-clause-unmarked
follow_plan-requires-clause-unmarked g c = subst IsOpen c.in-Some.ensures (sym c.in-None.ensures.number)

pub finish-requires-clause-ending : goal.finish-requires-clause-ending
finish-requires-clause-ending g c =
    let old = c.args.core.now in
    let allowed = cancels_of g.W.Run.cancels in
    let good = each_at (IsGoodEntry allowed old.shards) old.live c.requires.sound.good c.args.task.number c.in-Some.entry.now (sym c.in-Some.ensures) in
    subst (λ o. IfSome o (IsCancelOfRun allowed)) (sym c.in-Some-closed.ensures.number) good.mark

pub finish-requires-clause-planned : goal.finish-requires-clause-planned
finish-requires-clause-planned g c = λ e at. tt

pub returns-then-is_new-clause-steps : goal.returns-then-is_new-clause-steps
returns-then-is_new-clause-steps g c = λ e at.
    let x = c.in-Some.entry.now in
    let same = found_is _ x e c.in-Some.ensures at in
    IfOk-weaker c.first_step.result _ _
    (λ given p. new_step g.B.DataBoard.rests e c.args.board.now c.args.core.now _ c.first_step.new.core c.first_step.new.board (ap (λ (y : Entry). y.running.is_new) same ∙ c.if-is_new.true) p)
    (c.first_step.ensures.steps e at)

pub returns-in-Some-closed-clause-steps : goal.returns-in-Some-closed-clause-steps
returns-in-Some-closed-clause-steps g c = λ e at.
    let x = c.in-Some.entry.now in
    let same = found_is _ x e c.in-Some.ensures at in
    IfOk-weaker c.finish.result _ _
    (λ given p. marked_step g.B.DataBoard.rests e c.args.board.now c.args.core.now _ c.finish.new.core c.finish.new.board c.in-Some-closed.cancel (ap (λ (y : Entry). y.running.is_new) same ∙ c.if-is_new.false) (ap (λ (y : Entry). y.running.track.closed) same ∙ sym c.in-Some-closed.ensures.number) p)
    (c.finish.ensures.steps e at)

pub returns-in-None-clause-steps : goal.returns-in-None-clause-steps
returns-in-None-clause-steps g c = λ e at.
    let x = c.in-Some.entry.now in
    let same = found_is _ x e c.in-Some.ensures at in
    IfOk-weaker c.follow_plan.result _ _
    (λ given p. planned_step g.B.DataBoard.rests e c.args.board.now c.args.core.now _ c.follow_plan.new.core c.follow_plan.new.board (ap (λ (y : Entry). y.running.is_new) same ∙ c.if-is_new.false) (ap (λ (y : Entry). y.running.track.closed) same ∙ sym c.in-None.ensures.number) p)
    (c.follow_plan.ensures.steps e at)
