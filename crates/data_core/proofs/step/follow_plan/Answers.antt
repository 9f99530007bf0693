-- The plan is that of the task over its shard, so what is done for it is what is to be done.
use Rattle.std.proofs.Common.{None, refl, sym, ap, ◌∙◌, subst}
use Rattle.std.specs.Prelude.{IfOk, option_map}
use Rattle.task_events.specs.declared.step.Do.TheVariants.{Wait}
use Rattle.run_facts.specs.Cancels.{cancels_of}
use Rattle.live_tasks.specs.Live.{entry_at}
use Rattle.entry_facts.proofs.Live.{each_at}
use Rattle.data_core.specs.Cores.{IsGoodEntry}
use Rattle.data_core.specs.Steps.{DoesPlan}
use Rattle.data_core.proofs.Cases.{id_there}
use Rattle.data_core.proofs.Planning.{plan_asks, plan_turns, plan_ends}
use Rattle.data_core.proofs.step.follow_plan.Goals as goal

pub ask_next-requires-clause-asks : goal.ask_next-requires-clause-asks
ask_next-requires-clause-asks g c =
    let old = c.args.core.now in
    let there = id_there c.args.task (entry_at old.live c.args.task.number) c.requires.live in
    let good = each_at (IsGoodEntry (cancels_of g.W.Run.cancels) old.shards) old.live c.requires.sound.good c.args.task.number there.0 there.1 in
    plan_asks (cancels_of g.W.Run.cancels) old.shards old.clock there.0 good _ there.1 c.in-AskNext.request (sym c.in-AskNext.is ∙ c.in_ok-request.ensures.plan there.0 there.1 good.come)

pub ask_next-requires-clause-planned : goal.ask_next-requires-clause-planned
ask_next-requires-clause-planned g c = λ e at.
    let old = c.args.core.now in
    let good = each_at (IsGoodEntry (cancels_of g.W.Run.cancels) old.shards) old.live c.requires.sound.good c.args.task.number e at in
    sym (c.in_ok-request.ensures.plan e at good.come) ∙ c.in-AskNext.is

pub finish-requires-clause-planned : goal.finish-requires-clause-planned
finish-requires-clause-planned g c = λ e at.
    let old = c.args.core.now in
    let good = each_at (IsGoodEntry (cancels_of g.W.Run.cancels) old.shards) old.live c.requires.sound.good c.args.task.number e at in
    sym (c.in_ok-request.ensures.plan e at good.come) ∙ c.in-Finish.is

pub take_turn-requires-clause-turns : goal.take_turn-requires-clause-turns
take_turn-requires-clause-turns g c =
    let old = c.args.core.now in
    let there = id_there c.args.task (entry_at old.live c.args.task.number) c.requires.live in
    let good = each_at (IsGoodEntry (cancels_of g.W.Run.cancels) old.shards) old.live c.requires.sound.good c.args.task.number there.0 there.1 in
    plan_turns (cancels_of g.W.Run.cancels) old.shards old.clock there.0 good _ there.1 (sym c.in-Turn.is ∙ c.in_ok-request.ensures.plan there.0 there.1 good.come)

pub finish-requires-clause-ending : goal.finish-requires-clause-ending
finish-requires-clause-ending g c =
    let old = c.args.core.now in
    let there = id_there c.args.task (entry_at old.live c.args.task.number) c.requires.live in
    let good = each_at (IsGoodEntry (cancels_of g.W.Run.cancels) old.shards) old.live c.requires.sound.good c.args.task.number there.0 there.1 in
    plan_ends (cancels_of g.W.Run.cancels) old.shards old.clock there.0 good _ there.1 c.in-Finish.reply (sym c.in-Finish.is ∙ c.in_ok-request.ensures.plan there.0 there.1 good.come)

pub returns-in-AskNext-clause-steps : goal.returns-in-AskNext-clause-steps
returns-in-AskNext-clause-steps g c = λ e at.
    let old = c.args.core.now in
    let good = each_at (IsGoodEntry (cancels_of g.W.Run.cancels) old.shards) old.live c.requires.sound.good c.args.task.number e at in
    subst (λ d. IfOk c.ask_next.result (λ given. DoesPlan g.B.DataBoard.rests d e c.args.board.now old (option_map (λ posts. posts.items) given) c.ask_next.new.core c.ask_next.new.board)) (sym c.in-AskNext.is ∙ c.in_ok-request.ensures.plan e at good.come) (c.ask_next.ensures.steps e at)

pub returns-in-Turn-clause-steps : goal.returns-in-Turn-clause-steps
returns-in-Turn-clause-steps g c = λ e at.
    let old = c.args.core.now in
    let good = each_at (IsGoodEntry (cancels_of g.W.Run.cancels) old.shards) old.live c.requires.sound.good c.args.task.number e at in
    subst (λ d. IfOk c.take_turn.result (λ given. DoesPlan g.B.DataBoard.rests d e c.args.board.now old (option_map (λ posts. posts.items) given) c.take_turn.new.core c.take_turn.new.board)) (sym c.in-Turn.is ∙ c.in_ok-request.ensures.plan e at good.come) (c.take_turn.ensures.steps e at)

pub returns-in-Finish-clause-steps : goal.returns-in-Finish-clause-steps
returns-in-Finish-clause-steps g c = λ e at.
    let old = c.args.core.now in
    let good = each_at (IsGoodEntry (cancels_of g.W.Run.cancels) old.shards) old.live c.requires.sound.good c.args.task.number e at in
    subst (λ d. IfOk c.finish.result (λ given. DoesPlan g.B.DataBoard.rests d e c.args.board.now old (option_map (λ posts. posts.items) given) c.finish.new.core c.finish.new.board)) (sym c.in-Finish.is ∙ c.in_ok-request.ensures.plan e at good.come) (c.finish.ensures.steps e at)

pub returns-in-Wait-None-clause-steps : goal.returns-in-Wait-None-clause-steps
returns-in-Wait-None-clause-steps g c = λ e at.
    let b = c.args.board.now in
    let old = c.args.core.now in
    let good = each_at (IsGoodEntry (cancels_of g.W.Run.cancels) old.shards) old.live c.requires.sound.good c.args.task.number e at in
    subst (λ d. DoesPlan g.B.DataBoard.rests d e b old None old b) (ap Wait (sym c.in-Wait-None.field-0-is) ∙ sym c.in-Wait-None.is ∙ c.in_ok-request.ensures.plan e at good.come) (record { none = refl; same = refl; uncalled = refl })

pub returns-in-Wait-Some-clause-steps : goal.returns-in-Wait-Some-clause-steps
returns-in-Wait-Some-clause-steps g c = λ e at.
    let old = c.args.core.now in
    let good = each_at (IsGoodEntry (cancels_of g.W.Run.cancels) old.shards) old.live c.requires.sound.good c.args.task.number e at in
    subst (λ d. IfOk c.await_moment.result (λ given. DoesPlan g.B.DataBoard.rests d e c.args.board.now old (option_map (λ posts. posts.items) given) c.await_moment.new.core c.await_moment.new.board)) (ap Wait (sym c.in-Wait-Some.field-0-is) ∙ sym c.in-Wait-Some.is ∙ c.in_ok-request.ensures.plan e at good.come) (c.await_moment.ensures.steps e at)
