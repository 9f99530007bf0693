-- A mark ends the task, and without one it works on.
use Rattle.std.proofs.Common.{None, Some}
use Rattle.std.proofs.lemmas.Result.{IfOk-weaker}
use Rattle.live_tasks.specs.Entries.{after_look}
use Rattle.live_tasks.specs.Live.{entry_at}
use Rattle.entry_facts.proofs.Cores.{task_goes_on}
use Rattle.entry_facts.proofs.Entries.{looked_of_run}
use Rattle.data_core.specs.Plans.{TurnsNext}
use Rattle.data_core.specs.Steps.{Works}
use Rattle.data_core.proofs.Cases.{id_there, of_run}
use Rattle.data_core.proofs.Good.{looked_good}
use Rattle.data_core.proofs.Kept.{change_sound}
use Rattle.data_core.proofs.Sound.{then_self}
use Rattle.data_core.proofs.Stepping.{its_id, still_live, stays_so, tasks_self, looks_so}
use Rattle.data_core.proofs.step.take_turn.Goals as goal

pub finish-requires : goal.finish-requires
finish-requires g c =
    let old = c.args.core.now in
    let t = c.args.task in
    let live = c.look.new.self in
    let there = id_there t (entry_at old.live t.number) c.requires.live in
    let e = there.0 in
    let cancel = c.in-Some.cancel in
    let of = of_run g.W.Run.cancels cancel c.in-Some.ensures.allowed in
    let change = c.in-Some.ensures.looked e there.1 in
    record {
      sound = change_sound _ _ _ _ _ _ _ _ _ old live t.number e (after_look e (Some cancel)) c.requires.sound c.look.ensures.together c.look.ensures.core there.1 change (looked_good _ old.shards e (Some cancel) of);
      of_run = task_goes_on g.W.Run.setting _ old.shards old.live c.requires.of_run live t.number e (after_look e (Some cancel)) there.1 change (looked_of_run g.W.Run.setting old.shards e (Some cancel));
      live = still_live old.live live t (after_look e (Some cancel)) change there.2;
      ending = of;
      planned = λ f at. tt;
    }

pub work_on-requires : goal.work_on-requires
work_on-requires g c =
    let old = c.args.core.now in
    let t = c.args.task in
    let live = c.look.new.self in
    let there = id_there t (entry_at old.live t.number) c.requires.live in
    let e = there.0 in
    let change = c.in-None.ensures.looked e there.1 in
    record {
      sound = change_sound _ _ _ _ _ _ _ _ _ old live t.number e e c.requires.sound c.look.ensures.together c.look.ensures.core there.1 change (λ good. good);
      of_run = task_goes_on g.W.Run.setting _ old.shards old.live c.requires.of_run live t.number e e there.1 change (λ h. h);
      live = still_live old.live live t e change there.2;
      turns = stays_so (TurnsNext old.shards) old.live live t.number e there.1 change c.requires.turns;
    }

pub returns-in-Some : goal.returns-in-Some
returns-in-Some g c =
    let old = c.args.core.now in
    let t = c.args.task in
    let live = c.look.new.self in
    let cancel = c.in-Some.cancel in
    record {
      sound = c.finish.ensures.sound;
      of_run = c.finish.ensures.of_run;
      own = then_self old _ c.finish.new.core (tasks_self old live c.look.ensures.core) c.finish.ensures.own;
      memory = c.finish.ensures.memory;
      steps = λ e at.
          let change = c.in-Some.ensures.looked e at in
          IfOk-weaker c.finish.result _ _
          (λ given p. looks_so g.B.DataBoard.rests e c.args.board.now c.look.new.board old live t (its_id t _ e c.requires.live at) _ c.finish.new.core c.finish.new.board (Works g.B.DataBoard.rests e) (Some cancel) (c.in-Some.ensures.rests e at) change p)
          (c.finish.ensures.steps (after_look e (Some cancel)) change.0.0);
    }

pub returns-in-None : goal.returns-in-None
returns-in-None g c =
    let old = c.args.core.now in
    let t = c.args.task in
    let live = c.look.new.self in
    record {
      sound = c.work_on.ensures.sound;
      of_run = c.work_on.ensures.of_run;
      own = then_self old _ c.work_on.new.core (tasks_self old live c.look.ensures.core) c.work_on.ensures.own;
      memory = c.work_on.ensures.memory;
      steps = λ e at.
          let change = c.in-None.ensures.looked e at in
          IfOk-weaker c.work_on.result _ _
          (λ given p. looks_so g.B.DataBoard.rests e c.args.board.now c.look.new.board old live t (its_id t _ e c.requires.live at) _ c.work_on.new.core c.look.new.board (Works g.B.DataBoard.rests e) None (c.in-None.ensures.rests e at) change p)
          (c.work_on.ensures.works e change.0.0);
    }
