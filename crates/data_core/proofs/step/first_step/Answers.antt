-- A ban ends the task, and without one it has passed.
use Rattle.std.proofs.Common.{Some, refl, ap}
use Rattle.std.proofs.lemmas.Result.{IfOk-weaker}
use Rattle.live_tasks.specs.Entries.{passed}
use Rattle.live_tasks.specs.Live.{entry_at}
use Rattle.entry_facts.proofs.Cores.{task_goes_on}
use Rattle.entry_facts.proofs.Entries.{passed_of_run}
use Rattle.data_core.proofs.Cases.{id_there, of_run}
use Rattle.data_core.proofs.Good.{passed_good}
use Rattle.data_core.proofs.Kept.{change_sound}
use Rattle.data_core.proofs.Sound.{then_self}
use Rattle.data_core.proofs.Stepping.{its_id, still_live, tasks_self, passes_so, refused_so}
use Rattle.data_core.proofs.step.first_step.Goals as goal

pub finish-requires : goal.finish-requires
finish-requires g c =
    let old = c.args.core.now in
    let t = c.args.task in
    let live = c.check.new.self in
    let there = id_there t (entry_at old.live t.number) c.requires.live in
    let e = there.0 in
    let change = c.in-Banned.ensures.checked e there.1 in
    record {
      sound = change_sound _ _ _ _ _ _ _ _ _ old live t.number e e c.requires.sound c.check.ensures.together c.check.ensures.core there.1 change (λ good. good);
      of_run = task_goes_on g.W.Run.setting _ old.shards old.live c.requires.of_run live t.number e e there.1 change (λ h. h);
      live = still_live old.live live t e change there.2;
      ending = of_run g.W.Run.cancels c.in-Banned.cancel c.in-Banned.ensures.allowed;
      planned = λ f at. tt;
    }

pub returns-in-Banned : goal.returns-in-Banned
returns-in-Banned g c =
    let old = c.args.core.now in
    let t = c.args.task in
    let live = c.check.new.self in
    record {
      sound = c.finish.ensures.sound;
      of_run = c.finish.ensures.of_run;
      own = then_self old _ c.finish.new.core (tasks_self old live c.check.ensures.core) c.finish.ensures.own;
      memory = c.finish.ensures.memory;
      steps = λ e at.
          let change = c.in-Banned.ensures.checked e at in
          IfOk-weaker c.finish.result _ _
          (λ given p. refused_so g.B.DataBoard.rests e c.args.board.now c.check.new.board old live t (its_id t _ e c.requires.live at) _ c.finish.new.core c.finish.new.board c.in-Banned.cancel (c.in-Banned.ensures.rests e at) change p)
          (c.finish.ensures.steps e change.0.0);
    }

pub returns-in-Clear : goal.returns-in-Clear
returns-in-Clear g c =
    let old = c.args.core.now in
    let t = c.args.task in
    let live = c.check.new.self in
    let there = id_there t (entry_at old.live t.number) c.requires.live in
    let e = there.0 in
    record {
      sound = change_sound _ _ _ _ _ _ _ _ _ old live t.number e (passed e) c.requires.sound c.check.ensures.together c.check.ensures.core there.1 (c.in-Clear.ensures.checked e there.1) (passed_good _ old.shards e);
      of_run = task_goes_on g.W.Run.setting _ old.shards old.live c.requires.of_run live t.number e (passed e) there.1 (c.in-Clear.ensures.checked e there.1) (passed_of_run g.W.Run.setting old.shards e);
      own = tasks_self old live c.check.ensures.core;
      memory = tt;
      steps = λ f at. passes_so g.B.DataBoard.rests f c.args.board.now c.check.new.board old live t (its_id t _ f c.requires.live at) _ _ c.check.new.board (c.in-Clear.ensures.rests f at) (c.in-Clear.ensures.checked f at) (ap Some c.new.ensures.items) refl refl;
    }
