-- A mark ends the task, and without one it asks.
use Rattle.std.proofs.Common.{refl, subst, sym}
use Rattle.std.proofs.lemmas.Result.{IfOk-weaker}
use Rattle.task_ids.specs.Limits.{IsNode}
use Rattle.live_tasks.specs.Entries.{closed}
use Rattle.live_tasks.specs.Live.{entry_at}
use Rattle.entry_facts.proofs.Cores.{task_goes_on}
use Rattle.entry_facts.proofs.Entries.{closed_of_run}
use Rattle.data_core.specs.Plans.{IsOpen, MayAsk}
use Rattle.data_core.proofs.Asking.{node_there}
use Rattle.data_core.proofs.Cases.{id_there, of_run}
use Rattle.data_core.proofs.Good.{closed_good}
use Rattle.data_core.proofs.Kept.{change_sound}
use Rattle.data_core.proofs.Sound.{then_self}
use Rattle.data_core.proofs.Stepping.{its_id, still_live, stays_so, stays_back, tasks_self, marked_so, asks_so}
use Rattle.data_core.proofs.step.ask_next.Goals as goal

pub track-requires-clause-node : goal.track-requires-clause-node
track-requires-clause-node g c = subst IsNode (sym c.node_for-to.ensures) (node_there c.args.core.now.cluster c.args.task c.args.request)

pub finish-requires : goal.finish-requires
finish-requires g c =
    let old = c.args.core.now in
    let t = c.args.task in
    let live = c.track.new.self in
    let there = id_there t (entry_at old.live t.number) c.requires.live in
    let e = there.0 in
    let cancel = c.in-Cancelled.cancel in
    let of = of_run g.W.Run.cancels cancel c.in-Cancelled.ensures.allowed in
    let change = c.in-Cancelled.ensures.tracked e there.1 in
    record {
      sound = change_sound _ _ _ _ _ _ _ _ _ old live t.number e (closed e cancel) c.requires.sound c.track.ensures.together c.track.ensures.core there.1 change (closed_good _ old.shards e cancel of);
      of_run = task_goes_on g.W.Run.setting _ old.shards old.live c.requires.of_run live t.number e (closed e cancel) there.1 change (closed_of_run g.W.Run.setting old.shards e cancel);
      live = still_live old.live live t (closed e cancel) change there.2;
      ending = of;
      planned = λ f at. tt;
    }

pub returns-in-Cancelled : goal.returns-in-Cancelled
returns-in-Cancelled g c =
    let old = c.args.core.now in
    let t = c.args.task in
    let live = c.track.new.self in
    let cancel = c.in-Cancelled.cancel in
    record {
      sound = c.finish.ensures.sound;
      of_run = c.finish.ensures.of_run;
      own = then_self old _ c.finish.new.core (tasks_self old live c.track.ensures.core) c.finish.ensures.own;
      memory = c.finish.ensures.memory;
      steps = λ e at.
          let change = c.in-Cancelled.ensures.tracked e at in
          IfOk-weaker c.finish.result _ _
          (λ given p. marked_so g.B.DataBoard.rests e c.args.board.now c.track.new.board old live t (its_id t _ e c.requires.live at) _ c.finish.new.core c.finish.new.board c.args.request c.node_for-to.result c.node_for-to.ensures cancel (c.in-Cancelled.ensures.rests e at) change p)
          (c.finish.ensures.steps (closed e cancel) change.0.0);
    }

pub ask_child-requires : goal.ask_child-requires
ask_child-requires g c =
    let old = c.args.core.now in
    let t = c.args.task in
    let live = c.track.new.self in
    let there = id_there t (entry_at old.live t.number) c.requires.live in
    let e = there.0 in
    let change = c.in-Cleared.ensures.tracked e there.1 in
    record {
      sound = change_sound _ _ _ _ _ _ _ _ _ old live t.number e e c.requires.sound c.track.ensures.together c.track.ensures.core there.1 change (λ good. good);
      of_run = task_goes_on g.W.Run.setting _ old.shards old.live c.requires.of_run live t.number e e there.1 change (λ h. h);
      live = still_live old.live live t e change there.2;
      unmarked = stays_so IsOpen old.live live t.number e there.1 change c.requires.unmarked;
      asks = stays_so MayAsk old.live live t.number e there.1 change c.requires.asks;
      planned = λ f at. c.requires.planned f (stays_back old.live live t.number e f there.1 change at);
      node = subst IsNode (sym c.node_for-to.ensures) (node_there old.cluster t c.args.request);
    }

pub returns-in-Cleared : goal.returns-in-Cleared
returns-in-Cleared g c =
    let old = c.args.core.now in
    let t = c.args.task in
    let live = c.track.new.self in
    record {
      sound = c.ask_child.ensures.sound;
      of_run = c.ask_child.ensures.of_run;
      own = then_self old _ c.ask_child.new.core (tasks_self old live c.track.ensures.core) c.ask_child.ensures.own;
      memory = c.ask_child.ensures.memory;
      steps = λ e at.
          let change = c.in-Cleared.ensures.tracked e at in
          IfOk-weaker c.ask_child.result _ _
          (λ given p. asks_so g.B.DataBoard.rests e c.args.board.now c.track.new.board old live t (its_id t _ e c.requires.live at) _ c.ask_child.new.core c.track.new.board c.args.request c.node_for-to.result c.node_for-to.ensures (c.in-Cleared.ensures.rests e at) change p.0 p.1 refl)
          (c.ask_child.ensures.asked e change.0.0);
    }
