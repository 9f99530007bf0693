-- One row more is there.
use Rattle.std.proofs.Common.{◌∷◌, ◌++◌, [], Some, subst, sym, ap, ◌∙◌}
use Rattle.std.proofs.lemmas.List.Elements.{All-push}
use Rattle.std.specs.Prelude.{All}
use Rattle.live_tasks.specs.Live.{entry_at}
use Rattle.node_link.specs.Lawful.{IsLawfulRow}
use Rattle.run_facts.specs.Cancels.{cancels_of}
use Rattle.data_core.proofs.Cases.{id_there}
use Rattle.data_core.proofs.Listed.{ListedSoFar, listed_next, listed_all, then_tasks}
use Rattle.data_core.proofs.Sound.{then_self}
use Rattle.data_core.proofs.rows.live_rows.Goals as goal

pub loop-task-preserved : goal.loop-task-preserved
loop-task-preserved g c =
    let rests = g.B.DataBoard.rests in
    let at = c.loop-task in
    let t = c.in-Some.task in
    let there = id_there t (entry_at at.core.live t.number) c.in-Some.ensures.found.1 in
    let row = c.in_ok-row.row in
    let core = c.look_at.new.core in
    let board = c.look_at.new.board in
    let items = c.push_reserved.ensures.items ∙ ap (λ l. l ++ row ∷ []) c.reserve.ensures.items in
    record {
      sound = c.look_at.ensures.sound;
      of_run = c.look_at.ensures.of_run;
      own = then_self c.args.core.now at.core core at.invariant.own c.look_at.ensures.own;
      rest = then_tasks c.args.core.now at.core core at.invariant.rest c.look_at.ensures.rest;
      lawful = subst (All (IsLawfulRow (cancels_of g.W.Run.cancels))) (sym items) (All-push (IsLawfulRow (cancels_of g.W.Run.cancels)) at.rows.items row at.invariant.lawful c.in_ok-row.ensures.row);
      listed = subst (λ rows. ListedSoFar rests c.args.board.now c.args.core.now.live (Some t) rows core.live board) (sym items)
          (listed_next rests c.args.board.now c.args.core.now.live at.after at.rows.items at.core.live core.live at.board board t row there.0 at.invariant.listed
          c.in-Some.ensures.found.0 c.in-Some.ensures.lowest there.1 there.2 (c.in_ok-row.ensures.looked there.0 there.1));
    }

pub returns-clause-lists : goal.returns-clause-lists
returns-clause-lists g c =
    let at = c.loop-task in
    listed_all g.B.DataBoard.rests c.args.board.now c.args.core.now.live at.after at.rows.items at.core.live at.board at.invariant.listed c.in_default.ensures.none
