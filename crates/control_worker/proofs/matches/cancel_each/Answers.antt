-- One row more is sought.
use Rattle.std.proofs.Common.{◌≡◌, ◌+◌, List, [], ◌∷◌, drop, sym, subst, arith, append-nil}
use Rattle.std.proofs.lemmas.List.{drop_all}
use Rattle.task_ids.specs.declared.task_id.TaskId.{TaskId}
use Rattle.task_ids.specs.declared.task_info.TaskInfo.{TaskInfo}
use Rattle.control_worker.specs.Steps.{at}
use Rattle.control_worker.specs.Matches.{SeeksEach}
use Rattle.control_worker.proofs.Listed.{rest_is}
use Rattle.control_worker.proofs.Matching.{seeks_none, seeks_on}
use Rattle.control_worker.proofs.matches.cancel_each.Goals as goal

pub loop-row-preserved : goal.loop-row-preserved
loop-row-preserved g c =
    let rests = g.B.ControlBoard.rests in
    let rows = c.args.rows.now in
    let i = c.loop-row.row-index in
    let row = c.row-item.result in
    let start = at c.args.board.now c.args.core.now c.args.acts.now.items in
    let now = at c.loop-row.board c.loop-row.core c.loop-row.acts.items in
    let after = at c.cancel_row.new.board c.cancel_row.new.core c.cancel_row.new.acts.items in
    let rest : drop i rows ≡ row ∷ drop (i + 1) rows = rest_is rows i row c.loop-row-test.true c.row-item.is in
    record {
      together = c.in_ok-cancel_row.ensures.together;
      left = seeks_on rests c.args.waiter start now after rows (drop (i + 1) rows) row c.loop-row.found.items c.cancel_row.new.found.items
          (λ u more sought. c.loop-row.invariant.left u more (subst (λ (l : List TaskInfo). SeeksEach rests c.args.waiter l more now u) (sym rest) sought))
          c.in_ok-cancel_row.ensures.did;
    }

pub returns-clause-did : goal.returns-clause-did
returns-clause-did g c =
    let rests = g.B.ControlBoard.rests in
    let start = at c.args.board.now c.args.core.now c.args.acts.now.items in
    let now = at c.loop-row.board c.loop-row.core c.loop-row.acts.items in
    let none : drop c.loop-row.row-index c.args.rows.now ≡ [] = drop_all c.loop-row.row-index c.args.rows.now (omega (arith, c.loop-row-test.false)) in
    let all = c.loop-row.invariant.left now [] (subst (λ (l : List TaskInfo). SeeksEach rests c.args.waiter l [] now now) (sym none) (seeks_none rests c.args.waiter now)) in
    subst (λ (l : List TaskId). SeeksEach rests c.args.waiter c.args.rows.now l start now) (append-nil c.loop-row.found.items) all
