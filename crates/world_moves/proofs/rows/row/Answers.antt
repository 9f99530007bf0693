use Rattle.std.proofs.Common.{◌∙◌, arith}
use Rattle.world_moves.proofs.RowsOf.{row_at_node}
use Rattle.world_moves.proofs.TasksAfterLeave.{has_table, table_is}
use Rattle.world_moves.proofs.rows.row.Goals as goal

pub index-requires : goal.index-requires
index-requires c =
    let s = c.args.state.now in
    let low = c.args.task.node_in_range.0 in
    let many = has_table s.cluster s.corpus.now s.script.now s.history _ _ _ c.requires.tied.ties c.args.task c.requires.live in
    omega (arith, low, many)

pub returns : goal.returns
returns c =
    let s = c.args.state.now in
    let here = table_is s.cluster s.corpus.now s.script.now s.history _ _ _ c.requires.tied.ties c.args.task c.requires.live c.index.result.now c.index.ensures in
    c.row_in.ensures ∙ row_at_node s c.requires.tied c.args.task c.requires.live c.index.result.now here
