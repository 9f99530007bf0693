-- The rows are sent.
use Rattle.std.proofs.Common.{◌∷◌, [], ap, ◌∙◌}
use Rattle.node_link.specs.declared.body.Body.{Body}
use Rattle.node_link.specs.declared.body.Body.TheVariants as says
use Rattle.run_facts.specs.declared.Post.{Post}
use Rattle.run_facts.specs.declared.To.TheVariants as to
use Rattle.data_core.specs.Turns.{post}
use Rattle.data_core.proofs.Listed.{tells_so, rows_same}
use Rattle.data_core.proofs.filters.list.Goals as goal

pub returns-clause-turned : goal.returns-clause-turned
returns-clause-turned g c =
    let old = c.args.core.now in
    let new = c.live_rows.new.core in
    let rows = c.in_ok-rows.rows.items in
    let command = c.args.command in
    let same = ap (λ (p : Post Body). p ∷ []) c.rows_post.ensures ∙ rows_same command rows old new c.in_ok-rows.ensures.rest in
    tells_so g.B.DataBoard.rests (λ posts. posts.items) c.one.result c.rows_post.result
    (λ l. post to.Driver (says.Rows old.node old.worker command l)) rows c.args.board.now old new c.live_rows.new.board
    c.one.ensures.post same c.in_ok-rows.ensures.lists c.in_ok-rows.ensures.rest
