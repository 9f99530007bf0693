-- The rows that the filter lets through are sent.
use Rattle.std.proofs.Common.{◌≡◌, ◌∷◌, [], ap, ◌∙◌, subst, sym}
use Rattle.std.specs.Prelude.{All, IfOk, filter}
use Rattle.std.proofs.lemmas.List.Elements.{All-filter}
use Rattle.tasks_api.specs.Filters.{filter_matches}
use Rattle.node_link.specs.Lawful.{IsLawfulRow}
use Rattle.node_link.specs.declared.body.Body.{Body}
use Rattle.node_link.specs.declared.body.Body.TheVariants as says
use Rattle.run_facts.specs.Cancels.{cancels_of}
use Rattle.run_facts.specs.declared.Post.{Post}
use Rattle.run_facts.specs.declared.To.TheVariants as to
use Rattle.data_core.specs.Turns.{post, through}
use Rattle.data_core.proofs.Listed.{tells_so, matches_same}
use Rattle.data_core.proofs.filters.name_matches.Goals as goal

pub matches_post-requires-clause-rows : goal.matches_post-requires-clause-rows
matches_post-requires-clause-rows g c =
    let rows = c.in_ok-rows.rows.items in
    let p = filter_matches c.args.wanted.now in
    let made = subst (λ r. IfOk r (λ t. t.items ≡ filter p rows)) c.in_ok-rows-2.ensures.ok c.let_through.ensures in
    let lawful = IsLawfulRow (cancels_of g.W.Run.cancels) in
    subst (All lawful) (sym made) (All-filter p lawful rows c.in_ok-rows.ensures.rows)

pub returns-clause-turned : goal.returns-clause-turned
returns-clause-turned g c =
    let old = c.args.core.now in
    let new = c.live_rows.new.core in
    let rows = c.in_ok-rows.rows.items in
    let some = c.in_ok-rows-2.rows.items in
    let cancel = c.args.cancel in
    let wait = c.args.wait in
    let wanted = c.args.wanted.now in
    let made : some ≡ through wanted rows = subst (λ r. IfOk r (λ t. t.items ≡ through wanted rows)) c.in_ok-rows-2.ensures.ok c.let_through.ensures in
    let same = ap (λ (p : Post Body). p ∷ []) c.matches_post.ensures ∙ matches_same cancel wait some (through wanted rows) old new c.in_ok-rows.ensures.rest made in
    tells_so g.B.DataBoard.rests (λ posts. posts.items) c.one.result c.matches_post.result
    (λ l. post (to.Control old.node) (says.Matches old.worker cancel (through wanted l) wait)) rows c.args.board.now old new c.live_rows.new.board
    c.one.ensures.post same c.in_ok-rows.ensures.lists c.in_ok-rows.ensures.rest
