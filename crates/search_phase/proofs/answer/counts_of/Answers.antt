-- Each top adds how many rows match.
use Rattle.std.proofs.Common.{sym, ◌∙◌, ap, ◌++◌, [], ◌∷◌, filter_map, length, take, Bor}
use Rattle.std.specs.Prelude.{zip}
use Rattle.std.proofs.lemmas.List.{length_push}
use Rattle.std.proofs.lemmas.Slice.Zip.{zip_turn, zip_end}
use Rattle.task_events.specs.declared.reading.ShardRead.{ShardRead}
use Rattle.task_events.specs.declared.step.Asked.{Asked}
use Rattle.search_phase.specs.FetchPhase.{count_for}
use Rattle.search_phase.proofs.FetchAnswers.{zip_step, zip_all}
use Rattle.search_phase.proofs.answer.counts_of.Goals as goal

pub loop-at-init : goal.loop-at-init
loop-at-init c = c.new-counts.ensures.items

pub loop-at-preserved : goal.loop-at-preserved
loop-at-preserved c =
    let f = count_for in
    let shards = c.args.shards.now in
    let queries = c.args.queries.now in
    let at = c.in-Some.at.now in
    let query = c.in-Some.query.now in
    let before = c.loop-at.yielded in
    let pair : Bor ShardRead × Bor Asked = (c.in-Some.at, c.in-Some.query) in
    let turn = zip_turn shards queries before c.into_iter-at-iterator.result c.loop-at.at-iterator c.next.new.self c.next.result (cc) (cc) c.loop-at.yielded_by pair c.in-Some.is c.next.ensures.steps in
    c.in_ok-add_count.ensures ∙ ap (λ l. l ++ filter_map f ((at, query) ∷ [])) c.loop-at.invariant
    ∙ sym (ap (λ n. filter_map f (take n (zip shards queries))) (length_push before pair)
    ∙ zip_step f shards queries (length before) at query turn.0 turn.1 (turn.2 at) (turn.3 query))

pub returns : goal.returns
returns c =
    let f = count_for in
    let before = c.loop-at.yielded in
    let end = zip_end c.args.shards.now c.args.queries.now before c.into_iter-at-iterator.result c.loop-at.at-iterator c.next.new.self c.next.result (cc) (cc) c.loop-at.yielded_by c.in-None.is c.next.ensures.steps in
    c.from_vec.ensures ∙ c.loop-at.invariant ∙ zip_all f c.args.shards.now c.args.queries.now (length before) end
