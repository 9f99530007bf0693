-- Each place adds the document of its row, if there is one.
use Rattle.std.proofs.Common.{◌++◌, ◌∷◌, [], sym, ap, ◌∙◌, filter_map, get_or, slice_range}
use Rattle.std.proofs.lemmas.List.{take_all, get_or_default}
use Rattle.task_events.specs.Answers.{hit_at}
use Rattle.search_phase.proofs.FetchAnswers.{filter_map_step}
use Rattle.search_phase.proofs.fetch.hits_at.Goals as goal

pub loop-place-init : goal.loop-place-init
loop-place-init c = c.new-hits.ensures.items

pub loop-place-preserved : goal.loop-place-preserved
loop-place-preserved c =
    let hit = hit_at c.args.ask.now.index c.args.ask.now.version c.args.shard.now.writes in
    let places = slice_range c.as_slice.result.now c.args.start c.args.end in
    let place = get_or places c.loop-place.place-index 0 in
    c.in_ok-add_hit.ensures ∙ ap (λ hits. hits ++ filter_map hit (place ∷ [])) c.loop-place.invariant
    ∙ sym (filter_map_step hit places c.loop-place.place-index place c.loop-place-test.true (get_or_default places c.loop-place.place-index 0 place c.loop-place-test.true))

pub returns : goal.returns
returns c =
    let hit = hit_at c.args.ask.now.index c.args.ask.now.version c.args.shard.now.writes in
    let places = slice_range c.as_slice.result.now c.args.start c.args.end in
    c.loop-place.invariant ∙ ap (filter_map hit) (take_all c.loop-place.place-index places c.loop-place-test.false)
    ∙ ap (λ all. filter_map hit (slice_range all c.args.start c.args.end)) c.as_slice.ensures
