use Rattle.std.proofs.Common.{sym, ◌∙◌, ap, ◌++◌, [], ◌∷◌, filter_map}
use Rattle.std.proofs.lemmas.List.{take_all}
use Rattle.search_phase.specs.FetchPhase.{hit_by}
use Rattle.search_phase.proofs.FetchAnswers.{filter_map_step}
use Rattle.search_phase.proofs.answer.hits_of_winners.Goals as goal

pub loop-key-init : goal.loop-key-init
loop-key-init c = c.new-hits.ensures.items

pub loop-key-preserved : goal.loop-key-preserved
loop-key-preserved c =
    let hit = hit_by c.args.fetches.now c.args.answers.now in
    c.in_ok-add_hit.ensures ∙ ap (λ l. l ++ filter_map hit (c.key-item.result ∷ [])) c.loop-key.invariant
    ∙ sym (filter_map_step hit c.args.won.now c.loop-key.key-index c.key-item.result c.loop-key-test.true c.key-item.is)

pub returns : goal.returns
returns c =
    let hit = hit_by c.args.fetches.now c.args.answers.now in
    c.from_vec.ensures ∙ c.loop-key.invariant ∙ ap (filter_map hit) (take_all c.loop-key.key-index c.args.won.now c.loop-key-test.false)
