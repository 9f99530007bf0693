-- Each top adds its keys.
use Rattle.std.proofs.Common.{sym, ◌∙◌, ap, ◌++◌, map, flat_map, take, Bor}
use Rattle.std.proofs.lemmas.List.{take_all, map_push}
use Rattle.task_events.specs.declared.request.HitKey.{HitKey}
use Rattle.task_events.specs.declared.reply.ShardTop.{ShardTop}
use Rattle.search_phase.proofs.FetchAnswers.{one_more, flat_map_step}
use Rattle.search_phase.proofs.fetching.keys_of.Goals as goal

pub loop-top-init : goal.loop-top-init
loop-top-init c = ap (map (λ (key : Bor HitKey). key.now)) c.new-keys.ensures.items

pub loop-top-preserved : goal.loop-top-preserved
loop-top-preserved c =
    let keys = λ (top : ShardTop). top.keys in
    let now = λ (top : Bor ShardTop). top.now in
    let tops = take c.loop-top.top-index c.args.tops.now in
    let top = c.top-item.result in
    c.in_ok-add_keys.ensures ∙ (λ i. c.loop-top.invariant i ++ c.as_slice.ensures i)
    ∙ sym (ap (λ l. flat_map keys (map now l)) (one_more c.args.tops.now c.loop-top.top-index top c.loop-top-test.true c.top-item.is)
    ∙ ap (flat_map keys) (map_push now tops top) ∙ flat_map_step keys (map now tops) top.now)

pub returns : goal.returns
returns c =
    c.loop-top.invariant
    ∙ ap (λ l. flat_map (λ (top : ShardTop). top.keys) (map (λ (top : Bor ShardTop). top.now) l)) (take_all c.loop-top.top-index c.args.tops.now c.loop-top-test.false)
