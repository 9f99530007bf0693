-- Each top adds its keys.
use Rattle.std.proofs.Common.{sym, ◌∙◌, ap, ◌++◌, map, flat_map, take, Bor}
use Rattle.std.proofs.lemmas.List.{take_all}
use Rattle.task_events.specs.declared.request.HitKey.{HitKey}
use Rattle.task_events.specs.declared.reply.ShardTop.{ShardTop}
use Rattle.search_phase.proofs.FetchAnswers.{one_more, flat_map_step}
use Rattle.search_phase.proofs.merging.keys_of.Goals as goal

pub loop-top-init : goal.loop-top-init
loop-top-init c = ap (map (λ (key : Bor HitKey). key.now)) c.new-keys.ensures.items

pub loop-top-preserved : goal.loop-top-preserved
loop-top-preserved c =
    let keys = λ (top : ShardTop). top.keys in
    let tops = take c.loop-top.top-index c.args.tops.now in
    let top = c.top-item.result in
    c.in_ok-add_keys.ensures ∙ (λ i. c.loop-top.invariant i ++ c.as_slice.ensures i)
    ∙ sym (ap (flat_map keys) (one_more c.args.tops.now c.loop-top.top-index top c.loop-top-test.true c.top-item.is) ∙ flat_map_step keys tops top)

pub returns : goal.returns
returns c = c.loop-top.invariant ∙ ap (flat_map (λ (top : ShardTop). top.keys)) (take_all c.loop-top.top-index c.args.tops.now c.loop-top-test.false)
