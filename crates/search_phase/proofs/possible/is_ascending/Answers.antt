use Rattle.std.proofs.Common.{◌≡◌, ◌+◌, ◌-◌, sym, ◌∙◌, ap, arith, rules, true, drop, get_or}
use Rattle.std.specs.Prelude.{◌&&◌}
use Rattle.std.specs.Ordering.{is_lt}
use Rattle.task_events.specs.HitOrder.{hit_cmp}
use Rattle.task_events.specs.QueryTask.{ascend}
use Rattle.search_phase.proofs.FetchAnswers.{ascend_step, ascend_last}
use Rattle.search_phase.proofs.possible.is_ascending.Goals as goal

pub loop-place-preserved : goal.loop-place-preserved
loop-place-preserved c =
    let keys = c.args.keys.now in
    let place = c.loop-place.place in
    let key = c.index-keys-place.result in
    let next = c.index-keys-place-in-loop-place.result in
    let same : place - 1 + 1 ≡ place = omega arith in
    let same_next : place + 1 - 1 ≡ place = omega arith in
    let first : is_lt (hit_cmp key next) ≡ true = search rules in
    let step = ascend_step keys (place - 1) key next (omega arith) c.index-keys-place.is (c.index-keys-place-in-loop-place.is ∙ ap (λ n. get_or keys n next) (sym same)) in
    c.loop-place.invariant ∙ step ∙ (λ i. first i && ascend (drop (same i) keys)) ∙ ap (λ n. ascend (drop n keys)) (sym same_next)

pub returns : goal.returns
returns c = sym (c.loop-place.invariant ∙ ascend_last c.args.keys.now (c.loop-place.place - 1) (omega arith))
