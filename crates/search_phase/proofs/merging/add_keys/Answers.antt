-- Each key is one more.
use Rattle.std.proofs.Common.{sym, ◌∙◌, ap, ◌++◌, [], ◌∷◌, map, take, Bor, append_assoc}
use Rattle.std.proofs.lemmas.List.{take_all, map_push, append-nil}
use Rattle.task_events.specs.declared.request.HitKey.{HitKey}
use Rattle.search_phase.proofs.FetchAnswers.{one_more}
use Rattle.search_phase.proofs.merging.add_keys.Goals as goal

pub loop-key-init : goal.loop-key-init
loop-key-init c = sym (append-nil (map (λ (key : Bor HitKey). key.now) c.args.keys.now.items))

pub loop-key-preserved : goal.loop-key-preserved
loop-key-preserved c =
    let now = λ (key : Bor HitKey). key.now in
    let before = map now c.args.keys.now.items in
    let more = take c.loop-key.key-index c.args.more.now in
    let key = c.key-item.result in
    ap (map now) c.in_ok-push.ensures.items ∙ map_push now c.loop-key.keys.items _
    ∙ ap (λ l. l ++ key ∷ []) c.loop-key.invariant ∙ append_assoc before more (key ∷ [])
    ∙ ap (λ l. before ++ l) (sym (one_more c.args.more.now c.loop-key.key-index key c.loop-key-test.true c.key-item.is))

pub returns : goal.returns
returns c =
    c.loop-key.invariant
    ∙ ap (λ l. map (λ (key : Bor HitKey). key.now) c.args.keys.now.items ++ l) (take_all c.loop-key.key-index c.args.more.now c.loop-key-test.false)
