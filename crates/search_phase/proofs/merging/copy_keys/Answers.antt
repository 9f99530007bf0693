-- Each key is copied.
use Rattle.std.proofs.Common.{◌≡◌, ℕ, ◌+◌, ◌<◌, List, sym, ap, ◌∙◌, ◌++◌, [], ◌∷◌, map, take, length, get_or, Bor}
use Rattle.std.proofs.lemmas.List.{take_all, map_push}
use Rattle.task_events.specs.declared.request.HitKey.{HitKey}
use Rattle.search_phase.proofs.FetchAnswers.{one_more}
use Rattle.search_phase.proofs.merging.copy_keys.Goals as goal

copied : {X Y : Type 0} (f : X → Y) (keys : List X) (copies more : List Y) (i : ℕ) (key : X) (copy : Y) → i < length keys → key ≡ get_or keys i key → copies ≡ map f (take i keys) → copy ≡ f key → more ≡ copies ++ copy ∷ []
    → more ≡ map f (take (i + 1) keys)
copied f keys copies more i key copy l e so_far same pushed =
    pushed ∙ (λ j. so_far j ++ same j ∷ []) ∙ sym (ap (map f) (one_more keys i key l e) ∙ map_push f (take i keys) key)

pub loop-key-init : goal.loop-key-init
loop-key-init c = c.in_ok-copies.ensures.items

pub loop-key-preserved : goal.loop-key-preserved
loop-key-preserved c = copied (λ (key : Bor HitKey). key.now) _ _ _ _ _ _ c.loop-key-test.true c.key-item.is c.loop-key.invariant c.in_ok-copy.ensures c.in_ok-push.ensures.items

pub returns : goal.returns
returns c = c.loop-key.invariant ∙ ap (map (λ (key : Bor HitKey). key.now)) (take_all c.loop-key.key-index c.args.keys.now c.loop-key-test.false)
