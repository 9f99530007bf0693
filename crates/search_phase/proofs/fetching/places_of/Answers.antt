-- Each key adds its place, if it is of the shard.
use Rattle.std.proofs.Common.{ℕ, ◌≡◌, ◌+◌, ◌<◌, List, ◌++◌, ◌∷◌, [], sym, ap, ◌∙◌, map, filter, take, length, get_or}
use Rattle.std.specs.Prelude.{◌==◌}
use Rattle.std.proofs.lemmas.Bool.{eq-eqb, ne_eqb}
use Rattle.std.proofs.lemmas.List.{take_all, map_push}
use Rattle.task_events.specs.declared.request.HitKey.{HitKey}
use Rattle.search_phase.specs.FetchPhase.{places_of}
use Rattle.search_phase.proofs.FetchAnswers.{one_more}
use Rattle.search_phase.proofs.Kept.{filter_in, filter_out}
use Rattle.search_phase.proofs.fetching.places_of.Goals as goal
use Rattle.search_phase.proofs.fetching.places_of.Goals.{then-shard-key+in_ok-push, else-shard-key}

its_place : (won : List HitKey) (i shard : ℕ) (key : HitKey) → i < length won → key ≡ get_or won i key → shard ≡ key.shard
    → places_of (take (i + 1) won) shard ≡ places_of (take i won) shard ++ key.place ∷ []
its_place won i shard key l e same =
    let of_shard = λ (k : HitKey). shard == k.shard in
    let place = λ (k : HitKey). k.place in
    ap (λ keys. places_of keys shard) (one_more won i key l e)
    ∙ ap (map place) (filter_in of_shard (take i won) key (eq-eqb shard key.shard same))
    ∙ map_push place (filter of_shard (take i won)) key

no_place : (won : List HitKey) (i shard : ℕ) (key : HitKey) → i < length won → key ≡ get_or won i key → (shard ≡ key.shard → ⊥)
    → places_of (take (i + 1) won) shard ≡ places_of (take i won) shard
no_place won i shard key l e other =
    ap (λ keys. places_of keys shard) (one_more won i key l e)
    ∙ ap (map (λ (k : HitKey). k.place)) (filter_out (λ (k : HitKey). shard == k.shard) (take i won) key (ne_eqb shard key.shard other))

pub loop-key-init : goal.loop-key-init
loop-key-init c = c.new-places.ensures.items

pub loop-key-preserved : goal.loop-key-preserved
loop-key-preserved c =
    let won = c.args.won.now in
    let i = c.loop-key.key-index in
    let key = c.key-item.result in
    elim c.if-shard-key.branch [
      | then-shard-key+in_ok-push w ↦
          ap (λ v. v.items) w.places-is ∙ w.in_ok-push.ensures.items ∙ ap (λ l. l ++ key.place ∷ []) c.loop-key.invariant
          ∙ sym (its_place won i c.args.shard key c.loop-key-test.true c.key-item.is w.if-shard-key.true)
      | else-shard-key w ↦
          ap (λ v. v.items) w.places-is ∙ c.loop-key.invariant ∙ sym (no_place won i c.args.shard key c.loop-key-test.true c.key-item.is w.if-shard-key.false)
    ]

pub returns : goal.returns
returns c = c.from_vec.ensures ∙ c.loop-key.invariant ∙ ap (λ keys. places_of keys c.args.shard) (take_all c.loop-key.key-index c.args.won.now c.loop-key-test.false)
