-- No hit so far is of the place.
use Rattle.std.proofs.Common.{ℕ, ◌≡◌, ◌+◌, ◌<◌, List, Some, cond, sym, ap, ◌∙◌, drop, find, length, get_or}
use Rattle.std.specs.Prelude.{◌==◌, Bool}
use Rattle.std.proofs.lemmas.Bool.{eq-eqb, ne_eqb}
use Rattle.std.proofs.lemmas.List.{at_drop_more, at_drop_all}
use Rattle.task_events.specs.declared.reply.Hit.{Hit}
use Rattle.search_phase.proofs.answer.hit_at.Goals as goal

module _ (hits : List Hit) (place i : ℕ) (hit : Hit) (within : i < length hits) (here : hit ≡ get_or hits i hit) where
  abbrev of_place : Hit → Bool
  of_place hit = place == hit.place

  at_hit : find of_place (drop i hits) ≡ cond (place == hit.place) (Some hit) (find of_place (drop (i + 1) hits))
  at_hit = at_drop_more (find of_place) hits i hit within ∙ ap (λ (h : Hit). cond (place == h.place) (Some h) (find of_place (drop (i + 1) hits))) (sym here)

pub loop-hit-preserved : goal.loop-hit-preserved
loop-hit-preserved c =
    let place = c.args.place in
    let i = c.loop-hit.hit-index in
    let hit = c.hit-item.result in
    c.loop-hit.invariant ∙ at_hit c.args.hits.now place i hit c.loop-hit-test.true c.hit-item.is
    ∙ ap (λ b. cond b (Some hit) (find (λ (h : Hit). place == h.place) (drop (i + 1) c.args.hits.now))) (ne_eqb place hit.place c.if-place-hit.false)

pub returns-then-place-hit : goal.returns-then-place-hit
returns-then-place-hit c =
    let place = c.args.place in
    let i = c.loop-hit.hit-index in
    let hit = c.hit-item.result in
    sym (c.loop-hit.invariant ∙ at_hit c.args.hits.now place i hit c.loop-hit-test.true c.hit-item.is
    ∙ ap (λ b. cond b (Some hit) (find (λ (h : Hit). place == h.place) (drop (i + 1) c.args.hits.now))) (eq-eqb place hit.place c.if-place-hit.true))

pub returns : goal.returns
returns c = sym (c.loop-hit.invariant ∙ at_drop_all (find (λ (h : Hit). c.args.place == h.place)) c.args.hits.now c.loop-hit.hit-index c.loop-hit-test.false)
