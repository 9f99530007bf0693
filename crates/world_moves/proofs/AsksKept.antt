-- A task that has others write still knows its asks after one more, and after an answer.
use Rattle.std.proofs.Common.{◌≡◌, ◌≢◌, ℕ, zero, suc, ◌+◌, Bool, true, false, List, [], ◌∷◌, ◌++◌, length, map, get_or, Option, Some, None, refl, sym, ap, ◌∙◌, arith, length-append}
use Rattle.std.specs.Prelude.{is_some, not, slice_get, slice_set}
use Rattle.std.specs.List.{range_with_len}
use Rattle.std.proofs.lemmas.List.{length-map, map-append}
use Rattle.task_events.specs.declared.reply.Reply.{Reply}
use Rattle.task_events.specs.declared.request.Request.{Request}
use Rattle.task_events.specs.declared.step.Asked.{Asked}
use Rattle.task_events.specs.Kinds.{can_have}
use Rattle.task_events.specs.Steps.{with_answer}
use Rattle.world_moves.specs.AsksKnown.{KnowsAsks}
use Rattle.search_phase.proofs.Runs.{noted_alike}
use Rattle.world_moves.proofs.SearchAnswers.{noted}

-- it has asked for nothing yet
pub knows_none : (shards : ℕ) (takes : ℕ → Reply → Bool) → KnowsAsks shards takes [] [] []
knows_none shards takes = record { as_many = refl; answered = refl; takes_each = λ i r reply at. absurd (cc) }

-- as many are awaited, or not any more, as were asked for
pub awaited_long : (asked : List Asked) (awaited : List (Option ℕ)) → map (λ a. is_some a.answer) asked ≡ map (λ o. not (is_some o)) awaited → length awaited ≡ length asked
awaited_long asked awaited e = sym (length-map awaited (λ o. not (is_some o))) ∙ sym (ap length e) ∙ length-map asked (λ a. is_some a.answer)

-- ---- one ask more

module _ (shards : ℕ) (new : ℕ → Reply → Bool) (r : Request) (n : ℕ) where
  -- from an ask on
  takes_more : (from : ℕ) (requests : List Request) (awaited : List (Option ℕ)) → length requests ≡ length awaited
      → ((i : ℕ) (q : Request) (reply : Reply) → slice_get requests i ≡ Some q → is_some (get_or awaited i None) ≡ true → can_have shards q reply ≡ true → new (from + i) reply ≡ true)
      → ((reply : Reply) → can_have shards r reply ≡ true → new (from + length requests) reply ≡ true)
      → (i : ℕ) (q : Request) (reply : Reply) → slice_get (requests ++ r ∷ []) i ≡ Some q → is_some (get_or (awaited ++ Some n ∷ []) i None) ≡ true → can_have shards q reply ≡ true → new (from + i) reply ≡ true
  takes_more from [] [] long each last zero q reply at waits can = last reply (let same : r ≡ q = cc in ap (λ x. can_have shards x reply) same ∙ can)
  takes_more from [] [] long each last (suc i) q reply at waits can = absurd (cc)
  takes_more from [] (o ∷ awaited) long each last i q reply at waits can = absurd (cc)
  takes_more from (x ∷ requests) [] long each last i q reply at waits can = absurd (cc)
  takes_more from (x ∷ requests) (o ∷ awaited) long each last zero q reply at waits can = each zero q reply at waits can
  takes_more from (x ∷ requests) (o ∷ awaited) long each last (suc i) q reply at waits can =
      let next : from + suc i ≡ from + 1 + i = omega arith in
      ap (λ k. new k reply) next
      ∙ takes_more (from + 1) requests awaited (cc)
      (λ j p d a w c. let k : from + 1 + j ≡ from + suc j = omega arith in ap (λ m. new m d) k ∙ each (suc j) p d a w c)
      (λ d c. let k : from + 1 + length requests ≡ from + suc (length requests) = omega arith in ap (λ m. new m d) k ∙ last d c) i q reply at waits can

  pub knows_more : (old : ℕ → Reply → Bool) (asked : List Asked) (requests : List Request) (awaited : List (Option ℕ)) (k : ℕ) → KnowsAsks shards old asked requests awaited
      → ((j : ℕ) (reply : Reply) → old j reply ≡ true → new j reply ≡ true) → ((reply : Reply) → can_have shards r reply ≡ true → new (1 + length asked) reply ≡ true)
      → KnowsAsks shards new (asked ++ record { ask = k; answer = None } ∷ []) (requests ++ r ∷ []) (awaited ++ Some n ∷ [])
  knows_more old asked requests awaited k x still may = record {
    as_many = length-append requests (r ∷ []) ∙ ap (λ m. m + 1) x.as_many ∙ sym (length-append asked (record { ask = k; answer = None } ∷ []));
    answered = map-append (λ (a : Asked). is_some a.answer) asked (record { ask = k; answer = None } ∷ []) ∙ ap (λ xs. xs ++ false ∷ []) x.answered ∙ sym (map-append (λ (o : Option ℕ). not (is_some o)) awaited (Some n ∷ []));
    takes_each = takes_more 1 requests awaited (x.as_many ∙ sym (awaited_long asked awaited x.answered))
        (λ i q reply at waits can. still (1 + i) reply (x.takes_each i q reply at waits can)) (λ reply can. ap (λ m. new (1 + m) reply) x.as_many ∙ may reply can);
  }

-- ---- an answer

set_off : (awaited : List (Option ℕ)) (i j : ℕ) → is_some (get_or (slice_set awaited i None) j None) ≡ true → (is_some (get_or awaited j None) ≡ true) × (j ≢ i)
set_off [] i j e = absurd (cc)
set_off (o ∷ awaited) zero zero e = absurd (cc)
set_off (o ∷ awaited) zero (suc j) e = (e, λ same. cc)
set_off (o ∷ awaited) (suc i) zero e = (e, λ same. cc)
set_off (o ∷ awaited) (suc i) (suc j) e = let rest = set_off awaited i j e in (rest.0, λ same. rest.1 (cc))

pub knows_answer : (shards : ℕ) (old new : ℕ → Reply → Bool) (asked : List Asked) (requests : List Request) (awaited : List (Option ℕ)) → KnowsAsks shards old asked requests awaited → map (λ a. a.ask) asked ≡ range_with_len 1 (length asked)
    → (i : ℕ) (reply : Reply) → ((j : ℕ) (other : Reply) → old j other ≡ true → j ≢ 1 + i → new j other ≡ true)
    → KnowsAsks shards new (map (with_answer (1 + i) (Some reply)) asked) requests (slice_set awaited i None)
knows_answer shards old new asked requests awaited x numbered i reply keeps = record {
  as_many = x.as_many ∙ sym (length-map asked (with_answer (1 + i) (Some reply)));
  answered = ap (map (λ a. is_some a.answer)) (noted_alike (1 + i) reply asked) ∙ noted 1 reply asked awaited i numbered x.answered;
  takes_each = λ j q other at waits can. let was = set_off awaited i j waits in keeps (1 + j) other (x.takes_each j q other at was.0 can) (λ same. was.1 (omega (arith, same)));
}
