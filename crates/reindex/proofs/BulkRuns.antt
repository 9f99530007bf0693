-- A bulk is as far as its asks and their answers say, whatever the order in which they come, and so does what its kind says.
use Rattle.std.proofs.Common.{◌≡◌, ℕ, zero, suc, ◌+◌, ◌*◌, ◌^◌, ◌<◌, ◌≤◌, Bool, true, false, List, [], ◌∷◌, ◌++◌, length, map, Option, Some, None, refl, sym, ap, ◌∙◌, subst, arith}
use Rattle.std.specs.Prelude.{slice_get, ◌==◌}
use Rattle.std.proofs.lemmas.Bool.{and_parts, and_from, lt-ltb, ltb-true, eq-eqb, eqb-true, ne_eqb, or_right}
use Rattle.task_events.specs.declared.request.BulkAsk.{BulkAsk}
use Rattle.task_events.specs.declared.request.BulkShardAsk.{BulkShardAsk}
use Rattle.task_events.specs.declared.request.Request.{Request}
use Rattle.task_events.specs.declared.request.Request.TheVariants.{BulkShard}
use Rattle.task_events.specs.declared.reply.Reply.{Reply}
use Rattle.task_events.specs.declared.reply.Reply.TheVariants.{Search, Top, Hits, AllFailed, Wrote, Cancelled, Rejected}
use Rattle.task_events.specs.declared.step.Asked.{Asked}
use Rattle.task_events.specs.declared.step.Do.TheVariants.{AskNext}
use Rattle.task_events.specs.BulkTask.{bulk_step}
use Rattle.task_events.specs.Counting.{answers_in, written_in, are_below, carried, failures_of}
use Rattle.task_events.specs.Kinds.{can_have}
use Rattle.task_events.specs.SearchTask.{ask_or_end}
use Rattle.task_events.specs.Searches.{are_answered}
use Rattle.task_events.specs.Steps.{with_answer}
use Rattle.reindex.specs.Answers.{writer_can_have, with_written}
use Rattle.reindex.specs.BulkFields.{AreUpTo, answered}
use Rattle.reindex.specs.BulkRuns.{IsBulkAt}
use Rattle.reindex.specs.Bulks.{Bulking, new_bulk, bulk_next, bulk_may_ask, bulk_with_ask, is_open, without, bulk_takes, bulk_with_answer}
use Rattle.reindex.specs.OpenAsks.{open_in, is_settled}
use Rattle.reindex.proofs.Answers.{below_all}
use Rattle.reindex.proofs.BatchLemmas.{answered_more, counts_none, few_parts}
use Rattle.reindex.proofs.FedSums.{by_test, row, fed_sum, fed_open, fed_numbered, fed_length, asked_numbered, asked_open, asked_answers, settled}

pub bulk_first : (ask : BulkAsk) (shards : ℕ) → IsBulkAt ask shards [] (new_bulk ask shards)
bulk_first ask shards = record {
  parts_are = refl;
  made_is = refl;
  in_order = omega arith;
  numbered = refl;
  open_are = refl;
  fewer = omega arith;
  counts_are = refl;
  bounded = counts_none _;
}

-- what stands among the parts
part_at : (parts : List BulkShardAsk) (i : ℕ) (r : Request) → slice_get (map BulkShard parts) i ≡ Some r → (i < length parts) × ((part : BulkShardAsk) × (r ≡ BulkShard part))
part_at [] i r e = absurd cc
part_at (part ∷ parts) zero r e = (omega arith, (part, cc))
part_at (part ∷ parts) (suc i) r e = let later = part_at parts i r e in (omega (arith, later.0), later.1)

-- where it asks, a part is left, and it asks for that part
pub asks_part : (parts : List BulkShardAsk) (made : ℕ) (answered : Bool) (end : Reply) (request : Request) → ask_or_end (slice_get (map BulkShard parts) made) answered end ≡ AskNext request
    → (made < length parts) × ((part : BulkShardAsk) × (request ≡ BulkShard part))
asks_part parts made answered end request e = of_asked (slice_get (map BulkShard parts) made) refl e
  where
    of_end : (b : Bool) → ask_or_end None b end ≡ AskNext request → (made < length parts) × ((part : BulkShardAsk) × (request ≡ BulkShard part))
    of_end true h = absurd cc
    of_end false h = absurd cc

    of_asked : (o : Option Request) → slice_get (map BulkShard parts) made ≡ o → ask_or_end o answered end ≡ AskNext request → (made < length parts) × ((part : BulkShardAsk) × (request ≡ BulkShard part))
    of_asked None at h = of_end answered h
    of_asked (Some r) at h =
        let found = part_at parts made r at in
        let same : r ≡ request = cc in
        (found.0, (found.1.0, sym same ∙ found.1.1))

-- ---- what may be asked and taken

pub bulk_may_ask_when : (b : Bulking) (request : Request) → bulk_next b ≡ AskNext request → bulk_may_ask b ≡ true
bulk_may_ask_when b request next = lt-ltb b.made (length b.parts) (asks_part b.parts b.made (is_settled b.open_asks) (Wrote b.counts) request next).0

-- a part can have what a task that writes can have
pub part_can_have : (shards : ℕ) (part : BulkShardAsk) (reply : Reply) → can_have shards (BulkShard part) reply ≡ writer_can_have (2 ^ 18) reply
part_can_have shards part (Search page) = refl
part_can_have shards part (Top top) = refl
part_can_have shards part (Hits hits) = refl
part_can_have shards part (AllFailed failed) = refl
part_can_have shards part (Wrote counts) = refl
part_can_have shards part (Cancelled task cancel counts) = refl
part_can_have shards part (Rejected node) = refl

pub open_last : (k : ℕ) (asks : List ℕ) → is_open k (asks ++ k ∷ []) ≡ true
open_last k [] = let same : (k == k) ≡ true = eq-eqb k k refl in rw same refl
open_last k (ask ∷ asks) = or_right (ask == k) (is_open k (asks ++ k ∷ [])) (open_last k asks)

-- ---- an ask that is open stays so until it is answered

pub open_before : (k j : ℕ) (asks : List ℕ) → is_open k asks ≡ true → is_open k (asks ++ j ∷ []) ≡ true
open_before k j [] h = absurd cc
open_before k j (ask ∷ asks) h = by_test (ask == k) (λ same. rw same refl) (λ other. let later : is_open k asks ≡ true = rw other at h in rw other (open_before k j asks later))

pub bulk_takes_after_ask : (b : Bulking) (k j : ℕ) (reply : Reply) → bulk_takes b k reply ≡ true → bulk_takes (bulk_with_ask b j) k reply ≡ true
bulk_takes_after_ask b k j reply takes = let parts = and_parts _ _ takes in and_from _ _ (open_before k j b.open_asks parts.0) parts.1

pub open_beside : (k j : ℕ) (asks : List ℕ) → (k ≡ j → ⊥) → is_open k asks ≡ true → is_open k (without j asks) ≡ true
open_beside k j [] apart h = absurd cc
open_beside k j (ask ∷ asks) apart h =
    by_test (ask == j)
    (λ gone.
    let here : (ask == k) ≡ false = ne_eqb ask k (λ e. apart (sym e ∙ eqb-true ask j gone)) in
    let later : is_open k asks ≡ true = rw here at h in
    rw gone (open_beside k j asks apart later))
    (λ stays.
    rw stays
    (by_test (ask == k)
    (λ same. rw same refl)
    (λ other. let later : is_open k asks ≡ true = rw other at h in rw other (open_beside k j asks apart later))))

pub bulk_takes_after_answer : (b : Bulking) (k j : ℕ) (reply other : Reply) → (k ≡ j → ⊥) → bulk_takes b k reply ≡ true → bulk_takes (bulk_with_answer b j other) k reply ≡ true
bulk_takes_after_answer b k j reply other apart takes = let parts = and_parts _ _ takes in and_from _ _ (open_beside k j b.open_asks apart parts.0) parts.1

-- ---- how far it has come

module _ {ask : BulkAsk} {shards : ℕ} {asked : List Asked} {b : Bulking} (at : IsBulkAt ask shards asked b) where
  pub bulk_settled : are_answered asked ≡ is_settled b.open_asks
  bulk_settled = settled asked ∙ ap is_settled (sym at.open_are)

  pub bulk_follows : bulk_step ask shards asked ≡ bulk_next b
  bulk_follows =
      λ i. ask_or_end (slice_get (map BulkShard (sym at.parts_are i)) (sym at.made_is i)) (bulk_settled i) (Wrote (sym at.counts_are i))

  pub bulk_counted : written_in (answers_in asked) ≡ b.counts
  bulk_counted = sym at.counts_are

  pub bulk_few : length asked ≤ shards
  bulk_few = let parts : length b.parts ≤ shards = rw at.parts_are (few_parts ask shards 0 shards) in omega (arith, at.made_is, at.in_order)

  pub bulk_low : shards ≤ 15 → are_below (2 ^ 22) b.counts ≡ true
  bulk_low few =
      let made = bulk_few in
      below_all (2 ^ 22) b.counts
      (record {
        total = omega (arith, at.bounded.total, at.made_is);
        created = omega (arith, at.bounded.created, at.made_is);
        updated = omega (arith, at.bounded.updated, at.made_is);
        batches = omega (arith, at.bounded.batches, at.made_is);
        failures = omega (arith, at.bounded.failures, at.made_is);
      })

  -- ---- it asks

  -- with one ask more, where it may ask
  pub bulk_one_more : bulk_may_ask b ≡ true → IsBulkAt ask shards (asked ++ record { ask = length asked + 1; answer = None } ∷ []) (bulk_with_ask b (length asked + 1))
  bulk_one_more may =
      let left : b.made < length b.parts = ltb-true b.made (length b.parts) may in
      let longer = length_more (length asked + 1) asked in
      let more = open_more (length asked + 1) b.open_asks in
      record {
        parts_are = at.parts_are;
        made_is = omega (arith, at.made_is, longer);
        in_order = omega (arith, left);
        numbered = asked_numbered asked at.numbered;
        open_are = ap (λ ks. ks ++ (length asked + 1) ∷ []) at.open_are ∙ sym (asked_open (length asked + 1) asked);
        fewer = omega (arith, at.fewer, more);
        counts_are = at.counts_are ∙ ap written_in (sym (asked_answers (length asked + 1) asked));
        bounded = subst (λ n. AreUpTo (n * 2 ^ 18) b.counts) (omega (arith, at.fewer, more)) at.bounded;
      }
    where
      length_more : (k : ℕ) (xs : List Asked) → length (xs ++ row k None ∷ []) ≡ length xs + 1
      length_more k [] = refl
      length_more k (a ∷ xs) = let later = length_more k xs in omega arith

      open_more : (k : ℕ) (ks : List ℕ) → length (ks ++ k ∷ []) ≡ length ks + 1
      open_more k [] = refl
      open_more k (j ∷ ks) = let later = open_more k ks in omega arith

  pub bulk_asked : (request : Request) → bulk_next b ≡ AskNext request → IsBulkAt ask shards (asked ++ record { ask = length asked + 1; answer = None } ∷ []) (bulk_with_ask b (length asked + 1))
  bulk_asked request next = bulk_one_more (bulk_may_ask_when b request next)

  -- the ask that it makes next can be answered by each reply that its request can have
  pub bulk_may_take : (request : Request) → bulk_next b ≡ AskNext request → (reply : Reply) → can_have shards request reply ≡ true → bulk_takes (bulk_with_ask b (length asked + 1)) (length asked + 1) reply ≡ true
  bulk_may_take request next reply can =
      let part = (asks_part b.parts b.made (is_settled b.open_asks) (Wrote b.counts) request next).1 in
      and_from _ _ (open_last (length asked + 1) b.open_asks) (sym (part_can_have shards part.0 reply) ∙ ap (λ r. can_have shards r reply) (sym part.1) ∙ can)

  -- ---- it is answered

  pub bulk_answered : (k : ℕ) (reply : Reply) → bulk_takes b k reply ≡ true → IsBulkAt ask shards (map (with_answer k (Some reply)) asked) (bulk_with_answer b k reply)
  bulk_answered k reply takes =
      let open_yet : is_open k (open_in asked) ≡ true = ap (is_open k) (sym at.open_are) ∙ (and_parts _ _ takes).0 in
      let more = answered_more b k reply at.fewer takes at.bounded in
      record {
        parts_are = at.parts_are;
        made_is = at.made_is ∙ sym (fed_length k (Some reply) asked);
        in_order = at.in_order;
        numbered = fed_numbered k (Some reply) asked at.numbered;
        open_are = ap (without k) at.open_are ∙ sym (fed_open k reply asked);
        fewer = omega (arith, more.0, at.fewer);
        counts_are = written_more open_yet;
        bounded = more.1;
      }
    where
      written_more : is_open k (open_in asked) ≡ true → with_written b.counts reply ≡ written_in (answers_in (map (with_answer k (Some reply)) asked))
      written_more open_yet =
          ap (λ counts. with_written counts reply) at.counts_are
          ∙ (λ i. record {
            total = 0;
            created = sym (fed_sum (λ r. (carried r).created) k reply asked at.numbered open_yet) i;
            updated = sym (fed_sum (λ r. (carried r).updated) k reply asked at.numbered open_yet) i;
            batches = 0;
            failures = sym (fed_sum failures_of k reply asked at.numbered open_yet) i;
          })
