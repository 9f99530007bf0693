-- Each document of a batch lies in one shard, so the parts of a bulk have each of its documents once.
use Rattle.std.proofs.Common.{◌≡◌, ◌+◌, ◌≤◌, ◌<◌, ℕ, zero, suc, Bool, true, false, cond, List, [], ◌∷◌, refl, sym, ap, ◌∙◌, arith}
use Rattle.std.specs.List.{flat_map, range_with_len, sum_by}
use Rattle.std.specs.Prelude.{◌==◌, count_by}
use Rattle.std.proofs.lemmas.Bool.Decides.{nat_tests}
use Rattle.std.proofs.lemmas.List.Concat.{flat_map-cons}
use Rattle.std.proofs.lemmas.List.Sums.{sum_by-append, sum_by-cons}
use Rattle.std.proofs.lemmas.Nat.{mod_below}
use Rattle.task_ids.specs.declared.doc.Doc.{Doc}
use Rattle.task_ids.specs.Placing.{hash_id, shard_of}
use Rattle.task_events.specs.declared.request.BulkAsk.{BulkAsk}
use Rattle.task_events.specs.declared.request.BulkShardAsk.{BulkShardAsk}
use Rattle.task_events.specs.BulkTask.{docs_in, part_with, parts_of}

-- a number below a range is not in it, and one of a range is in it once
past_range : (j w a n : ℕ) → j < a → sum_by (λ s. cond (j == s) w 0) (range_with_len a n) ≡ 0
past_range j w a zero low = refl
past_range j w a (suc n) low =
    let rest = past_range j w (a + 1) n (omega (arith, low)) in
    let first = sum_by-cons (λ s. cond (j == s) w 0) a (range_with_len (a + 1) n) in
    grind (arith, nat_tests, rest, first)

in_range_once : (j w a n : ℕ) → a ≤ j → j < a + n → sum_by (λ s. cond (j == s) w 0) (range_with_len a n) ≡ w
in_range_once j w a zero low high = absurd (omega (arith, low, high))
in_range_once j w a (suc n) low high =
    let rest = in_range_once j w (a + 1) n in
    let past = past_range j w (a + 1) n in
    let first = sum_by-cons (λ s. cond (j == s) w 0) a (range_with_len (a + 1) n) in
    grind (arith, nat_tests, rest, past, first)

sum_same : (f g : ℕ → ℕ) → ((s : ℕ) → f s ≡ g s) → (xs : List ℕ) → sum_by f xs ≡ sum_by g xs
sum_same f g each [] = refl
sum_same f g each (x ∷ xs) = sum_by-cons f x xs ∙ (λ i. each x i + sum_same f g each xs i) ∙ sym (sum_by-cons g x xs)

sum_both : (f g : ℕ → ℕ) (xs : List ℕ) → sum_by (λ s. f s + g s) xs ≡ sum_by f xs + sum_by g xs
sum_both f g [] = refl
sum_both f g (x ∷ xs) =
    let rest = sum_both f g xs in
    omega (arith, rest, sum_by-cons (λ s. f s + g s) x xs, sum_by-cons f x xs, sum_by-cons g x xs)

sum_none : (xs : List ℕ) → sum_by (λ s. 0) xs ≡ 0
sum_none [] = refl
sum_none (x ∷ xs) = let rest = sum_none xs in omega (arith, rest, sum_by-cons (λ s. 0) x xs)

module _ (test : Doc → Bool) where
  abbrev weight : Doc → ℕ
  weight doc = cond (test doc) 1 0

  one_doc : (b : Bool) (doc : Doc) (docs : List Doc) → count_by test (cond b (doc ∷ docs) docs) ≡ cond b (weight doc) 0 + count_by test docs
  one_doc true doc docs = sum_by-cons weight doc docs
  one_doc false doc docs = omega arith

  by_shard : (shards : ℕ) → 1 ≤ shards → (docs : List Doc) → sum_by (λ s. count_by test (docs_in docs shards s)) (range_with_len 0 shards) ≡ count_by test docs
  by_shard shards some [] = sum_none (range_with_len 0 shards)
  by_shard shards some (doc ∷ docs) =
      sum_same _ _ (λ s. one_doc (shard_of doc.id shards == s) doc (docs_in docs shards s)) (range_with_len 0 shards)
      ∙ sum_both (λ s. cond (shard_of doc.id shards == s) (weight doc) 0) (λ s. count_by test (docs_in docs shards s)) (range_with_len 0 shards)
      ∙ (λ i. once i + by_shard shards some docs i) ∙ sym (sum_by-cons weight doc docs)
    where
      once : sum_by (λ s. cond (shard_of doc.id shards == s) (weight doc) 0) (range_with_len 0 shards) ≡ weight doc
      once = let below = mod_below (hash_id doc.id) shards (omega (arith, some)) in in_range_once (shard_of doc.id shards) (weight doc) 0 shards (omega arith) (omega (arith, below))

  -- ---- the parts of a bulk

  abbrev pub of_part : BulkShardAsk → ℕ
  of_part part = count_by test part.docs

  part_count : (index : List ℕ) (shard : ℕ) (docs : List Doc) → sum_by of_part (part_with index shard docs) ≡ count_by test docs
  part_count index shard [] = refl
  part_count index shard (doc ∷ docs) = let one = sum_by-cons of_part (record { dest = index; shard = shard; docs = doc ∷ docs }) [] in omega (arith, one)

  sum_flat : (f : ℕ → List BulkShardAsk) (xs : List ℕ) → sum_by of_part (flat_map f xs) ≡ sum_by (λ s. sum_by of_part (f s)) xs
  sum_flat f [] = refl
  sum_flat f (x ∷ xs) =
      ap (sum_by of_part) (flat_map-cons f x xs) ∙ sum_by-append of_part (f x) (flat_map f xs) ∙ ap (λ n. sum_by of_part (f x) + n) (sum_flat f xs) ∙ sym (sum_by-cons (λ s. sum_by of_part (f s)) x xs)

  pub parts_count : (ask : BulkAsk) (shards : ℕ) → 1 ≤ shards → sum_by of_part (parts_of ask shards) ≡ count_by test ask.docs
  parts_count ask shards some =
      sum_flat (λ s. part_with ask.dest s (docs_in ask.docs shards s)) (range_with_len 0 shards)
      ∙ sum_same _ _ (λ s. part_count ask.dest s (docs_in ask.docs shards s)) (range_with_len 0 shards)
      ∙ by_shard shards some ask.docs
