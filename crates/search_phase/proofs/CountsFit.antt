-- What a search counts is what a context can keep.
use Rattle.std.specs.Prelude.{◌≡◌, ℕ, zero, suc, ◌+◌, ◌*◌, ◌<◌, ◌≤◌, ◌^◌, List, [], ◌∷◌, Bool, true, false, nat_lt, Option, Some, None, option_and_then, filter_map, zip, length, refl}
use Rattle.std.proofs.Common.{sym, ◌∙◌, ap, subst, arith, lit<, mul-le-mul_right}
use Rattle.std.proofs.lemmas.Bool.{lt-ltb, ltb-true}
use Rattle.std.proofs.lemmas.List.Elements.{All-weaker}
use Rattle.std.proofs.lemmas.List.Sums.{sum_by-le, AllPass-from_list_all}
use Rattle.std.proofs.lemmas.Slice.Zip.{length-zip}
use Rattle.std.specs.List.{list_all, sum_by}
use Rattle.task_events.specs.declared.reading.ShardRead.{ShardRead}
use Rattle.task_events.specs.declared.reading.ShardRead.TheVariants.{Newest, Kept}
use Rattle.task_events.specs.declared.reply.ShardCount.{ShardCount}
use Rattle.task_events.specs.declared.reply.ShardTop.{ShardTop}
use Rattle.task_events.specs.declared.step.Asked.{Asked}
use Rattle.task_events.specs.Counts.{Ascend, AreCounts}
use Rattle.task_events.specs.Readings.{shard_read}
use Rattle.task_events.specs.Searches.{top_of, counted, counts_in}
use Rattle.search_phase.specs.Searching.{Searching, IsSearching, AreApart, is_low}
use Rattle.search_phase.specs.FetchPhase.{count_for}
use Rattle.search_phase.proofs.Sorting.{by_test}
use Rattle.search_phase.proofs.Lookups.{Beside}
use Rattle.search_phase.proofs.QueryTops.{IsTopOf, IsAnswered, tops_are}
use Rattle.search_phase.proofs.Roots.{length-filter_map}

abbrev counts_of : List ShardRead → List Asked → List ShardCount
counts_of ats asked = filter_map count_for (zip ats asked)

-- ---- one shard

own_shard : (at : ShardRead) (top : ShardTop) → IsTopOf at top → (counted at top).shard ≡ shard_read at
own_shard (Newest shard) top h = h.own
own_shard (Kept kept) top h = refl

low_count : (at : ShardRead) (top : ShardTop) → IsTopOf at top → is_low at ≡ true → nat_lt (counted at top).count (2 ^ 32) ≡ true
low_count (Newest shard) top h e = lt-ltb top.count (2 ^ 32) h.low
low_count (Kept kept) top h e = e

-- ---- all shards

-- what holds of each shard that is read gives what holds of each count
all_counts : (p : ShardRead → Bool) (q : ShardCount → Bool) → ((at : ShardRead) (top : ShardTop) → IsTopOf at top → p at ≡ true → q (counted at top) ≡ true)
    → (ats : List ShardRead) (asked : List Asked) → list_all p ats ≡ true → Beside (IsAnswered IsTopOf) ats asked → list_all q (counts_of ats asked) ≡ true
all_counts p q gives [] asked h tops = refl
all_counts p q gives (at ∷ ats) [] h tops = refl
all_counts p q gives (at ∷ ats) (a ∷ asked) h tops =
    by_test (p at)
    (λ passes. of_top passes (option_and_then top_of a.answer) refl (all_counts p q gives ats asked (rw passes at h) tops.1))
    (λ no. absurd (let f : false ≡ true = rw no at h in cc))
  where
    of_top : p at ≡ true → (o : Option ShardTop) → option_and_then top_of a.answer ≡ o → list_all q (counts_of ats asked) ≡ true → list_all q (counts_of (at ∷ ats) (a ∷ asked)) ≡ true
    of_top passes None e rest = rw e rest
    of_top passes (Some top) e rest = let here : q (counted at top) ≡ true = gives at top (tops.0 top e) passes in rw (e, here) rest

-- each count is of a shard below those of all that come later
abbrev Rise : List ShardCount → Type 0
Rise [] = Unit {0}
Rise (n ∷ later) = (list_all (λ m. nat_lt n.shard m.shard) later ≡ true) × Rise later

counts_rise : (ats : List ShardRead) (asked : List Asked) → AreApart ats → Beside (IsAnswered IsTopOf) ats asked → Rise (counts_of ats asked)
counts_rise [] asked apart tops = tt
counts_rise (at ∷ ats) [] apart tops = tt
counts_rise (at ∷ ats) (a ∷ asked) apart tops = of_top (option_and_then top_of a.answer) refl (counts_rise ats asked apart.1 tops.1)
  where
    above : list_all (λ m. nat_lt (shard_read at) m.shard) (counts_of ats asked) ≡ true
    above = all_counts (λ other. nat_lt (shard_read at) (shard_read other)) (λ m. nat_lt (shard_read at) m.shard)
        (λ other top h e. ap (nat_lt (shard_read at)) (own_shard other top h) ∙ e)
        ats asked apart.0 tops.1

    of_top : (o : Option ShardTop) → option_and_then top_of a.answer ≡ o → Rise (counts_of ats asked) → Rise (counts_of (at ∷ ats) (a ∷ asked))
    of_top None e rest = rw e rest
    of_top (Some top) e rest =
        let P : ℕ → Type 0 = λ n. list_all (λ (m : ShardCount). nat_lt n m.shard) (counts_of ats asked) ≡ true in
        rw e (subst P (sym (own_shard at top (tops.0 top e))) above, rest)

ascend : (counts : List ShardCount) → Rise counts → Ascend counts
ascend [] h = λ k d within. absurd (omega arith)
ascend (n ∷ []) h = λ k d within. absurd (omega arith)
ascend (n ∷ m ∷ later) h = at_place (ascend (m ∷ later) h.1)
  where
    first : nat_lt n.shard m.shard ≡ true
    first = by_test (nat_lt n.shard m.shard) (λ passes. passes) (λ fails. absurd (let f : false ≡ true = rw fails at h.0 in cc))

    at_place : Ascend (m ∷ later) → Ascend (n ∷ m ∷ later)
    at_place rest zero d within = ltb-true n.shard m.shard first
    at_place rest (suc k) d within = let e : suc k + 1 ≡ suc (k + 1) = omega arith in rw e (rest k d (omega arith))

total_at_most : (m : ℕ) (counts : List ShardCount) → list_all (λ n. nat_lt n.count m) counts ≡ true → sum_by (λ (n : ShardCount). n.count) counts ≤ length counts * m
total_at_most m counts h =
    sum_by-le (λ (n : ShardCount). n.count) m counts
    (All-weaker (λ (n : ShardCount). nat_lt n.count m ≡ true) (λ (n : ShardCount). n.count ≤ m) (λ n e. (let below : n.count < m = ltb-true n.count m e in omega arith)) counts
    (AllPass-from_list_all (λ (n : ShardCount). nat_lt n.count m) counts h))

-- ---- what a search counts

module _ (s : Searching) (h : IsSearching s) where
  abbrev counts : List ShardCount
  counts = counts_in s.reading s.asked

  counts_low : list_all (λ n. nat_lt n.count (2 ^ 32)) counts ≡ true
  counts_low = all_counts is_low (λ n. nat_lt n.count (2 ^ 32)) low_count s.reading.shards s.asked h.reading.low (tops_are s h)

  few_counts : length counts ≤ length s.reading.shards
  few_counts =
      let less : length counts ≤ length (zip s.reading.shards s.asked) = length-filter_map count_for (zip s.reading.shards s.asked) in
      omega (arith, length-zip s.reading.shards s.asked)

  pub counts_fit : length s.reading.shards ≤ 15 → AreCounts counts
  counts_fit few = record { few = omega (arith, few_counts); low = counts_low; ascend = ascend counts (counts_rise s.reading.shards s.asked h.reading.apart (tops_are s h)) }

  pub total_below : (shards bound : ℕ) → length s.reading.shards ≤ shards → shards * (2 ^ 32) < bound → sum_by (λ (n : ShardCount). n.count) counts < bound
  total_below shards bound most below = within (2 ^ 32) (sum_by (λ (n : ShardCount). n.count) counts) (length counts) (total_at_most (2 ^ 32) counts counts_low) (omega (arith, few_counts)) below
    where
      within : (m total n : ℕ) → total ≤ n * m → n ≤ shards → shards * m < bound → total < bound
      within m total n t l b = let more : n * m ≤ shards * m = grind (arith, mul-le-mul_right) in omega arith

  pub total_fits : sum_by (λ (n : ShardCount). n.count) counts < 2 ^ 64
  total_fits = total_below 4294967295 (2 ^ 64) (let few : length s.reading.shards < 4294967296 = h.reading.few in omega arith) (lit< tt)
