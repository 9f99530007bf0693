-- The reply of a search that has ended tells of the shards that it reads and of no other, of each once.
use Rattle.task_ids.proofs.Each.{all_so}
use Rattle.std.specs.Prelude.{◌≡◌, ℕ, ◌<◌, ◌≤◌, ◌==◌, List, [], ◌∷◌, Bool, true, false, cond, nat_le, nat_lt, Option, Some, None, filter, filter_map, find, length, map, option_and_then, option_map, zip, refl}
use Rattle.std.specs.List.{AllByRecursion, cons_option, list_all, list_any}
use Rattle.std.proofs.Common.{sym, ◌∙◌, ap, arith}
use Rattle.std.proofs.lemmas.Bool.{eq-eqb, leb-true, ltb-true, ne_eqb}
use Rattle.search_phase.proofs.Lookups.{Beside, beside_by_place, is_some-find}
use Rattle.search_phase.proofs.QueryTops.{top_at}
use Rattle.search_phase.proofs.Requests.{HasEnded}
use Rattle.search_phase.proofs.Sorting.{by_test}
use Rattle.search_phase.specs.Searching.{AreApart, IsSearching, Searching, reply_of, search_answer}
use Rattle.task_events.specs.Readings.{shard_read}
use Rattle.task_events.specs.Searches.{counted, counts_in, failed_at, failed_in, failure_at, top_of}
use Rattle.task_events.specs.declared.reading.ShardRead.{ShardRead}
use Rattle.task_events.specs.declared.reply.FailedShard.{FailedShard}
use Rattle.task_events.specs.declared.reply.Reply.{Reply}
use Rattle.task_events.specs.declared.reply.Reply.TheVariants.{Search, AllFailed}
use Rattle.task_events.specs.declared.reply.ShardCount.{ShardCount}
use Rattle.task_events.specs.declared.reply.ShardFailure.{ShardFailure}
use Rattle.task_events.specs.declared.reply.ShardTop.{ShardTop}
use Rattle.task_events.specs.declared.step.Asked.{Asked}
use Rattle.reply_facts.specs.Plainly.{counts_told, failures_told, is_counted, is_lost}
use Rattle.work_facts.proofs.Whole.{counts_its_shard, failed_as, is_some-map}

split_all : (p : ShardRead → Bool) (at : ShardRead) (reads : List ShardRead) → list_all p (at ∷ reads) ≡ true → (p at ≡ true) × (list_all p reads ≡ true)
split_all p at reads h = by_test (p at) (λ yes. (yes, rw yes at h)) (λ no. absurd (let f : false ≡ true = rw no at h in cc))

filter_same : (p q : ℕ → Bool) (reads : List ShardRead) → AllByRecursion (λ at. p (shard_read at) ≡ q (shard_read at)) reads → filter p (map shard_read reads) ≡ filter q (map shard_read reads)
filter_same p q [] same = refl
filter_same p q (at ∷ reads) same = let later = filter_same p q reads same.1 in λ i. cond (same.0 i) (shard_read at ∷ later i) (later i)

filter_none : (shards : List ℕ) → filter (λ shard. false) shards ≡ []
filter_none [] = refl
filter_none (shard ∷ shards) = filter_none shards

-- ---- what is made of the shards that are read, of each at most one

module _ {Y : Type 0} (f : ShardRead × Asked → Option Y) (key : Y → ℕ) where
  -- it tells of which shard it is made
  abbrev pub TellsOwn : ShardRead → Asked → Type 0
  TellsOwn at a = (y : Y) → f (at, a) ≡ Some y → key y ≡ shard_read at

  abbrev made : List ShardRead → List Asked → List Y
  made reads asked = filter_map f (zip reads asked)

  abbrev is_made : List Y → ℕ → Bool
  is_made ys shard = list_any (λ y. key y == shard) ys

  other_shard : (n : ℕ) (y : Y) (at : ShardRead) → key y ≡ shard_read at → nat_lt n (shard_read at) ≡ true → (key y == n) ≡ false
  other_shard n y at own low = let below : n < shard_read at = ltb-true n (shard_read at) low in ne_eqb (key y) n (λ same. omega arith)

  -- nothing is made of a shard below all that are read
  none_below : (n : ℕ) (reads : List ShardRead) (asked : List Asked) → Beside TellsOwn reads asked → list_all (λ other. nat_lt n (shard_read other)) reads ≡ true → is_made (made reads asked) n ≡ false
  none_below n [] asked own low = refl
  none_below n (at ∷ reads) [] own low = refl
  none_below n (at ∷ reads) (a ∷ asked) own low =
      let both = split_all (λ other. nat_lt n (shard_read other)) at reads low in
      by both.0 (f (at, a)) refl (none_below n reads asked own.1 both.1)
    where
      by : nat_lt n (shard_read at) ≡ true → (o : Option Y) → f (at, a) ≡ o → is_made (made reads asked) n ≡ false → is_made (cons_option o (made reads asked)) n ≡ false
      by first None e rest = rest
      by first (Some y) e rest = let other : (key y == n) ≡ false = other_shard n y at (own.0 y e) first in rw other rest

  -- what is made of one is of none that comes later
  of_none_later : (y : Y) (ys : List Y) (n : ℕ) (reads : List ShardRead) → key y ≡ n → list_all (λ other. nat_lt n (shard_read other)) reads ≡ true → AllByRecursion (λ at. is_made (y ∷ ys) (shard_read at) ≡ is_made ys (shard_read at)) reads
  of_none_later y ys n [] is low = tt
  of_none_later y ys n (at ∷ reads) is low =
      let both = split_all (λ other. nat_lt n (shard_read other)) at reads low in
      let below : n < shard_read at = ltb-true n (shard_read at) both.0 in
      let other : (key y == shard_read at) ≡ false = ne_eqb (key y) (shard_read at) (λ same. omega arith) in
      (rw other refl, of_none_later y ys n reads is both.1)

  pub tells_own : (reads : List ShardRead) (asked : List Asked) → AreApart reads → length reads ≤ length asked → Beside TellsOwn reads asked → map key (made reads asked) ≡ filter (is_made (made reads asked)) (map shard_read reads)
  tells_own [] asked apart long own = refl
  tells_own (at ∷ reads) [] apart long own = absurd (omega arith)
  tells_own (at ∷ reads) (a ∷ asked) apart long own = by (f (at, a)) refl (tells_own reads asked apart.1 (omega arith) own.1)
    where
      by : (o : Option Y) → f (at, a) ≡ o → map key (made reads asked) ≡ filter (is_made (made reads asked)) (map shard_read reads)
          → map key (cons_option o (made reads asked)) ≡ filter (is_made (cons_option o (made reads asked))) (map shard_read (at ∷ reads))
      by None e later = let none : is_made (made reads asked) (shard_read at) ≡ false = none_below (shard_read at) reads asked own.1 apart.0 in rw none later
      by (Some y) e later =
          let here : key y ≡ shard_read at = own.0 y e in
          let found : (key y == shard_read at) ≡ true = eq-eqb (key y) (shard_read at) here in
          let rest : map key (made reads asked) ≡ filter (is_made (y ∷ made reads asked)) (map shard_read reads) =
          later ∙ sym (filter_same (is_made (y ∷ made reads asked)) (is_made (made reads asked)) reads (of_none_later y (made reads asked) (shard_read at) reads here apart.0)) in
          rw found (λ i. here i ∷ rest i)

-- ---- the reply

failed_own : (shard : ℕ) (o : Option ShardFailure) (f : FailedShard) → option_map (failed_as shard) o ≡ Some f → f.shard ≡ shard
failed_own shard None f e = absurd cc
failed_own shard (Some failure) f e = let same : failed_as shard failure ≡ f = cc in ap (λ (g : FailedShard). g.shard) (sym same)

count_own : (at : ShardRead) (o : Option ShardTop) (n : ShardCount) → ((top : ShardTop) → o ≡ Some top → top.shard ≡ shard_read at) → option_map (counted at) o ≡ Some n → n.shard ≡ shard_read at
count_own at None n own e = absurd cc
count_own at (Some top) n own e = let same : counted at top ≡ n = cc in ap (λ (m : ShardCount). m.shard) (sym same) ∙ counts_its_shard at top (own top refl)

module _ (s : Searching) (sound : IsSearching s) (end : HasEnded s) where
  abbrev shards : ℕ
  shards = length s.reading.shards

  abbrev fails : ShardRead × Asked → Option FailedShard
  fails p = failed_at s.reading.ask shards s.asked p.0 p.1

  abbrev counts : ShardRead × Asked → Option ShardCount
  counts p = option_map (counted p.0) (option_and_then top_of p.1.answer)

  long : shards ≤ length s.asked
  long = by_test (nat_le shards (length s.asked)) (λ yes. leb-true shards (length s.asked) yes) (λ no. absurd (let f : false ≡ true = rw no at end.queried in cc))

  counts_own : map (λ (n : ShardCount). n.shard) (counts_in s.reading s.asked) ≡ filter (λ shard. list_any (λ (n : ShardCount). n.shard == shard) (counts_in s.reading s.asked)) (map shard_read s.reading.shards)
  counts_own = tells_own counts (λ (n : ShardCount). n.shard) s.reading.shards s.asked sound.reading.apart long
      (beside_by_place (TellsOwn counts (λ (n : ShardCount). n.shard)) s.reading.shards s.asked
      (λ i at a here there n e. count_own at (option_and_then top_of a.answer) n (λ top is. (top_at s sound i at a here there top is).own) e))

  failures_own : map (λ (f : FailedShard). f.shard) (failed_in s.reading s.asked) ≡ filter (λ shard. list_any (λ (f : FailedShard). f.shard == shard) (failed_in s.reading s.asked)) (map shard_read s.reading.shards)
  failures_own = tells_own fails (λ (f : FailedShard). f.shard) s.reading.shards s.asked sound.reading.apart long
      (beside_by_place (TellsOwn fails (λ (f : FailedShard). f.shard)) s.reading.shards s.asked
      (λ i at a here there f e. failed_own (shard_read at) (failure_at s.reading.ask shards s.asked at a) f e))

  abbrev CountsOwn : Reply → Type 0
  CountsOwn reply = map (λ (n : ShardCount). n.shard) (counts_told reply) ≡ filter (is_counted reply) (map shard_read s.reading.shards)

  abbrev LosesOwn : Reply → Type 0
  LosesOwn reply = map (λ (f : FailedShard). f.shard) (failures_told reply) ≡ filter (is_lost reply) (map shard_read s.reading.shards)

  same_test : (shard : ℕ) → list_any (λ (n : ShardCount). n.shard == shard) (counts_in s.reading s.asked) ≡ is_counted (Search (search_answer s.reading s.asked)) shard
  same_test shard =
      sym (is_some-map (λ (n : ShardCount). n.version) (find (λ (n : ShardCount). n.shard == shard) (counts_in s.reading s.asked)) ∙ is_some-find (λ (n : ShardCount). n.shard == shard) (counts_in s.reading s.asked))

  answer_counts : CountsOwn (Search (search_answer s.reading s.asked))
  answer_counts = counts_own ∙ filter_same (λ shard. list_any (λ (n : ShardCount). n.shard == shard) (counts_in s.reading s.asked)) (is_counted (Search (search_answer s.reading s.asked))) s.reading.shards
      (all_so (λ at. list_any (λ (n : ShardCount). n.shard == shard_read at) (counts_in s.reading s.asked) ≡ is_counted (Search (search_answer s.reading s.asked)) (shard_read at)) (λ at. same_test (shard_read at)) s.reading.shards)

  none_counted : CountsOwn (AllFailed (failed_in s.reading s.asked))
  none_counted = sym (filter_none (map shard_read s.reading.shards))

  abbrev reply_by : Bool → Reply
  reply_by b = cond b (AllFailed (failed_in s.reading s.asked)) (Search (search_answer s.reading s.asked))

  counts_by : (b : Bool) → CountsOwn (reply_by b)
  counts_by true = none_counted
  counts_by false = answer_counts

  loses_by : (b : Bool) → LosesOwn (reply_by b)
  loses_by true = failures_own
  loses_by false = failures_own

  pub reply_counts_own : CountsOwn (reply_of s)
  reply_counts_own = counts_by (length (failed_in s.reading s.asked) == shards)

  pub reply_loses_own : LosesOwn (reply_of s)
  reply_loses_own = loses_by (length (failed_in s.reading s.asked) == shards)
