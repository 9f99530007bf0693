-- The reply of a search that has ended counts each shard that it reads, or tells that it has failed.
use Rattle.std.specs.Prelude.{◌≡◌, ℕ, zero, suc, ◌<◌, ◌≤◌, ◌⊎◌, ◌||◌, ◌==◌, List, [], ◌∷◌, Bool, true, false, cond, Option, Some, None, filter_map, find, is_some, length, nat_le, option_and_then, option_map, slice_get, zip, min, refl}
use Rattle.std.specs.List.{AllByRecursion, cons_option, list_any}
use Rattle.std.proofs.Common.{sym, ◌∙◌, ap, arith, inl, inr, get_or}
use Rattle.std.proofs.lemmas.Bool.{eq-eqb, eqb-true, leb-true}
use Rattle.std.proofs.lemmas.Option.{slice_get_within, slice_get-get_or}
use Rattle.std.proofs.lemmas.Slice.Zip.{length-zip}
use Rattle.search_phase.proofs.Lookups.{is_some-find}
use Rattle.search_phase.proofs.QueryTops.{top_at}
use Rattle.search_phase.proofs.Requests.{HasEnded, list_all-slice_get, request_of_query}
use Rattle.search_phase.proofs.Roots.{length-filter_map}
use Rattle.search_phase.proofs.Sorting.{by_test}
use Rattle.search_phase.specs.Searching.{IsSearching, Searching, reply_of, search_answer}
use Rattle.task_events.specs.Answers.{has_failed}
use Rattle.task_events.specs.Counts.{version_in}
use Rattle.task_events.specs.Kinds.{can_have}
use Rattle.task_events.specs.Readings.{shard_read}
use Rattle.task_events.specs.Searches.{counted, counts_in, failed_at, failed_in, failure_at, failure_in, failure_of, query_of, top_of}
use Rattle.task_events.specs.declared.reading.ShardRead.{ShardRead}
use Rattle.task_events.specs.declared.reading.ShardRead.TheVariants.{Newest, Kept}
use Rattle.task_events.specs.declared.reply.FailedShard.{FailedShard}
use Rattle.task_events.specs.declared.reply.Reply.{Reply}
use Rattle.task_events.specs.declared.reply.Reply.TheVariants.{Search, Top, Hits, AllFailed, Wrote, Cancelled, Rejected}
use Rattle.task_events.specs.declared.reply.ShardCount.{ShardCount}
use Rattle.task_events.specs.declared.reply.ShardFailure.{ShardFailure}
use Rattle.task_events.specs.declared.reply.ShardFailure.TheVariants as failures
use Rattle.task_events.specs.declared.reply.ShardTop.{ShardTop}
use Rattle.task_events.specs.declared.request.Request.TheVariants as asks
use Rattle.task_events.specs.declared.request.ShardAsk.{ShardAsk}
use Rattle.task_events.specs.declared.step.Asked.{Asked}
use Rattle.reply_facts.specs.Plainly.{is_counted, is_lost}
use Rattle.task_ids.proofs.Each.{all_placed}
use Rattle.search_phase.proofs.Plain.{is_given}

-- ---- lists

slice_get-zip : {X Y : Type 0} (xs : List X) (ys : List Y) (i : ℕ) (x : X) (y : Y) → slice_get xs i ≡ Some x → slice_get ys i ≡ Some y → slice_get (zip xs ys) i ≡ Some (x, y)
slice_get-zip [] ys i x y here there = absurd cc
slice_get-zip (a ∷ xs) [] i x y here there = absurd cc
slice_get-zip (a ∷ xs) (b ∷ ys) zero x y here there = let e : a ≡ x = cc in let f : b ≡ y = cc in λ i. Some (e i, f i)
slice_get-zip (a ∷ xs) (b ∷ ys) (suc i) x y here there = slice_get-zip xs ys i x y here there

module _ {X Y : Type 0} (f : X → Option Y) where
  -- what is made of one that is there is found
  any_made : (p : Y → Bool) (xs : List X) (i : ℕ) (x : X) (y : Y) → slice_get xs i ≡ Some x → f x ≡ Some y → p y ≡ true → list_any p (filter_map f xs) ≡ true
  any_made p [] i x y here made passes = absurd cc
  any_made p (z ∷ xs) zero x y here made passes =
      let same : z ≡ x = cc in
      let first : f z ≡ Some y = ap f same ∙ made in
      rw (first, passes) refl
  any_made p (z ∷ xs) (suc i) x y here made passes = by_first (f z) (any_made p xs i x y here made passes)
    where
      by_first : (o : Option Y) → list_any p (filter_map f xs) ≡ true → list_any p (cons_option o (filter_map f xs)) ≡ true
      by_first None later = later
      by_first (Some w) later = by_test (p w) (λ yes. rw yes refl) (λ no. rw no later)

  -- where as many are made as there are, one is made of each
  each_made : (xs : List X) → length xs ≤ length (filter_map f xs) → (i : ℕ) (x : X) → slice_get xs i ≡ Some x → is_some (f x) ≡ true
  each_made [] all i x here = absurd cc
  each_made (z ∷ xs) all i x here = by_first (f z) refl all (λ rest j there. each_made xs rest j x there) i here
    where
      most : length (filter_map f xs) ≤ length xs
      most = length-filter_map f xs

      at_place : is_some (f z) ≡ true → ((j : ℕ) → slice_get xs j ≡ Some x → is_some (f x) ≡ true) → (i : ℕ) → slice_get (z ∷ xs) i ≡ Some x → is_some (f x) ≡ true
      at_place first later zero here = let same : z ≡ x = cc in ap (λ w. is_some (f w)) (sym same) ∙ first
      at_place first later (suc i) here = later i here

      by_first : (o : Option Y) → f z ≡ o → length (z ∷ xs) ≤ length (cons_option o (filter_map f xs)) → (length xs ≤ length (filter_map f xs) → (j : ℕ) → slice_get xs j ≡ Some x → is_some (f x) ≡ true)
          → (i : ℕ) → slice_get (z ∷ xs) i ≡ Some x → is_some (f x) ≡ true
      by_first None e all later i here = absurd (omega (arith, most))
      by_first (Some y) e all later i here = at_place (ap is_some e) (later (omega arith)) i here

-- ---- the answer to a query

answer_kind : (n : ℕ) (ask : ShardAsk) (reply : Reply) → can_have n (asks.Query ask) reply ≡ true → ((top : ShardTop) × (reply ≡ Top top)) ⊎ ((failure : ShardFailure) × (failure_in reply ≡ Some failure))
answer_kind n ask (Top top) can = inl (top, refl)
answer_kind n ask (Cancelled task cancel counts) can = inr (failures.Cancelled task cancel, refl)
answer_kind n ask (Rejected node) can = inr (failures.Rejected node, refl)
answer_kind n ask (Search reply) can = absurd cc
answer_kind n ask (Hits hits) can = absurd cc
answer_kind n ask (AllFailed failed) can = absurd cc
answer_kind n ask (Wrote counts) can = absurd cc

abbrev no_ask : Asked
no_ask = record { ask = 0; answer = None }

pub is_some-map : {X Y : Type 0} (f : X → Y) (o : Option X) → is_some (option_map f o) ≡ is_some o
is_some-map f None = refl
is_some-map f (Some x) = refl

-- ---- one shard

-- what was told of it, or why it failed
pub counts_its_shard : (at : ShardRead) (top : ShardTop) → top.shard ≡ shard_read at → (counted at top).shard ≡ shard_read at
counts_its_shard (Newest shard) top own = own
counts_its_shard (Kept kept) top own = refl

abbrev pub failed_as : ℕ → ShardFailure → FailedShard
failed_as shard failure = record { shard = shard; failure = failure }

failed_its_shard : (shard : ℕ) (o : Option ShardFailure) → is_some (option_map (failed_as shard) o) ≡ true → (f : FailedShard) × (option_map (failed_as shard) o ≡ Some f) × (f.shard ≡ shard)
failed_its_shard shard None some = absurd cc
failed_its_shard shard (Some failure) some = (failed_as shard failure, refl, refl)

both : (a b : Bool) → (a ≡ true) ⊎ (b ≡ true) → (a || b) ≡ true
both a b (inl first) = rw first refl
both true b (inr second) = refl
both false b (inr second) = second

module _ (s : Searching) (sound : IsSearching s) (end : HasEnded s) where
  abbrev shards : ℕ
  shards = length s.reading.shards

  abbrev fails : ShardRead × Asked → Option FailedShard
  fails p = failed_at s.reading.ask shards s.asked p.0 p.1

  abbrev counts : ShardRead × Asked → Option ShardCount
  counts p = option_map (counted p.0) (option_and_then top_of p.1.answer)

  as_many : shards ≤ length s.asked
  as_many = by_test (nat_le shards (length s.asked)) (λ yes. leb-true shards (length s.asked) yes) (λ no. absurd (let f : false ≡ true = rw no at end.queried in cc))

  module _ (i : ℕ) (at : ShardRead) (here : slice_get s.reading.shards i ≡ Some at) where
    abbrev a : Asked
    a = get_or s.asked i no_ask

    there : slice_get s.asked i ≡ Some a
    there = let below : i < shards = slice_get_within s.reading.shards i at here in slice_get-get_or s.asked i no_ask (omega (arith, as_many))

    together : slice_get (zip s.reading.shards s.asked) i ≡ Some (at, a)
    together = slice_get-zip s.reading.shards s.asked i at a here there

    -- as it was counted
    found : (top : ShardTop) → a.answer ≡ Some (Top top) → list_any (λ n. n.shard == shard_read at) (counts_in s.reading s.asked) ≡ true
    found top e =
        let told : option_and_then top_of a.answer ≡ Some top = rw e refl in
        let own : top.shard ≡ shard_read at = (top_at s sound i at a here there top told).own in
        any_made counts (λ n. n.shard == shard_read at) (zip s.reading.shards s.asked) i (at, a) (counted at top) together (rw told refl) (eq-eqb _ _ (counts_its_shard at top own))

    -- as it failed
    lost : is_some (fails (at, a)) ≡ true → has_failed (failed_in s.reading s.asked) (shard_read at) ≡ true
    lost some = of_one (failed_its_shard (shard_read at) (failure_at s.reading.ask shards s.asked at a) some)
      where
        of_one : (f : FailedShard) × (fails (at, a) ≡ Some f) × (f.shard ≡ shard_read at) → has_failed (failed_in s.reading s.asked) (shard_read at) ≡ true
        of_one (f, made, own) = any_made fails (λ f. f.shard == shard_read at) (zip s.reading.shards s.asked) i (at, a) f together made (eq-eqb _ _ own)

    query_lost : (reply : Reply) (failure : ShardFailure) → a.answer ≡ Some reply → failure_in reply ≡ Some failure → is_some (fails (at, a)) ≡ true
    query_lost reply failure e f = let why : failure_of a ≡ Some failure = rw e f in rw why refl

    -- one of the two
    counted_or_lost : (list_any (λ n. n.shard == shard_read at) (counts_in s.reading s.asked) ≡ true) ⊎ (has_failed (failed_in s.reading s.asked) (shard_read at) ≡ true)
    counted_or_lost = of_reply (is_given a.answer (list_all-slice_get (λ (b : Asked). is_some b.answer) s.asked i a end.answered there))
      where
        of_kind : (reply : Reply) → a.answer ≡ Some reply → ((top : ShardTop) × (reply ≡ Top top)) ⊎ ((failure : ShardFailure) × (failure_in reply ≡ Some failure))
            → (list_any (λ n. n.shard == shard_read at) (counts_in s.reading s.asked) ≡ true) ⊎ (has_failed (failed_in s.reading s.asked) (shard_read at) ≡ true)
        of_kind reply e (inl (top, is)) = inl (found top (e ∙ ap Some is))
        of_kind reply e (inr (failure, is)) = inr (lost (query_lost reply failure e is))

        of_reply : (reply : Reply) × (a.answer ≡ Some reply) → (list_any (λ n. n.shard == shard_read at) (counts_in s.reading s.asked) ≡ true) ⊎ (has_failed (failed_in s.reading s.asked) (shard_read at) ≡ true)
        of_reply (reply, e) = of_kind reply e (answer_kind shards (query_of s.reading at) reply (sound.possible i a (asks.Query (query_of s.reading at)) reply there (request_of_query s.reading s.asked i at here) e))

    -- ---- in the reply

    abbrev Tells : Reply → Type 0
    Tells reply = (is_counted reply (shard_read at) || is_lost reply (shard_read at)) ≡ true

    answer_tells : Tells (Search (search_answer s.reading s.asked))
    answer_tells = both _ _ (of_one counted_or_lost)
      where
        of_one : (list_any (λ n. n.shard == shard_read at) (counts_in s.reading s.asked) ≡ true) ⊎ (has_failed (failed_in s.reading s.asked) (shard_read at) ≡ true)
            → (is_some (version_in (shard_read at) (counts_in s.reading s.asked)) ≡ true) ⊎ (has_failed (failed_in s.reading s.asked) (shard_read at) ≡ true)
        of_one (inl counts) = inl (is_some-map (λ n. n.version) (find (λ n. n.shard == shard_read at) (counts_in s.reading s.asked)) ∙ is_some-find (λ n. n.shard == shard_read at) (counts_in s.reading s.asked) ∙ counts)
        of_one (inr failed) = inr failed

    -- where all have failed, this one has
    all_failed_tells : (length (failed_in s.reading s.asked) == shards) ≡ true → Tells (AllFailed (failed_in s.reading s.asked))
    all_failed_tells all =
        let pairs : length (zip s.reading.shards s.asked) ≡ min shards (length s.asked) = length-zip s.reading.shards s.asked in
        let many : length (failed_in s.reading s.asked) ≡ shards = eqb-true _ _ all in
        lost (each_made fails (zip s.reading.shards s.asked) (omega (arith, pairs, many, as_many)) i (at, a) together)

    reply_tells : Tells (reply_of s)
    reply_tells = by (length (failed_in s.reading s.asked) == shards) refl
      where
        by : (b : Bool) → (length (failed_in s.reading s.asked) == shards) ≡ b → Tells (cond b (AllFailed (failed_in s.reading s.asked)) (Search (search_answer s.reading s.asked)))
        by true all = all_failed_tells all
        by false some = answer_tells

  pub tells_of_each : AllByRecursion (λ at. (is_counted (reply_of s) (shard_read at) || is_lost (reply_of s) (shard_read at)) ≡ true) s.reading.shards
  tells_of_each = all_placed (λ at. (is_counted (reply_of s) (shard_read at) || is_lost (reply_of s) (shard_read at)) ≡ true) s.reading.shards reply_tells
