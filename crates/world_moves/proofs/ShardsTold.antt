-- What a search or a page knows of its shards by the places of its asks is what its children tell.
use Rattle.std.proofs.Common.{◌≡◌, ◌<◌, ◌≤◌, ◌+◌, ℕ, zero, suc, Bool, true, false, not, List, [], ◌∷◌, ◌++◌, length, map, Option, Some, None, refl, sym, ap, ◌∙◌, arith}
use Rattle.std.specs.Prelude.{◌||◌, slice_get, is_some, option_map, option_and_then, filter, filter_map, zip, drop}
use Rattle.std.specs.List.{cons_option}
use Rattle.std.specs.Option.{option_or, option_map_or}
use Rattle.std.proofs.lemmas.List.{length-map, length-drop}
use Rattle.task_ids.specs.declared.task_id.TaskId.{TaskId}
use Rattle.task_events.specs.declared.event.Event.{Event}
use Rattle.task_events.specs.declared.reply.FailedShard.{FailedShard}
use Rattle.task_events.specs.declared.reply.Reply.{Reply}
use Rattle.task_events.specs.declared.reply.Reply.TheVariants.{Search, Top, Hits, AllFailed, Wrote, Cancelled, Rejected}
use Rattle.task_events.specs.declared.reply.ShardFailure.{ShardFailure}
use Rattle.task_events.specs.declared.reply.ShardTop.{ShardTop}
use Rattle.task_ids.specs.declared.doc.Doc.{Doc}
use Rattle.task_events.specs.declared.reading.ShardRead.{ShardRead}
use Rattle.task_events.specs.declared.request.HitKey.{HitKey}
use Rattle.task_events.specs.declared.request.Request.{Request}
use Rattle.task_events.specs.declared.request.Request.TheVariants as asks
use Rattle.task_events.specs.declared.step.Asked.{Asked}
use Rattle.task_events.specs.Asks.{answer_of}
use Rattle.task_events.specs.Kinds.{can_have}
use Rattle.task_events.specs.Searches.{query_of, top_of, tops_in, fetch_of, winners_among, won_tops, fetches_of, has_queried, requests_of, failure_in, failure_of, failure_at, failed_at, fetch_at, failed_in}
use Rattle.task_events.specs.Answers.{count_read}
use Rattle.task_events.specs.Readings.{Reading, shard_read}
use Rattle.search_phase.specs.Searching.{AreApart, plain_counts}
use Rattle.search_phase.proofs.Lookups.{slice_get-drop}
use Rattle.search_phase.proofs.Requests.{query_requests, requests_after, length-requests_after, request_of_query, slice_get_below}
use Rattle.task_events.specs.ShardOutcomes.{is_query_of, is_fetch_of, ask_for, answer_for, count_found, answered_shards, are_hits, fetch_failed, shard_failed, why_failed, failure_told, failed_shards}
use Rattle.world_moves.proofs.AsksFor.{first_at, first_found, query_at, past_queries, fetched_at}

-- ---- lists over the shards

module _ {X : Type 0} (f : ShardRead → Option X) (g : ShardRead × Asked → Option X) where
  same_zipped : (reads : List ShardRead) (asked : List Asked) → length reads ≤ length asked → ((i : ℕ) (at : ShardRead) (a : Asked) → slice_get reads i ≡ Some at → slice_get asked i ≡ Some a → f at ≡ g (at, a))
      → filter_map f reads ≡ filter_map g (zip reads asked)
  same_zipped [] asked long each = refl
  same_zipped (at ∷ reads) [] long each = absurd (omega arith)
  same_zipped (at ∷ reads) (a ∷ asked) long each =
      let rest = same_zipped reads asked (omega arith) (λ i x y e d. each (suc i) x y e d) in
      rw (each zero at a refl refl, rest) refl

same_filter : (f g : ℕ → Bool) (reads : List ShardRead) → ((i : ℕ) (at : ShardRead) → slice_get reads i ≡ Some at → f (shard_read at) ≡ g (shard_read at)) → filter f (map shard_read reads) ≡ filter g (map shard_read reads)
same_filter f g [] each = refl
same_filter f g (at ∷ reads) each =
    let rest = same_filter f g reads (λ i x e. each (suc i) x e) in
    rw (each zero at refl, rest) refl

of_shards : {X : Type 0} (f : ℕ → Option X) (reads : List ShardRead) → filter_map (λ at. f (shard_read at)) reads ≡ filter_map f (map shard_read reads)
of_shards f [] = refl
of_shards f (at ∷ reads) = ap (cons_option (f (shard_read at))) (of_shards f reads)

-- the shards of failures are those that have one
failed_of : (why : ℕ → Option ShardFailure) (shards : List ℕ)
    → map (λ (f : FailedShard). f.shard) (filter_map (λ s. option_map (λ failure. record { shard = s; failure = failure }) (why s)) shards) ≡ filter (λ s. is_some (why s)) shards
failed_of why [] = refl
failed_of why (s ∷ shards) = by_cause (why s) refl (failed_of why shards)
  where
    by_cause : (o : Option ShardFailure) → why s ≡ o
        → map (λ (f : FailedShard). f.shard) (filter_map (λ s. option_map (λ failure. record { shard = s; failure = failure }) (why s)) shards) ≡ filter (λ s. is_some (why s)) shards
        → map (λ (f : FailedShard). f.shard) (filter_map (λ s. option_map (λ failure. record { shard = s; failure = failure }) (why s)) (s ∷ shards)) ≡ filter (λ s. is_some (why s)) (s ∷ shards)
    by_cause None e rest = rw e rest
    by_cause (Some failure) e rest = rw e (ap (λ l. s ∷ l) rest)

-- ---- replies

-- a query ends with what it found, or it failed; and a fetch with documents
abbrev pub IsQueryReply : Reply → Type 0
IsQueryReply (Top top) = Unit {0}
IsQueryReply (Cancelled task cancel counts) = Unit {0}
IsQueryReply (Rejected node) = Unit {0}
IsQueryReply _ = ⊥

abbrev pub IsFetchReply : Reply → Type 0
IsFetchReply (Hits hits) = Unit {0}
IsFetchReply (Cancelled task cancel counts) = Unit {0}
IsFetchReply (Rejected node) = Unit {0}
IsFetchReply _ = ⊥

query_reply : (shards : ℕ) (r : Request) (shard : ℕ) (reply : Reply) → is_query_of shard r ≡ true → can_have shards r reply ≡ true → IsQueryReply reply
query_reply shards (asks.Query ask) shard (Top top) is can = tt
query_reply shards (asks.Query ask) shard (Cancelled task cancel counts) is can = tt
query_reply shards (asks.Query ask) shard (Rejected node) is can = tt
query_reply shards (asks.Query ask) shard (Search reply) is can = absurd (cc)
query_reply shards (asks.Query ask) shard (AllFailed failed) is can = absurd (cc)
query_reply shards (asks.Query ask) shard (Hits hits) is can = absurd (cc)
query_reply shards (asks.Query ask) shard (Wrote counts) is can = absurd (cc)
query_reply shards (asks.Search ask) shard reply is can = absurd (cc)
query_reply shards (asks.Scroll ask) shard reply is can = absurd (cc)
query_reply shards (asks.Fetch ask) shard reply is can = absurd (cc)
query_reply shards (asks.Reindex ask) shard reply is can = absurd (cc)
query_reply shards (asks.Slice ask) shard reply is can = absurd (cc)
query_reply shards (asks.Bulk ask) shard reply is can = absurd (cc)
query_reply shards (asks.BulkShard ask) shard reply is can = absurd (cc)

fetch_reply : (shards : ℕ) (r : Request) (shard : ℕ) (reply : Reply) → is_fetch_of shard r ≡ true → can_have shards r reply ≡ true → IsFetchReply reply
fetch_reply shards (asks.Fetch ask) shard (Hits hits) is can = tt
fetch_reply shards (asks.Fetch ask) shard (Cancelled task cancel counts) is can = tt
fetch_reply shards (asks.Fetch ask) shard (Rejected node) is can = tt
fetch_reply shards (asks.Fetch ask) shard (Search reply) is can = absurd (cc)
fetch_reply shards (asks.Fetch ask) shard (AllFailed failed) is can = absurd (cc)
fetch_reply shards (asks.Fetch ask) shard (Top top) is can = absurd (cc)
fetch_reply shards (asks.Fetch ask) shard (Wrote counts) is can = absurd (cc)
fetch_reply shards (asks.Search ask) shard reply is can = absurd (cc)
fetch_reply shards (asks.Scroll ask) shard reply is can = absurd (cc)
fetch_reply shards (asks.Query ask) shard reply is can = absurd (cc)
fetch_reply shards (asks.Reindex ask) shard reply is can = absurd (cc)
fetch_reply shards (asks.Slice ask) shard reply is can = absurd (cc)
fetch_reply shards (asks.Bulk ask) shard reply is can = absurd (cc)
fetch_reply shards (asks.BulkShard ask) shard reply is can = absurd (cc)

-- a shard failed exactly where a cause is told
fetch_why : (o : Option Reply) → ((reply : Reply) → o ≡ Some reply → IsFetchReply reply) → is_some (option_and_then failure_in o) ≡ option_map_or (λ reply. not (are_hits reply)) o false
fetch_why None can = refl
fetch_why (Some (Hits hits)) can = refl
fetch_why (Some (Cancelled task cancel counts)) can = refl
fetch_why (Some (Rejected node)) can = refl
fetch_why (Some (Search reply)) can = absurd (can _ refl)
fetch_why (Some (AllFailed failed)) can = absurd (can _ refl)
fetch_why (Some (Top top)) can = absurd (can _ refl)
fetch_why (Some (Wrote counts)) can = absurd (can _ refl)

query_why : (reply : Reply) (fetched : Option ShardFailure) (failed : Bool) → IsQueryReply reply → is_some fetched ≡ failed → is_some (option_or (failure_in reply) fetched) ≡ (not (is_some (top_of reply)) || failed)
query_why (Top top) fetched failed can e = e
query_why (Cancelled task cancel counts) fetched failed can e = refl
query_why (Rejected node) fetched failed can e = refl
query_why (Search reply) fetched failed can e = absurd can
query_why (AllFailed shards) fetched failed can e = absurd can
query_why (Hits hits) fetched failed can e = absurd can
query_why (Wrote counts) fetched failed can e = absurd can

-- ---- where all asks are answered

then_failed : (o : Option Asked) → option_and_then failure_in (option_and_then (λ a. a.answer) o) ≡ option_and_then failure_of o
then_failed None = refl
then_failed (Some a) = refl

abbrev top_in : Asked → Option ShardTop
top_in a = option_and_then top_of a.answer

there : {X : Type 0} (xs : List X) (i : ℕ) → i < length xs → (x : X) × (slice_get xs i ≡ Some x)
there [] i low = absurd (omega arith)
there (x ∷ xs) zero low = (x, refl)
there (x ∷ xs) (suc i) low = there xs i (omega arith)

-- all that a search or a page knows, where the ask at each place has the answer that it has in the past
pub record IsAllTold (t : TaskId) (h : List Event) (r : Reading) (asked : List Asked) : Type 0 where
  pub apart : AreApart r.shards
  -- its first ask for a thing is at the first place of such a request
  pub first : (test : Request → Bool) → ask_for test t h ≡ first_at test 1 (requests_of r asked)
  pub answers : (i : ℕ) (a : Asked) → slice_get asked i ≡ Some a → answer_of t (i + 1) h ≡ a.answer
  pub queried : has_queried (length r.shards) asked ≡ true
  pub as_many : length asked ≡ length (requests_of r asked)
  -- each answer is one that its request can have in a cluster with so many shards, and there is one
  pub shards : ℕ
  pub possible : (i : ℕ) (a : Asked) (q : Request) → slice_get asked i ≡ Some a → slice_get (requests_of r asked) i ≡ Some q → (reply : Reply) × (a.answer ≡ Some reply) × (can_have shards q reply ≡ true)

module _ (t : TaskId) (h : List Event) (r : Reading) (asked : List Asked) (told : IsAllTold t h r asked) where
  abbrev shards : ℕ
  shards = length r.shards

  abbrev won : List HitKey
  won = winners_among r.ask.body (tops_in shards asked)

  abbrev fetching : List ShardTop
  fetching = won_tops r.ask.body (tops_in shards asked)

  long : shards ≤ length asked
  long = omega (arith, told.as_many, length-requests_after r asked told.queried)

  first_among : (test : Request → Bool) → ask_for test t h ≡ first_at test 1 (query_requests r ++ map asks.Fetch (fetches_of r.ask (tops_in shards asked)))
  first_among test = told.first test ∙ ap (first_at test 1) (requests_after r asked told.queried)

  -- the ask for the query of a shard
  pub query_asked : (i : ℕ) (at : ShardRead) → slice_get r.shards i ≡ Some at → ask_for (is_query_of (shard_read at)) t h ≡ Some (i + 1)
  query_asked i at e =
      let number : 1 + i ≡ i + 1 = omega arith in
      first_among (is_query_of (shard_read at)) ∙ query_at r 1 r.shards (map asks.Fetch (fetches_of r.ask (tops_in shards asked))) told.apart i at e ∙ ap Some number

  query_told : (i : ℕ) (at : ShardRead) → slice_get r.shards i ≡ Some at → answer_for (is_query_of (shard_read at)) t h ≡ answer_of t (i + 1) h
  query_told i at e = ap (option_and_then (λ k. answer_of t k h)) (query_asked i at e)

  query_there : (i : ℕ) (at : ShardRead) (a : Asked) → slice_get r.shards i ≡ Some at → slice_get asked i ≡ Some a → answer_for (is_query_of (shard_read at)) t h ≡ a.answer
  query_there i at a e f = query_told i at e ∙ told.answers i a f

  fetch_there : (shard : ℕ) → answer_for (is_fetch_of shard) t h ≡ option_and_then (λ a. a.answer) (fetch_at r.ask shards asked shard)
  fetch_there shard =
      ap (option_and_then (λ k. answer_of t k h)) (first_among (is_fetch_of shard) ∙ past_queries r shard 1 r.shards (map asks.Fetch (fetches_of r.ask (tops_in shards asked))))
      ∙ fetched_at t h r.ask won shard (1 + shards) fetching (drop shards asked) as_long rest
    where
      as_long : length fetching ≡ length (drop shards asked)
      as_long = omega (arith, told.as_many, length-requests_after r asked told.queried, length-map fetching (fetch_of r.ask won), length-drop shards asked)

      rest : (i : ℕ) (a : Asked) → slice_get (drop shards asked) i ≡ Some a → answer_of t (1 + shards + i) h ≡ a.answer
      rest i a at = let number : 1 + shards + i ≡ i + shards + 1 = omega arith in ap (λ k. answer_of t k h) number ∙ told.answers (i + shards) a (sym (slice_get-drop shards i asked) ∙ at)

  -- ---- why shards failed

  why_same : (i : ℕ) (at : ShardRead) (a : Asked) → slice_get r.shards i ≡ Some at → slice_get asked i ≡ Some a → why_failed t h (shard_read at) ≡ failure_at r.ask shards asked at a
  why_same i at a e f =
      (λ k. option_or (option_and_then failure_in (query_there i at a e f k)) (option_and_then failure_in (fetch_there (shard_read at) k)))
      ∙ (λ k. option_or (failure_of a) (then_failed (fetch_at r.ask shards asked (shard_read at)) k))

  pub failures_same : failed_shards r t h ≡ failed_in r asked
  failures_same = same_zipped (λ at. failure_told t h (shard_read at)) (λ p. failed_at r.ask shards asked p.0 p.1) r.shards asked long
      (λ i at a e f. ap (option_map (λ failure. record { shard = shard_read at; failure = failure })) (why_same i at a e f))

  -- the answer to what was asked for
  possible_for : (test : Request → Bool) (reply : Reply) → answer_for test t h ≡ Some reply → (q : Request) × (test q ≡ true) × (can_have told.shards q reply ≡ true)
  possible_for test reply e = by_ask (ask_for test t h) refl e
    where
      by_ask : (o : Option ℕ) → ask_for test t h ≡ o → option_and_then (λ k. answer_of t k h) o ≡ Some reply → (q : Request) × (test q ≡ true) × (can_have told.shards q reply ≡ true)
      by_ask None is e = absurd (cc)
      by_ask (Some k) is e =
          let found = first_found test 1 k (requests_of r asked) (sym (told.first test) ∙ is) in
          let low = slice_get_below (requests_of r asked) found.0 found.1 found.3 in
          let at = there asked found.0 (omega (arith, told.as_many, low)) in
          let place = found.2 in
          let number : k ≡ found.0 + 1 = omega (arith, place) in
          let answered = told.possible found.0 at.0 found.1 at.1 found.3 in
          let both : Some answered.0 ≡ Some reply = sym answered.1 ∙ sym (told.answers found.0 at.0 at.1) ∙ ap (λ m. answer_of t m h) (sym number) ∙ e in
          let same : answered.0 ≡ reply = cc in
          (found.1, found.4, ap (can_have told.shards found.1) (sym same) ∙ answered.2)

  fetch_can : (shard : ℕ) (reply : Reply) → answer_for (is_fetch_of shard) t h ≡ Some reply → IsFetchReply reply
  fetch_can shard reply e = let can = possible_for (is_fetch_of shard) reply e in fetch_reply told.shards can.0 shard reply can.1 can.2

  cause_known : (i : ℕ) (at : ShardRead) → slice_get r.shards i ≡ Some at → is_some (why_failed t h (shard_read at)) ≡ shard_failed t h (shard_read at)
  cause_known i at e =
      let low : i < length r.shards = slice_get_below r.shards i at e in
      let here = there asked i (omega (arith, long, low)) in
      let answered = told.possible i here.0 (asks.Query (query_of r at)) here.1 (request_of_query r asked i at e) in
      let given : answer_for (is_query_of (shard_read at)) t h ≡ Some answered.0 = query_there i at here.0 e here.1 ∙ answered.1 in
      let can = possible_for (is_query_of (shard_read at)) answered.0 given in
      let fetched = fetch_why (answer_for (is_fetch_of (shard_read at)) t h) (fetch_can (shard_read at)) in
      (λ k. is_some (option_or (option_and_then failure_in (given k)) (option_and_then failure_in (answer_for (is_fetch_of (shard_read at)) t h))))
      ∙ query_why answered.0 _ _ (query_reply told.shards can.0 (shard_read at) answered.0 can.1 can.2) fetched
      ∙ sym (λ k. not (is_some (option_and_then top_of (given k))) || fetch_failed t h (shard_read at))

  pub failed_told : map (λ (f : FailedShard). f.shard) (failed_shards r t h) ≡ filter (shard_failed t h) (map shard_read r.shards)
  failed_told =
      ap (map (λ (f : FailedShard). f.shard)) (of_shards (failure_told t h) r.shards)
      ∙ failed_of (why_failed t h) (map shard_read r.shards) ∙ same_filter (λ s. is_some (why_failed t h s)) (shard_failed t h) r.shards cause_known

  -- ---- those that answered

  pub counts_same : (writes : ℕ → List Doc) → answered_shards r writes t h ≡ plain_counts writes (record { reading = r; asked = asked })
  counts_same writes = same_zipped (count_found r.ask writes t h) (λ p. option_map (λ top. count_read r.ask writes p.0 top.version) (top_in p.1)) r.shards asked long
      (λ i at a e f. ap (λ o. option_map (λ (top : ShardTop). count_read r.ask writes at top.version) (option_and_then top_of o)) (query_there i at a e f))
