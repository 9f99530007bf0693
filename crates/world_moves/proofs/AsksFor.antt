-- With which ask a task asked for something, and what came of it.
use Rattle.std.proofs.Common.{◌≡◌, ◌≢◌, ◌⊎◌, ◌<◌, ℕ, zero, suc, ◌+◌, Bool, true, false, cond, List, [], ◌∷◌, ◌++◌, length, map, Option, Some, None, refl, sym, ap, ◌∙◌, inl, inr, arith, add-zero}
use Rattle.std.specs.Prelude.{◌==◌, nat_lt, slice_get, option_and_then, zip, if◌then◌else◌}
use Rattle.std.specs.List.{AllByRecursion}
use Rattle.std.specs.Map.{lookup}
use Rattle.std.specs.Option.{option_or}
use Rattle.std.proofs.lemmas.Bool.{eq-eqb, ne_eqb, ltb-true}
use Rattle.task_ids.specs.declared.task_id.TaskId.{TaskId}
use Rattle.task_ids.specs.declared.cluster.Cluster.{Cluster}
use Rattle.task_events.specs.declared.event.Event.{Event}
use Rattle.task_events.specs.declared.event.Event.TheVariants.{Ask, Answered}
use Rattle.task_events.specs.declared.reply.Reply.{Reply}
use Rattle.task_events.specs.declared.reply.ShardTop.{ShardTop}
use Rattle.task_events.specs.declared.reading.ShardRead.{ShardRead}
use Rattle.task_events.specs.declared.request.HitKey.{HitKey}
use Rattle.task_events.specs.declared.request.Request.{Request}
use Rattle.task_events.specs.declared.request.Request.TheVariants.{Query, Fetch}
use Rattle.task_events.specs.declared.request.SearchAsk.{SearchAsk}
use Rattle.task_events.specs.declared.step.Asked.{Asked}
use Rattle.task_events.specs.Asks.{last_ask, answer_of}
use Rattle.task_events.specs.Lawful.{Lawful}
use Rattle.task_events.specs.Readings.{Reading, shard_read}
use Rattle.task_events.specs.Same.{same_task}
use Rattle.task_events.specs.Searches.{query_of, fetch_of}
use Rattle.task_events.specs.Steps.{asked_by, with_answer}
use Rattle.task_laws.proofs.Asks.{ask_facts}
use Rattle.task_laws.proofs.Content.{answer_facts, still_answer}
use Rattle.task_laws.proofs.Same.{same_task_tells}
use Rattle.search_phase.specs.Searching.{AreApart}
use Rattle.search_phase.proofs.Requests.{list_all-slice_get}
use Rattle.search_phase.proofs.Sorting.{by_test}
use Rattle.world_moves.specs.Facts.{requested_by}
use Rattle.task_events.specs.ShardOutcomes.{is_query_of, is_fetch_of, ask_for}
use Rattle.task_ids.proofs.Each.{all_here}
use Rattle.world_moves.proofs.ByPlace.{all_push}
use Rattle.world_moves.proofs.AsksCounted.{requested_counted}

-- ---- the number of the ask is its place among the requests

-- the place of the first such request, where the first of all has this place
abbrev pub first_at : (Request → Bool) → ℕ → List Request → Option ℕ
first_at test n [] = None
first_at test n (r ∷ rs) = if test r then Some n else first_at test (n + 1) rs

first_grown : (test : Request → Bool) (n : ℕ) (rs : List Request) (r : Request) (k : ℕ) → k ≡ n + length rs → first_at test n (rs ++ r ∷ []) ≡ option_or (first_at test n rs) (cond (test r) (Some k) None)
first_grown test n [] r k e = let same : n ≡ k = omega arith in ap (λ m. cond (test r) (Some m) None) same
first_grown test n (x ∷ rs) r k e = by_test (test x) (λ yes. rw yes refl) (λ no. rw no (first_grown test (n + 1) rs r k (omega arith)))

or_none : {X : Type 0} (o : Option X) → option_or o None ≡ o
or_none None = refl
or_none (Some x) = refl

module _ (cluster : Cluster) (test : Request → Bool) (t : TaskId) where
  pub asks_first : (h : List Event) → Lawful cluster h → ask_for test t h ≡ first_at test 1 (requested_by t h)
  asks_first [] l = refl
  asks_first (Ask p k n r ∷ h) l = by_case (same_task_tells t p) (asks_first h l.1)
    where
      by_case : ((same_task t p ≡ true) × (t ≡ p)) ⊎ ((same_task t p ≡ false) × (t ≢ p)) → ask_for test t h ≡ first_at test 1 (requested_by t h) → ask_for test t (Ask p k n r ∷ h) ≡ first_at test 1 (requested_by t (Ask p k n r ∷ h))
      by_case (inl (is_one, same)) before =
          let last : last_ask t h ≡ last_ask p h = ap (λ u. last_ask u h) same in
          let number : k ≡ 1 + length (requested_by t h) = omega (arith, requested_counted cluster t h l.1, l.0.next, last) in
          rw is_one (ap (λ o. option_or o (cond (test r) (Some k) None)) before ∙ sym (first_grown test 1 (requested_by t h) r k number))
      by_case (inr (differs, apart)) before = rw differs (or_none (ask_for test t h) ∙ before)
  asks_first (_ ∷ h) l = asks_first h l.1

-- what was found is there
pub first_found : (test : Request → Bool) (n k : ℕ) (rs : List Request) → first_at test n rs ≡ Some k → (i : ℕ) × (r : Request) × (k ≡ n + i) × (slice_get rs i ≡ Some r) × (test r ≡ true)
first_found test n k [] e = absurd (cc)
first_found test n k (r ∷ rs) e =
    by_test (test r)
    (λ yes. let here : Some n ≡ Some k = rw yes at e in let same : n ≡ k = cc in (0, r, omega arith, refl, yes))
    (λ no. let later = first_found test (n + 1) k rs (rw no at e) in (suc later.0, later.1, (let place = later.2 in omega (arith, place)), later.3, later.4))

-- ---- among the requests of a search or of a page

-- the query of a shard is asked for by the ask of its place
pub query_at : (r : Reading) (b : ℕ) (reads : List ShardRead) (more : List Request) → AreApart reads → (place : ℕ) (at : ShardRead) → slice_get reads place ≡ Some at
    → first_at (is_query_of (shard_read at)) b (map (λ s. Query (query_of r s)) reads ++ more) ≡ Some (b + place)
query_at r b [] more apart place at e = absurd (cc)
query_at r b (x ∷ reads) more apart zero at e =
    let same : x ≡ at = cc in
    let yes : (shard_read at == shard_read x) ≡ true = eq-eqb (shard_read at) (shard_read x) (ap shard_read (sym same)) in
    rw yes (let here : b ≡ b + zero = omega arith in ap Some here)
query_at r b (x ∷ reads) more apart (suc place) at e =
    let below : shard_read x < shard_read at = ltb-true (shard_read x) (shard_read at) (list_all-slice_get (λ s. nat_lt (shard_read x) (shard_read s)) reads place at apart.0 e) in
    let other : (shard_read at == shard_read x) ≡ false = ne_eqb (shard_read at) (shard_read x) (λ same. omega (arith, same)) in
    let next : b + 1 + place ≡ b + suc place = omega arith in
    rw other (query_at r (b + 1) reads more apart.1 place at e ∙ ap Some next)

-- a fetch comes after all queries
pub past_queries : (r : Reading) (shard m : ℕ) (reads : List ShardRead) (more : List Request) → first_at (is_fetch_of shard) m (map (λ s. Query (query_of r s)) reads ++ more) ≡ first_at (is_fetch_of shard) (m + length reads) more
past_queries r shard m [] more = ap (λ k. first_at (is_fetch_of shard) k more) (sym (add-zero m))
past_queries r shard m (x ∷ reads) more =
    let next : m + 1 + length reads ≡ m + suc (length reads) = omega arith in
    past_queries r shard (m + 1) reads more ∙ ap (λ k. first_at (is_fetch_of shard) k more) next

module _ (t : TaskId) (h : List Event) (ask : SearchAsk) (won : List HitKey) (shard : ℕ) where
  pub fetched_at : (m : ℕ) (tops : List ShardTop) (later : List Asked) → length tops ≡ length later → ((i : ℕ) (a : Asked) → slice_get later i ≡ Some a → answer_of t (m + i) h ≡ a.answer)
      → option_and_then (λ k. answer_of t k h) (first_at (is_fetch_of shard) m (map Fetch (map (fetch_of ask won) tops))) ≡ option_and_then (λ a. a.answer) (lookup (λ other. shard == other) (zip (map (λ top. top.shard) tops) later))
  fetched_at m [] later e told = refl
  fetched_at m (top ∷ tops) [] e told = absurd (omega arith)
  fetched_at m (top ∷ tops) (a ∷ later) e told =
      by_test (shard == top.shard)
      (λ yes. let here : m ≡ m + 0 = omega arith in rw yes (ap (λ k. answer_of t k h) here ∙ told 0 a refl))
      (λ no. rw no (fetched_at (m + 1) tops later (omega arith) (λ i b at. let next : m + 1 + i ≡ m + suc i = omega arith in ap (λ k. answer_of t k h) next ∙ told (suc i) b at)))

-- ---- the answers that a task has are those of its asks

abbrev IsTold : TaskId → List Event → Asked → Type 0
IsTold t h a = (r : Reply) → a.answer ≡ Some r → answer_of t a.ask h ≡ Some r

each_weaker : {X : Type 0} (P Q : X → Type 0) → ((x : X) → P x → Q x) → (xs : List X) → AllByRecursion P xs → AllByRecursion Q xs
each_weaker P Q g [] a = tt
each_weaker P Q g (x ∷ xs) a = (g x a.0, each_weaker P Q g xs a.1)

module _ (t : TaskId) (h : List Event) (k : ℕ) (answer : Option Reply) (given : (r : Reply) → answer ≡ Some r → answer_of t k h ≡ Some r) where
  either_told : (b : Bool) (a : Asked) → IsTold t h a → IsTold t h (cond b (record { ask = k; answer = answer }) a)
  either_told true a told = given
  either_told false a told = told

  each_answered : (xs : List Asked) → AllByRecursion (IsTold t h) xs → AllByRecursion (IsTold t h) (map (with_answer k answer) xs)
  each_answered [] a = tt
  each_answered (x ∷ xs) a = (either_told (k == x.ask) x a.0, each_answered xs a.1)

module _ (cluster : Cluster) (t : TaskId) where
  still_told : (e : Event) (h : List Event) → Lawful cluster (e ∷ h) → (xs : List Asked) → AllByRecursion (IsTold t h) xs → AllByRecursion (IsTold t (e ∷ h)) xs
  still_told e h l xs told =
      each_weaker (IsTold t h) (IsTold t (e ∷ h)) (λ a was r answered. still_answer cluster e h l.0 (ask_facts cluster h l.1) (answer_facts cluster h l.1) t a.ask r (was r answered)) xs told

  -- the asks after one more event
  told_after : (e : Event) (h : List Event) → AllByRecursion (IsTold t (e ∷ h)) (asked_by t h) → AllByRecursion (IsTold t (e ∷ h)) (asked_by t (e ∷ h))
  told_after (Ask p k n r) h told = by_task (same_task t p)
    where
      by_task : (b : Bool) → AllByRecursion (IsTold t (Ask p k n r ∷ h)) (cond b (asked_by t h ++ record { ask = k; answer = None } ∷ []) (asked_by t h))
      by_task true = all_push (IsTold t (Ask p k n r ∷ h)) (asked_by t h) (record { ask = k; answer = None }) told (λ reply none. absurd (cc))
      by_task false = told
  told_after (Answered p k) h told = by_task (same_task_tells t p)
    where
      by_task : ((same_task t p ≡ true) × (t ≡ p)) ⊎ ((same_task t p ≡ false) × (t ≢ p)) → AllByRecursion (IsTold t (Answered p k ∷ h)) (asked_by t (Answered p k ∷ h))
      by_task (inl (is_one, same)) = rw is_one (each_answered t (Answered p k ∷ h) k (answer_of p k h) (λ r e. ap (λ u. answer_of u k h) same ∙ e) (asked_by t h) told)
      by_task (inr (differs, apart)) = rw differs told
  told_after _ h told = told

  all_told : (h : List Event) → Lawful cluster h → AllByRecursion (IsTold t h) (asked_by t h)
  all_told [] l = tt
  all_told (e ∷ h) l = told_after e h (still_told e h l (asked_by t h) (all_told h l.1))

  pub answer_told : (h : List Event) → Lawful cluster h → (i : ℕ) (a : Asked) (r : Reply) → slice_get (asked_by t h) i ≡ Some a → a.answer ≡ Some r → answer_of t a.ask h ≡ Some r
  answer_told h l i a r at answered = all_here (IsTold t h) (asked_by t h) i a (all_told h l) at r answered
