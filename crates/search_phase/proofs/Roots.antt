-- A search's requests and answers, by the fields of its root.
use Rattle.std.specs.Prelude.{◌≡◌, ℕ, zero, suc, min, ◌+◌, ◌-◌, ◌*◌, ◌<◌, ◌≤◌, ◌==◌, List, [], ◌∷◌, ◌++◌, Bool, true, false, not, ◌&&◌, nat_lt, cond, Option, Some, None, is_some, option_map, option_and_then, map, filter, filter_map, find, zip, take, length, position, slice_get, slice_set, refl}
use Rattle.std.proofs.Common.{sym, ◌∙◌, ap, subst, arith}
use Rattle.std.proofs.lemmas.Bool.{lt-ltb, le-ltb, ltb-true, ltb-false, eqb-true, eq-eqb, ne_eqb}
use Rattle.std.proofs.lemmas.List.{length-map, length-take}
use Rattle.std.proofs.lemmas.Option.{slice_get_past}
use Rattle.std.specs.List.{position_or_len, cons_option, list_all}
use Rattle.std.specs.Map.{lookup}
use Rattle.std.specs.Option.{option_map_or}
use Rattle.task_events.specs.declared.reading.ShardRead.{ShardRead}
use Rattle.task_events.specs.declared.request.FetchAsk.{FetchAsk}
use Rattle.task_events.specs.declared.request.Request.{Request}
use Rattle.task_events.specs.declared.request.Request.TheVariants.{Fetch}
use Rattle.task_events.specs.declared.reply.ShardTop.{ShardTop}
use Rattle.task_events.specs.declared.reply.Reply.{Reply}
use Rattle.task_events.specs.declared.step.Asked.{Asked}
use Rattle.task_events.specs.Kinds.{can_have}
use Rattle.task_events.specs.Searches.{top_of, tops_in, won_tops, winners_among, has_winner, fetch_of, fetches_of, has_queried, requests_of}
use Rattle.search_phase.specs.declared.fetching.Fetching.{Fetching}
use Rattle.search_phase.specs.Searching.{Searching, AreRising, next_request, next_step, wants_to_ask, is_above, with_ask, is_open, awaited, takes, answered_by, with_answer}
use Rattle.search_phase.specs.FetchPhase.{fetching_of, fetching_in, request_by, fetch_by}
use Rattle.search_phase.specs.Roots.{IsRoot}
use Rattle.search_phase.proofs.Rows.{few_filter}
use Rattle.search_phase.proofs.Sorting.{by_test}
use Rattle.search_phase.proofs.Requests.{list_all-slice_get, slice_get_none, query_requests, requests_after, request_of_query, slice_get-append_right, length-query_requests, length-requests_after, length-requests_before, slice_get_below}
use Rattle.search_phase.proofs.Asks.{IsSearching-ask, asks_by, has_queried-ask, tops_in-ask}
use Rattle.search_phase.proofs.Answered.{IsAwaited, awaited_at, taken, IsSearching-answer, still_queried, tops_stay, untouched_above}

-- ---- the request at a place

slice_get-map_all : {X Y : Type 0} (f : X → Y) (xs : List X) (i : ℕ) → slice_get (map f xs) i ≡ option_map f (slice_get xs i)
slice_get-map_all f [] i = refl
slice_get-map_all f (x ∷ xs) zero = refl
slice_get-map_all f (x ∷ xs) (suc i) = slice_get-map_all f xs i

module _ (s : Searching) where
  past_queries : (place : ℕ) → length s.reading.shards ≤ place → slice_get (requests_of s.reading s.asked) place ≡ fetch_by (fetching_in s.reading.ask (length s.reading.shards) s.asked) (place - length s.reading.shards)
  past_queries place h =
      let back : place - length s.reading.shards + length s.reading.shards ≡ place = omega arith in
      let fetches : List FetchAsk = fetches_of s.reading.ask (tops_in (length s.reading.shards) s.asked) in
      by_test (has_queried (length s.reading.shards) s.asked)
      (λ q. ap (λ l. slice_get l place) (requests_after s.reading s.asked q)
      ∙ ap (slice_get (query_requests s.reading ++ map Fetch fetches)) (sym back)
      ∙ slice_get-append_right (place - length s.reading.shards) (length s.reading.shards) (query_requests s.reading) (map Fetch fetches) (length-query_requests s.reading)
      ∙ slice_get-map_all Fetch fetches (place - length s.reading.shards)
      ∙ ap (λ b. fetch_by (cond b (Some (fetching_of s.reading.ask (tops_in (length s.reading.shards) s.asked))) None) (place - length s.reading.shards)) (sym q))
      (λ waiting. slice_get_past (requests_of s.reading s.asked) place (omega (arith, length-requests_before s.reading s.asked waiting))
      ∙ ap (λ b. fetch_by (cond b (Some (fetching_of s.reading.ask (tops_in (length s.reading.shards) s.asked))) None) (place - length s.reading.shards)) (sym waiting))

  pub request_at_place : (fetching : Option Fetching) (capacity : ℕ) → IsRoot s fetching capacity → (place : ℕ) → slice_get (requests_of s.reading s.asked) place ≡ request_by s.reading fetching place
  request_at_place fetching capacity h place =
      of_shard (slice_get s.reading.shards place) refl
    where
      of_shard : (o : Option ShardRead) → slice_get s.reading.shards place ≡ o → slice_get (requests_of s.reading s.asked) place ≡ request_by s.reading fetching place
      of_shard (Some at) e = request_of_query s.reading s.asked place at e ∙ sym (rw e refl)
      of_shard None e =
          past_queries place (slice_get_none s.reading.shards place e) ∙ ap (λ o. fetch_by o (place - length s.reading.shards)) (sym h.fetching_is) ∙ sym (rw e refl)

-- ---- whether an answer is taken

-- the first place at which a test passes
abbrev pub first_at : {X : Type 0} → (X → Bool) → List X → Option ℕ
first_at p [] = None
first_at p (x ∷ xs) = cond (p x) (Some zero) (option_map suc (first_at p xs))

pub position-first_at : {X : Type 0} (p : X → Bool) (xs : List X) → position p xs ≡ first_at p xs
position-first_at p [] = refl
position-first_at p (x ∷ xs) =
    by_test (p x)
    (λ yes. let below : nat_lt 0 (suc (length xs)) ≡ true = lt-ltb 0 (suc (length xs)) (omega arith) in rw (yes, below) refl)
    (λ other.
    let n : ℕ = position_or_len p xs in
    let rest : position p xs ≡ first_at p xs = position-first_at p xs in
    let one : 1 + n ≡ suc n = omega arith in
    rw (other, one, ← rest) (of_test n (nat_lt n (length xs)) refl))
  where
    of_test : (n : ℕ) (b : Bool) → nat_lt n (length xs) ≡ b → cond (nat_lt (suc n) (suc (length xs))) (Some (suc n)) None ≡ option_map suc (cond (nat_lt n (length xs)) (Some n) None)
    of_test n true e = let l : nat_lt (suc n) (suc (length xs)) ≡ true = lt-ltb (suc n) (suc (length xs)) (let k : n < length xs = ltb-true n (length xs) e in omega arith) in rw (l, e) refl
    of_test n false e = let l : nat_lt (suc n) (suc (length xs)) ≡ false = le-ltb (suc n) (suc (length xs)) (let k : length xs ≤ n = ltb-false n (length xs) e in omega arith) in rw (l, e) refl

abbrev at_first : {X : Type 0} → Option ℕ → List X → Option X
at_first None xs = None
at_first (Some i) xs = slice_get xs i

at_first-later : {X : Type 0} (o : Option ℕ) (x : X) (xs : List X) → at_first (option_map suc o) (x ∷ xs) ≡ at_first o xs
at_first-later None x xs = refl
at_first-later (Some i) x xs = refl

at_first-none : {X : Type 0} (o : Option ℕ) → at_first {X = X} o [] ≡ None
at_first-none None = refl
at_first-none (Some i) = refl

find-zip : {X Y : Type 0} (p : X → Bool) (xs : List X) (ys : List Y) → option_map (λ q. q.1) (find (λ (q : X × Y). p q.0) (zip xs ys)) ≡ at_first (first_at p xs) ys
find-zip p [] ys = refl
find-zip p (x ∷ xs) [] = sym (at_first-none (first_at p (x ∷ xs)))
find-zip p (x ∷ xs) (y ∷ ys) =
    by_test (p x)
    (λ yes. rw yes refl)
    (λ other. rw other (find-zip p xs ys ∙ sym (at_first-later (first_at p xs) y ys)))

lookup-zip : {X K Y : Type 0} (test : K → Bool) (k : X → K) (xs : List X) (ys : List Y) → lookup test (zip (map k xs) ys) ≡ at_first (first_at (λ x. test (k x)) xs) ys
lookup-zip test k [] ys = refl
lookup-zip test k (x ∷ xs) [] = sym (at_first-none (first_at (λ x. test (k x)) (x ∷ xs)))
lookup-zip test k (x ∷ xs) (y ∷ ys) =
    by_test (test (k x))
    (λ yes. rw yes refl)
    (λ other. rw other (lookup-zip test k xs ys ∙ sym (at_first-later (first_at (λ x. test (k x)) xs) y ys)))

pub lookup-zip_at : {X K Y : Type 0} (test : K → Bool) (k : X → K) (xs : List X) (ys : List Y) (place : ℕ) → position (λ x. test (k x)) xs ≡ Some place → lookup test (zip (map k xs) ys) ≡ slice_get ys place
lookup-zip_at test k xs ys place e = lookup-zip test k xs ys ∙ ap (λ o. at_first o ys) (sym (position-first_at (λ x. test (k x)) xs) ∙ e)

pub lookup-zip_none : {X K Y : Type 0} (test : K → Bool) (k : X → K) (xs : List X) (ys : List Y) → position (λ x. test (k x)) xs ≡ None → lookup test (zip (map k xs) ys) ≡ None
lookup-zip_none test k xs ys e = lookup-zip test k xs ys ∙ ap (λ o. at_first o ys) (sym (position-first_at (λ x. test (k x)) xs) ∙ e)

pub found_open : {X : Type 0} (p : X → Bool) (xs : List X) (place : ℕ) → first_at p xs ≡ Some place → (x : X) × (slice_get xs place ≡ Some x) × (p x ≡ true)
found_open p [] place e = absurd cc
found_open {X = X} p (x ∷ xs) place e =
    by_test (p x)
    (λ yes. let f : Some zero ≡ Some place = rw yes at e in let g : place ≡ zero = cc in rw g (x, refl, yes))
    (λ other. of_rest (first_at p xs) refl (rw other at e) (λ i f. found_open p xs i f))
  where
    of_rest : (o : Option ℕ) → first_at p xs ≡ o → option_map suc (first_at p xs) ≡ Some place → ((i : ℕ) → first_at p xs ≡ Some i → (y : X) × (slice_get xs i ≡ Some y) × (p y ≡ true)) → (y : X) × (slice_get (x ∷ xs) place ≡ Some y) × (p y ≡ true)
    of_rest None e f rest = absurd (let g : None ≡ Some place = ap (option_map suc) (sym e) ∙ f in cc)
    of_rest (Some i) e f rest =
        let g : Some (suc i) ≡ Some place = ap (option_map suc) (sym e) ∙ f in
        let is : place ≡ suc i = cc in
        rw is (rest i e)

-- an ask without an answer awaits what is asked for at its place
pub awaits_none : (s : Searching) (ask : ℕ) → position (is_open ask) s.asked ≡ None → awaited s ask ≡ None
awaits_none s ask e = find-zip (is_open ask) s.asked (requests_of s.reading s.asked) ∙ ap (λ o. at_first o (requests_of s.reading s.asked)) (sym (position-first_at (is_open ask) s.asked) ∙ e)

pub awaits_at : (s : Searching) (fetching : Option Fetching) (capacity : ℕ) → IsRoot s fetching capacity → (ask place : ℕ) → position (is_open ask) s.asked ≡ Some place → awaited s ask ≡ request_by s.reading fetching place
awaits_at s fetching capacity h ask place e =
    find-zip (is_open ask) s.asked (requests_of s.reading s.asked)
    ∙ ap (λ o. at_first o (requests_of s.reading s.asked)) (sym (position-first_at (is_open ask) s.asked) ∙ e)
    ∙ request_at_place s fetching capacity h place

pub takes_none : (s : Searching) (ask : ℕ) (reply : Reply) → position (is_open ask) s.asked ≡ None → takes s ask reply ≡ false
takes_none s ask reply e = ap (λ o. option_map_or (λ request. can_have (length s.reading.shards) request reply) o false) (awaits_none s ask e)

pub takes_at : (s : Searching) (fetching : Option Fetching) (capacity : ℕ) → IsRoot s fetching capacity → (ask : ℕ) (reply : Reply) (place : ℕ) → position (is_open ask) s.asked ≡ Some place
    → takes s ask reply ≡ option_map_or (λ request. can_have (length s.reading.shards) request reply) (request_by s.reading fetching place) false
takes_at s fetching capacity h ask reply place e =
    ap (λ o. option_map_or (λ request. can_have (length s.reading.shards) request reply) o false) (awaits_at s fetching capacity h ask place e)

-- ---- what stays

-- a search has at most two asks for each shard
pub length-filter_map : {X Y : Type 0} (h : X → Option Y) (xs : List X) → length (filter_map h xs) ≤ length xs
length-filter_map h [] = omega arith
length-filter_map {X} {Y} h (x ∷ xs) = of_option (h x) (length-filter_map h xs)
  where
    of_option : (o : Option Y) → length (filter_map h xs) ≤ length xs → length (cons_option o (filter_map h xs)) ≤ suc (length xs)
    of_option None rest = omega arith
    of_option (Some y) rest = omega arith

pub few_tops : (shards : ℕ) (asked : List Asked) → length (tops_in shards asked) ≤ shards
few_tops shards asked =
    let h : length (tops_in shards asked) ≤ length (take shards asked) = length-filter_map (λ (a : Asked). option_and_then top_of a.answer) (take shards asked) in
    let l : length (take shards asked) ≡ min shards (length asked) = length-take shards asked in
    omega arith

few_requests : (s : Searching) → length (requests_of s.reading s.asked) ≤ 2 * length s.reading.shards
few_requests s =
    by_test (has_queried (length s.reading.shards) s.asked)
    (λ q.
    let tops : List ShardTop = tops_in (length s.reading.shards) s.asked in
    let all : length (requests_of s.reading s.asked) ≡ length s.reading.shards + length (fetches_of s.reading.ask tops) = length-requests_after s.reading s.asked q in
    let each : length (fetches_of s.reading.ask tops) ≡ length (won_tops s.reading.ask.body tops) = length-map (won_tops s.reading.ask.body tops) (fetch_of s.reading.ask (winners_among s.reading.ask.body tops)) in
    let won : length (won_tops s.reading.ask.body tops) ≤ length tops = few_filter (has_winner (winners_among s.reading.ask.body tops)) tops in
    let few : length tops ≤ length s.reading.shards = few_tops (length s.reading.shards) s.asked in
    omega arith)
    (λ waiting. let few : length (requests_of s.reading s.asked) ≡ length s.reading.shards = length-requests_before s.reading s.asked waiting in omega arith)

module _ (s : Searching) (fetching : Option Fetching) (capacity : ℕ) (h : IsRoot s fetching capacity) where
  -- there is room for the ask that comes next
  pub room_for_ask : wants_to_ask (next_step s) ≡ true → length s.asked < capacity
  room_for_ask plans =
      let some : (request : Request) × (next_request s ≡ Some request) = asks_by _ _ _ plans in
      let below : length s.asked < length (requests_of s.reading s.asked) = slice_get_below (requests_of s.reading s.asked) (length s.asked) some.0 some.1 in
      let few : length (requests_of s.reading s.asked) ≤ 2 * length s.reading.shards = few_requests s in
      let room : 2 * length s.reading.shards ≤ capacity = h.room in
      omega arith

  pub IsRoot-ask : (number more : ℕ) → wants_to_ask (next_step s) ≡ true → is_above number s.asked ≡ true → capacity ≤ more → IsRoot (with_ask s number) fetching more
  IsRoot-ask number more plans above grown =
      let same : fetching_in s.reading.ask (length s.reading.shards) (with_ask s number).asked ≡ fetching_in s.reading.ask (length s.reading.shards) s.asked =
      by_test (has_queried (length s.reading.shards) s.asked)
      (λ q. rw (has_queried-ask s.asked number (length s.reading.shards), q) (ap (λ (l : List ShardTop). Some (fetching_of s.reading.ask l)) (tops_in-ask s.asked number (length s.reading.shards) q)))
      (λ waiting. rw (has_queried-ask s.asked number (length s.reading.shards), waiting) refl) in
      let room : 2 * length s.reading.shards ≤ capacity = h.room in
      record { search = IsSearching-ask s number h.search plans above; fetching_is = h.fetching_is ∙ sym same; room = omega arith }

  -- once it is known, the fetch phase stays
  fetching_stays : (ask place : ℕ) (reply : Reply) (request : Request) (a : Asked) → IsAwaited s ask request place a → has_queried (length s.reading.shards) s.asked ≡ true
      → fetching_in s.reading.ask (length s.reading.shards) (with_answer s ask reply).asked ≡ fetching_in s.reading.ask (length s.reading.shards) s.asked
  fetching_stays ask place reply request a here q =
      rw (still_queried s ask reply request place a h.search here q, q) (ap (λ (l : List ShardTop). Some (fetching_of s.reading.ask l)) (tops_stay s ask reply request place a h.search here q))

  pub IsRoot-answer : (ask : ℕ) (reply : Reply) (later : Option Fetching) (more : ℕ) → takes s ask reply ≡ true
      → later ≡ fetching_in s.reading.ask (length s.reading.shards) (with_answer s ask reply).asked → capacity ≤ more → IsRoot (with_answer s ask reply) later more
  IsRoot-answer ask reply later more t is grown = of_taken (taken s ask reply t)
    where
      of_taken : (request : Request) × (awaited s ask ≡ Some request) × (can_have (length s.reading.shards) request reply ≡ true) → IsRoot (with_answer s ask reply) later more
      of_taken (request, waits, can) =
          let at : (place : ℕ) × (a : Asked) × IsAwaited s ask request place a = awaited_at s ask request waits in
          let room : 2 * length s.reading.shards ≤ capacity = h.room in
          record { search = IsSearching-answer s ask reply request at.0 at.1 h.search at.2 can; fetching_is = is; room = omega arith }

  -- an answer to a fetch leaves what the fetches ask for
  pub fetching_kept : (ask : ℕ) (reply : Reply) → takes s ask reply ≡ true → is_some fetching ≡ true → fetching ≡ fetching_in s.reading.ask (length s.reading.shards) (with_answer s ask reply).asked
  fetching_kept ask reply t known = of_taken (taken s ask reply t)
    where
      queried : has_queried (length s.reading.shards) s.asked ≡ true
      queried = by_test (has_queried (length s.reading.shards) s.asked) (λ q. q)
          (λ waiting. absurd (let f : is_some fetching ≡ false = ap is_some h.fetching_is ∙ rw waiting refl in let g : false ≡ true = sym f ∙ known in cc))

      of_taken : (request : Request) × (awaited s ask ≡ Some request) × (can_have (length s.reading.shards) request reply ≡ true) → fetching ≡ fetching_in s.reading.ask (length s.reading.shards) (with_answer s ask reply).asked
      of_taken (request, waits, can) =
          let at : (place : ℕ) × (a : Asked) × IsAwaited s ask request place a = awaited_at s ask request waits in
          h.fetching_is ∙ sym (fetching_stays ask at.0 reply request at.1 at.2 queried)

-- ---- the place of an answer

-- the ask of a number gets its answer at its place
pub answer_at_place : (ask : ℕ) (reply : Reply) (asked : List Asked) (place : ℕ) (a : Asked) → AreRising asked → slice_get asked place ≡ Some a → a.ask ≡ ask
    → map (answered_by ask reply) asked ≡ slice_set asked place (record { ask = ask; answer = Some reply })
answer_at_place ask reply [] place a h at e = absurd cc
answer_at_place ask reply (b ∷ asked) zero a h at e =
    let is : b ≡ a = cc in
    let number : b.ask ≡ ask = ap (λ (c : Asked). c.ask) is ∙ e in
    let P : ℕ → Type 0 = λ n. list_all (λ (c : Asked). nat_lt n c.ask) asked ≡ true in
    let here : answered_by ask reply b ≡ record { ask = ask; answer = Some reply } = rw (eq-eqb b.ask ask number) (λ i. record { ask = number i; answer = Some reply }) in
    let later : map (answered_by ask reply) asked ≡ asked = untouched_above ask reply asked (subst P number h.0) in
    λ i. here i ∷ later i
answer_at_place ask reply (b ∷ asked) (suc place) a h at e =
    let lower : b.ask < a.ask = ltb-true b.ask a.ask (list_all-slice_get (λ (c : Asked). nat_lt b.ask c.ask) asked place a h.0 at) in
    let other : (b.ask == ask) ≡ false = ne_eqb b.ask ask (λ f. omega arith) in
    let later : map (answered_by ask reply) asked ≡ slice_set asked place (record { ask = ask; answer = Some reply }) = answer_at_place ask reply asked place a h.1 at e in
    rw (other, later) refl

pub takes_place : (s : Searching) (ask : ℕ) (reply : Reply) → takes s ask reply ≡ true → (place : ℕ) × (a : Asked) × (position (is_open ask) s.asked ≡ Some place) × (slice_get s.asked place ≡ Some a) × (a.ask ≡ ask) × (a.answer ≡ None)
takes_place s ask reply t = of_position (position (is_open ask) s.asked) refl
  where
    no_answer : (o : Option Reply) → not (is_some o) ≡ true → o ≡ None
    no_answer None e = refl
    no_answer (Some r) e = absurd cc

    both : (b c : Bool) → (b && c) ≡ true → (b ≡ true) × (c ≡ true)
    both true c e = (refl, e)
    both false c e = absurd cc

    of_position : (o : Option ℕ) → position (is_open ask) s.asked ≡ o → (place : ℕ) × (a : Asked) × (position (is_open ask) s.asked ≡ Some place) × (slice_get s.asked place ≡ Some a) × (a.ask ≡ ask) × (a.answer ≡ None)
    of_position None e = absurd (let f : false ≡ true = sym (takes_none s ask reply e) ∙ t in cc)
    of_position (Some place) e =
        let found : (a : Asked) × (slice_get s.asked place ≡ Some a) × (is_open ask a ≡ true) = found_open (is_open ask) s.asked place (sym (position-first_at (is_open ask) s.asked) ∙ e) in
        let parts : ((found.0.ask == ask) ≡ true) × (not (is_some found.0.answer) ≡ true) = both (found.0.ask == ask) (not (is_some found.0.answer)) found.2 in
        (place, found.0, e, found.1, eqb-true found.0.ask ask parts.0, no_answer found.0.answer parts.1)
