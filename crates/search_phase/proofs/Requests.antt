-- What a search asks for, place by place.
use Rattle.std.specs.Prelude.{◌≡◌, ℕ, zero, suc, ◌+◌, ◌<◌, ◌≤◌, List, [], ◌∷◌, ◌++◌, Bool, true, false, nat_le, cond, Option, Some, None, is_some, map, take, length, slice_get, refl}
use Rattle.std.proofs.Common.{sym, ◌∙◌, ap, arith, add-zero, add-suc}
use Rattle.std.proofs.lemmas.Bool.{le-leb}
use Rattle.std.proofs.lemmas.List.{length-append, length-map}
use Rattle.std.specs.List.{list_all}
use Rattle.task_events.specs.declared.reading.ShardRead.{ShardRead}
use Rattle.task_events.specs.declared.request.FetchAsk.{FetchAsk}
use Rattle.task_events.specs.declared.request.Request.{Request}
use Rattle.task_events.specs.declared.request.Request.TheVariants.{Query, Fetch}
use Rattle.task_events.specs.declared.reply.Reply.{Reply}
use Rattle.task_events.specs.declared.step.Asked.{Asked}
use Rattle.task_events.specs.Readings.{Reading}
use Rattle.task_events.specs.Searches.{query_of, tops_in, fetches_of, are_answered, has_queried, requests_of}
use Rattle.task_events.specs.SearchTask.{ask_or_end}
use Rattle.search_phase.specs.Searching.{Searching, has_ended, next_step}
use Rattle.search_phase.proofs.Sorting.{by_test}
use Rattle.search_phase.proofs.Lookups.{list_all-take}

-- ---- places

pub slice_get-append_left : {X : Type 0} (i : ℕ) (xs ys : List X) → i < length xs → slice_get (xs ++ ys) i ≡ slice_get xs i
slice_get-append_left i [] ys h = absurd (omega arith)
slice_get-append_left zero (x ∷ xs) ys h = refl
slice_get-append_left (suc i) (x ∷ xs) ys h = slice_get-append_left i xs ys (omega arith)

pub slice_get-append_right : {X : Type 0} (i n : ℕ) (xs ys : List X) → length xs ≡ n → slice_get (xs ++ ys) (i + n) ≡ slice_get ys i
slice_get-append_right i n [] ys e = let f : n ≡ zero = omega arith in rw (f, add-zero i) refl
slice_get-append_right i zero (x ∷ xs) ys e = absurd (omega arith)
slice_get-append_right i (suc n) (x ∷ xs) ys e = rw (add-suc i n) (slice_get-append_right i n xs ys (omega arith))

pub slice_get-map : {X Y : Type 0} (f : X → Y) (i : ℕ) (xs : List X) (x : X) → slice_get xs i ≡ Some x → slice_get (map f xs) i ≡ Some (f x)
slice_get-map f i [] x e = absurd cc
slice_get-map f zero (y ∷ ys) x e = let g : y ≡ x = cc in ap (λ z. Some (f z)) g
slice_get-map f (suc i) (y ∷ ys) x e = slice_get-map f i ys x e

pub slice_get_none : {X : Type 0} (xs : List X) (i : ℕ) → slice_get xs i ≡ None → length xs ≤ i
slice_get_none [] i e = omega arith
slice_get_none (x ∷ xs) zero e = absurd cc
slice_get_none (x ∷ xs) (suc i) e = let h : length xs ≤ i = slice_get_none xs i e in omega arith

pub slice_get_below : {X : Type 0} (xs : List X) (i : ℕ) (x : X) → slice_get xs i ≡ Some x → i < length xs
slice_get_below [] i x e = absurd cc
slice_get_below (y ∷ ys) zero x e = omega arith
slice_get_below (y ∷ ys) (suc i) x e = let h : i < length ys = slice_get_below ys i x e in omega arith

pub list_all-slice_get : {X : Type 0} (p : X → Bool) (xs : List X) (i : ℕ) (x : X) → list_all p xs ≡ true → slice_get xs i ≡ Some x → p x ≡ true
list_all-slice_get p [] i x h e = absurd cc
list_all-slice_get p (y ∷ ys) zero x h e = let g : y ≡ x = cc in sym (ap p g) ∙ by_test (p y) (λ yes. yes) (λ other. absurd (let f : false ≡ true = rw other at h in cc))
list_all-slice_get p (y ∷ ys) (suc i) x h e = by_test (p y) (λ yes. list_all-slice_get p ys i x (rw yes at h) e) (λ other. absurd (let f : false ≡ true = rw other at h in cc))

-- ---- the requests

abbrev pub query_requests : Reading → List Request
query_requests r = map (λ at. Query (query_of r at)) r.shards

pub length-query_requests : (r : Reading) → length (query_requests r) ≡ length r.shards
length-query_requests r = length-map r.shards (λ at. Query (query_of r at))

-- below the number of shards a request is a query
pub request_below : (r : Reading) (asked : List Asked) (i : ℕ) → i < length r.shards → slice_get (requests_of r asked) i ≡ slice_get (query_requests r) i
request_below r asked i h =
    let later : List Request = cond (has_queried (length r.shards) asked) (map Fetch (fetches_of r.ask (tops_in (length r.shards) asked))) [] in
    slice_get-append_left i (query_requests r) later (omega (arith, length-query_requests r))

pub request_of_query : (r : Reading) (asked : List Asked) (i : ℕ) (at : ShardRead) → slice_get r.shards i ≡ Some at → slice_get (requests_of r asked) i ≡ Some (Query (query_of r at))
request_of_query r asked i at e =
    request_below r asked i (slice_get_below r.shards i at e) ∙ slice_get-map (λ (at : ShardRead). Query (query_of r at)) i r.shards at e

module _ (r : Reading) (asked : List Asked) where
  pub requests_after : has_queried (length r.shards) asked ≡ true → requests_of r asked ≡ query_requests r ++ map Fetch (fetches_of r.ask (tops_in (length r.shards) asked))
  requests_after h = rw h refl

  pub requests_before : has_queried (length r.shards) asked ≡ false → requests_of r asked ≡ query_requests r ++ []
  requests_before h = rw h refl

  pub request_of_fetch : (i : ℕ) (fetch : FetchAsk) → has_queried (length r.shards) asked ≡ true → slice_get (fetches_of r.ask (tops_in (length r.shards) asked)) i ≡ Some fetch
      → slice_get (requests_of r asked) (i + length r.shards) ≡ Some (Fetch fetch)
  request_of_fetch i fetch h e =
      ap (λ l. slice_get l (i + length r.shards)) (requests_after h)
      ∙ slice_get-append_right i (length r.shards) (query_requests r) (map Fetch (fetches_of r.ask (tops_in (length r.shards) asked))) (length-query_requests r)
      ∙ slice_get-map Fetch i (fetches_of r.ask (tops_in (length r.shards) asked)) fetch e

  pub length-requests_after : has_queried (length r.shards) asked ≡ true → length (requests_of r asked) ≡ length r.shards + length (fetches_of r.ask (tops_in (length r.shards) asked))
  length-requests_after h =
      let fetches : List FetchAsk = fetches_of r.ask (tops_in (length r.shards) asked) in
      ap length (requests_after h) ∙ length-append (query_requests r) (map Fetch fetches)
      ∙ (λ i. length-query_requests r i + length-map fetches Fetch i)

  pub length-requests_before : has_queried (length r.shards) asked ≡ false → length (requests_of r asked) ≡ length r.shards
  length-requests_before h =
      ap length (requests_before h) ∙ length-append (query_requests r) [] ∙ omega (arith, length-query_requests r)

  pub shards_requested : length r.shards ≤ length (requests_of r asked)
  shards_requested =
      by_test (has_queried (length r.shards) asked)
      (λ yes. let e : length (requests_of r asked) ≡ length r.shards + length (fetches_of r.ask (tops_in (length r.shards) asked)) = length-requests_after yes in omega arith)
      (λ not_yet. let e : length (requests_of r asked) ≡ length r.shards = length-requests_before not_yet in omega arith)

-- ---- the end

ended_by : (request : Option Request) (answered : Bool) (reply : Reply) → has_ended (ask_or_end request answered reply) ≡ true → (request ≡ None) × (answered ≡ true)
ended_by None true reply e = (refl, refl)
ended_by None false reply e = absurd cc
ended_by (Some request) answered reply e = absurd cc

-- a search that has ended has asked for all, and has all answers
pub record HasEnded (s : Searching) : Type 0 where
  pub queried : has_queried (length s.reading.shards) s.asked ≡ true
  pub answered : are_answered s.asked ≡ true
  pub asked_all : length (requests_of s.reading s.asked) ≤ length s.asked

pub ended : (s : Searching) → has_ended (next_step s) ≡ true → HasEnded s
ended s e = of_parts (ended_by (slice_get (requests_of s.reading s.asked) (length s.asked)) (are_answered s.asked) _ e)
  where
    of_parts : (slice_get (requests_of s.reading s.asked) (length s.asked) ≡ None) × (are_answered s.asked ≡ true) → HasEnded s
    of_parts (none, answered) =
        let all : length (requests_of s.reading s.asked) ≤ length s.asked = slice_get_none (requests_of s.reading s.asked) (length s.asked) none in
        let least : length s.reading.shards ≤ length (requests_of s.reading s.asked) = shards_requested s.reading s.asked in
        let enough : nat_le (length s.reading.shards) (length s.asked) ≡ true = le-leb (length s.reading.shards) (length s.asked) (omega arith) in
        let queries : are_answered (take (length s.reading.shards) s.asked) ≡ true = list_all-take (λ a. is_some a.answer) (length s.reading.shards) s.asked answered in
        record { queried = rw enough queries; answered = answered; asked_all = all }
