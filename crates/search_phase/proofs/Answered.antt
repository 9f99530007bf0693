-- What stays of a search when an answer comes.
use Rattle.std.specs.Prelude.{◌≡◌, ℕ, zero, suc, ◌<◌, ◌≤◌, ◌==◌, ◌⊎◌, List, [], ◌∷◌, ◌++◌, Bool, true, false, not, ◌&&◌, nat_le, nat_lt, Option, Some, None, is_some, option_map, find, zip, map, take, length, slice_get, refl}
use Rattle.std.proofs.Common.{sym, ◌∙◌, ap, subst, arith, inl, inr}
use Rattle.std.proofs.lemmas.Bool.{ltb-true, eqb-true, ne_eqb, cases_lt}
use Rattle.std.proofs.lemmas.List.{length-map, take-map}
use Rattle.std.specs.List.{list_all}
use Rattle.std.specs.Option.{option_map_or}
use Rattle.task_events.specs.declared.request.Request.{Request}
use Rattle.task_events.specs.declared.request.Request.TheVariants.{Fetch}
use Rattle.task_events.specs.declared.reply.ShardTop.{ShardTop}
use Rattle.task_events.specs.declared.reply.Reply.{Reply}
use Rattle.task_events.specs.declared.step.Asked.{Asked}
use Rattle.task_events.specs.Kinds.{can_have}
use Rattle.task_events.specs.Searches.{tops_in, fetches_of, are_answered, has_queried, requests_of}
use Rattle.search_phase.specs.Searching.{Searching, IsSearching, EachAnswer, AreRising, awaited, takes, answered_by, with_answer}
use Rattle.search_phase.proofs.Sorting.{by_test}
use Rattle.search_phase.proofs.Requests.{query_requests, request_below, length-requests_before, shards_requested, slice_get_below, list_all-slice_get}

-- ---- the place of an ask

-- the ask of this number, which has no answer yet, stands at a place and asks for this
pub record IsAwaited (s : Searching) (ask : ℕ) (request : Request) (place : ℕ) (a : Asked) : Type 0 where
  pub at : slice_get s.asked place ≡ Some a
  pub asks_for : slice_get (requests_of s.reading s.asked) place ≡ Some request
  pub number : a.ask ≡ ask
  pub open_yet : is_some a.answer ≡ false

abbrev AtPlace : List Asked → List Request → ℕ → Request → Type 0
AtPlace asked requests ask request = (place : ℕ) × (a : Asked) × (slice_get asked place ≡ Some a) × (slice_get requests place ≡ Some request) × (a.ask ≡ ask) × (is_some a.answer ≡ false)

module _ (ask : ℕ) where
  abbrev waits : Asked × Request → Bool
  waits p = (p.0.ask == ask) && not (is_some p.0.answer)

  one_later : (a : Asked) (asked : List Asked) (r : Request) (requests : List Request) (request : Request) → AtPlace asked requests ask request → AtPlace (a ∷ asked) (r ∷ requests) ask request
  one_later a asked r requests request (place, b, at, asks, number, open_yet) = (suc place, b, at, asks, number, open_yet)

  place_of : (asked : List Asked) (requests : List Request) (request : Request) → option_map (λ p. p.1) (find waits (zip asked requests)) ≡ Some request → AtPlace asked requests ask request
  place_of [] requests request e = absurd cc
  place_of (a ∷ asked) [] request e = absurd cc
  place_of (a ∷ asked) (r ∷ requests) request e =
      by_test (a.ask == ask)
      (λ same. by_test (is_some a.answer)
      (λ given. one_later a asked r requests request (place_of asked requests request (rw (same, given) at e)))
      (λ none. let f : Some r ≡ Some request = rw (same, none) at e in (zero, a, refl, f, eqb-true a.ask ask same, none)))
      (λ other. one_later a asked r requests request (place_of asked requests request (rw other at e)))

pub awaited_at : (s : Searching) (ask : ℕ) (request : Request) → awaited s ask ≡ Some request → (place : ℕ) × (a : Asked) × IsAwaited s ask request place a
awaited_at s ask request e = of_place (place_of ask s.asked (requests_of s.reading s.asked) request e)
  where
    of_place : AtPlace s.asked (requests_of s.reading s.asked) ask request → (place : ℕ) × (a : Asked) × IsAwaited s ask request place a
    of_place (place, a, at, asks, number, open_yet) = (place, a, record { at = at; asks_for = asks; number = number; open_yet = open_yet })

taken_by : (shards : ℕ) (reply : Reply) (o : Option Request) → option_map_or (λ request. can_have shards request reply) o false ≡ true → (request : Request) × (o ≡ Some request) × (can_have shards request reply ≡ true)
taken_by shards reply None e = absurd cc
taken_by shards reply (Some request) e = (request, refl, e)

pub taken : (s : Searching) (ask : ℕ) (reply : Reply) → takes s ask reply ≡ true → (request : Request) × (awaited s ask ≡ Some request) × (can_have (length s.reading.shards) request reply ≡ true)
taken s ask reply e = taken_by (length s.reading.shards) reply (awaited s ask) e

-- ---- numbers that rise

-- the asks before a place have lower numbers
lower_before : (asked : List Asked) (place n : ℕ) (a : Asked) → AreRising asked → slice_get asked place ≡ Some a → n ≤ place → list_all (λ (b : Asked). nat_lt b.ask a.ask) (take n asked) ≡ true
lower_before [] place n a h at l = absurd cc
lower_before (b ∷ asked) place zero a h at l = refl
lower_before (b ∷ asked) zero (suc n) a h at l = absurd (omega arith)
lower_before (b ∷ asked) (suc place) (suc n) a h at l =
    let here : nat_lt b.ask a.ask ≡ true = list_all-slice_get (λ (c : Asked). nat_lt b.ask c.ask) asked place a h.0 at in
    rw here (lower_before asked place n a h.1 at (omega arith))

-- two asks of one number are one
pub same_place : (asked : List Asked) (i j : ℕ) (a b : Asked) → AreRising asked → slice_get asked i ≡ Some a → slice_get asked j ≡ Some b → a.ask ≡ b.ask → i ≡ j
same_place [] i j a b h at bt e = absurd cc
same_place (c ∷ asked) zero zero a b h at bt e = refl
same_place (c ∷ asked) zero (suc j) a b h at bt e =
    let is : c ≡ a = cc in
    let lower : c.ask < b.ask = ltb-true c.ask b.ask (list_all-slice_get (λ (d : Asked). nat_lt c.ask d.ask) asked j b h.0 bt) in
    let same : c.ask ≡ a.ask = ap (λ (d : Asked). d.ask) is in
    absurd (omega arith)
same_place (c ∷ asked) (suc i) zero a b h at bt e =
    let is : c ≡ b = cc in
    let lower : c.ask < a.ask = ltb-true c.ask a.ask (list_all-slice_get (λ (d : Asked). nat_lt c.ask d.ask) asked i a h.0 at) in
    let same : c.ask ≡ b.ask = ap (λ (d : Asked). d.ask) is in
    absurd (omega arith)
same_place (c ∷ asked) (suc i) (suc j) a b h at bt e = ap suc (same_place asked i j a b h.1 at bt e)

module _ (ask : ℕ) (reply : Reply) where
  untouched : (asked : List Asked) → list_all (λ (b : Asked). nat_lt b.ask ask) asked ≡ true → map (answered_by ask reply) asked ≡ asked
  untouched [] h = refl
  untouched (b ∷ asked) h =
      by_test (nat_lt b.ask ask)
      (λ lower.
      let below : b.ask < ask = ltb-true b.ask ask lower in
      let other : (b.ask == ask) ≡ false = ne_eqb b.ask ask (λ e. omega arith) in
      rw (other, untouched asked (rw lower at h)) refl)
      (λ higher. absurd (let f : false ≡ true = rw higher at h in cc))

  pub untouched_above : (asked : List Asked) → list_all (λ (b : Asked). nat_lt ask b.ask) asked ≡ true → map (answered_by ask reply) asked ≡ asked
  untouched_above [] h = refl
  untouched_above (b ∷ asked) h =
      by_test (nat_lt ask b.ask)
      (λ higher.
      let above : ask < b.ask = ltb-true ask b.ask higher in
      let other : (b.ask == ask) ≡ false = ne_eqb b.ask ask (λ e. omega arith) in
      rw (other, untouched_above asked (rw higher at h)) refl)
      (λ lower. absurd (let f : false ≡ true = rw lower at h in cc))

  same_number : (b : Asked) → (answered_by ask reply b).ask ≡ b.ask
  same_number b = by_test (b.ask == ask) (λ same. rw same refl) (λ other. rw other refl)

  above_still : (n : ℕ) (asked : List Asked) → list_all (λ (b : Asked). nat_lt n b.ask) asked ≡ true → list_all (λ (b : Asked). nat_lt n b.ask) (map (answered_by ask reply) asked) ≡ true
  above_still n [] h = refl
  above_still n (b ∷ asked) h =
      by_test (nat_lt n b.ask)
      (λ below.
      let here : nat_lt n (answered_by ask reply b).ask ≡ true = ap (nat_lt n) (same_number b) ∙ below in
      rw here (above_still n asked (rw below at h)))
      (λ past. absurd (let f : false ≡ true = rw past at h in cc))

  pub AreRising-answer : (asked : List Asked) → AreRising asked → AreRising (map (answered_by ask reply) asked)
  AreRising-answer [] h = tt
  AreRising-answer (b ∷ asked) h =
      let P : ℕ → Type 0 = λ n. list_all (λ (c : Asked). nat_lt n c.ask) (map (answered_by ask reply) asked) ≡ true in
      (subst P (sym (same_number b)) (above_still b.ask asked h.0), AreRising-answer asked h.1)

  slice_get-answer : (asked : List Asked) (i : ℕ) (b : Asked) → slice_get (map (answered_by ask reply) asked) i ≡ Some b → (a : Asked) × (slice_get asked i ≡ Some a) × (answered_by ask reply a ≡ b)
  slice_get-answer [] i b e = absurd cc
  slice_get-answer (a ∷ asked) zero b e = (a, refl, cc)
  slice_get-answer (a ∷ asked) (suc i) b e = slice_get-answer asked i b e

-- ---- the requests stay

module _ (s : Searching) (ask : ℕ) (reply : Reply) (request : Request) (place : ℕ) (a : Asked) (h : IsSearching s) (here : IsAwaited s ask request place a) where
  abbrev later : List Asked
  later = map (answered_by ask reply) s.asked

  -- where all queries are answered, the ask is a fetch
  not_a_query : has_queried (length s.reading.shards) s.asked ≡ true → length s.reading.shards ≤ place
  not_a_query q = of_place (cases_lt place (length s.reading.shards))
    where
      all : are_answered (take (length s.reading.shards) s.asked) ≡ true
      all = by_test (nat_le (length s.reading.shards) (length s.asked)) (λ long. rw long at q) (λ short. absurd (let f : false ≡ true = rw short at q in cc))

      in_take : (n i : ℕ) (l : List Asked) → i < n → slice_get (take n l) i ≡ slice_get l i
      in_take zero i l k = absurd (omega arith)
      in_take (suc n) i [] k = refl
      in_take (suc n) zero (b ∷ l) k = refl
      in_take (suc n) (suc i) (b ∷ l) k = in_take n i l (omega arith)

      of_place : (place < length s.reading.shards) ⊎ (length s.reading.shards ≤ place) → length s.reading.shards ≤ place
      of_place (inl below) = absurd (let f : is_some a.answer ≡ true = list_all-slice_get (λ (b : Asked). is_some b.answer) (take (length s.reading.shards) s.asked) place a all (in_take (length s.reading.shards) place s.asked below ∙ here.at) in let g : false ≡ true = sym here.open_yet ∙ f in cc)
      of_place (inr past) = past

  pub queries_stay : has_queried (length s.reading.shards) s.asked ≡ true → take (length s.reading.shards) later ≡ take (length s.reading.shards) s.asked
  queries_stay q =
      let P : ℕ → Type 0 = λ n. list_all (λ (b : Asked). nat_lt b.ask n) (take (length s.reading.shards) s.asked) ≡ true in
      take-map (answered_by ask reply) (length s.reading.shards) s.asked
      ∙ untouched ask reply (take (length s.reading.shards) s.asked) (subst P here.number (lower_before s.asked place (length s.reading.shards) a h.numbers here.at (not_a_query q)))

  pub still_queried : has_queried (length s.reading.shards) s.asked ≡ true → has_queried (length s.reading.shards) later ≡ true
  still_queried q = ap (λ n. nat_le (length s.reading.shards) n && are_answered (take (length s.reading.shards) later)) (length-map s.asked (answered_by ask reply)) ∙ ap (λ l. nat_le (length s.reading.shards) (length s.asked) && are_answered l) (queries_stay q) ∙ q

  pub tops_stay : has_queried (length s.reading.shards) s.asked ≡ true → tops_in (length s.reading.shards) later ≡ tops_in (length s.reading.shards) s.asked
  tops_stay q = rw (queries_stay q) refl

  requests_stay : has_queried (length s.reading.shards) s.asked ≡ true → requests_of s.reading later ≡ requests_of s.reading s.asked
  requests_stay q =
      let same : tops_in (length s.reading.shards) later ≡ tops_in (length s.reading.shards) s.asked = tops_stay q in
      let still : has_queried (length s.reading.shards) later ≡ true = still_queried q in
      rw (still, q) (ap (λ (l : List ShardTop). query_requests s.reading ++ map Fetch (fetches_of s.reading.ask l)) same)

  pub request_stays : (i : ℕ) → i < length s.asked → slice_get (requests_of s.reading later) i ≡ slice_get (requests_of s.reading s.asked) i
  request_stays i below =
      by_test (has_queried (length s.reading.shards) s.asked)
      (λ q. ap (λ l. slice_get l i) (requests_stay q))
      (λ waiting.
      let few : length (requests_of s.reading s.asked) ≡ length s.reading.shards = length-requests_before s.reading s.asked waiting in
      let room : length s.asked ≤ length (requests_of s.reading s.asked) = h.in_order in
      let of_query : i < length s.reading.shards = omega arith in
      request_below s.reading later i of_query ∙ sym (request_below s.reading s.asked i of_query))

  pub EachAnswer-answer : (P : Request → Reply → Type 0) → EachAnswer P s → P request reply → EachAnswer P (with_answer s ask reply)
  EachAnswer-answer P each new i b r q at asks answered = of_ask (slice_get-answer ask reply s.asked i b at)
    where
      of_ask : (c : Asked) × (slice_get s.asked i ≡ Some c) × (answered_by ask reply c ≡ b) → P r q
      of_ask (c, before, is) =
          let asks_before : slice_get (requests_of s.reading s.asked) i ≡ Some r = sym (request_stays i (slice_get_below s.asked i c before)) ∙ asks in
          by_test (c.ask == ask)
          (λ same.
          let number : c.ask ≡ a.ask = eqb-true c.ask ask same ∙ sym here.number in
          let at_place : i ≡ place = same_place s.asked i place c a h.numbers before here.at number in
          let new_answer : record c { answer = Some reply } ≡ b = rw same at is in
          let is_reply : Some reply ≡ Some q = ap (λ (d : Asked). d.answer) new_answer ∙ answered in
          let is_request : Some request ≡ Some r = sym here.asks_for ∙ ap (slice_get (requests_of s.reading s.asked)) (sym at_place) ∙ asks_before in
          let r_is : request ≡ r = cc in
          let q_is : reply ≡ q = cc in
          let Q : Request → Type 0 = λ x. P x q in
          subst Q r_is (subst (P request) q_is new))
          (λ other.
          let same : c ≡ b = rw other at is in
          each i c r q before asks_before (ap (λ (d : Asked). d.answer) same ∙ answered))

  pub IsSearching-answer : can_have (length s.reading.shards) request reply ≡ true → IsSearching (with_answer s ask reply)
  IsSearching-answer can =
      let as_long : length later ≡ length s.asked = length-map s.asked (answered_by ask reply) in
      record {
        reading = h.reading;
        numbers = AreRising-answer ask reply s.asked h.numbers;
        in_order = by_test (has_queried (length s.reading.shards) s.asked)
            (λ q. let same : length (requests_of s.reading later) ≡ length (requests_of s.reading s.asked) = ap length (requests_stay q) in
            let room : length s.asked ≤ length (requests_of s.reading s.asked) = h.in_order in omega arith)
            (λ waiting. let few : length (requests_of s.reading s.asked) ≡ length s.reading.shards = length-requests_before s.reading s.asked waiting in
            let room : length s.asked ≤ length (requests_of s.reading s.asked) = h.in_order in
            let least : length s.reading.shards ≤ length (requests_of s.reading later) = shards_requested s.reading later in omega arith);
        possible = EachAnswer-answer (λ request reply. can_have (length s.reading.shards) request reply ≡ true) h.possible can;
      }
