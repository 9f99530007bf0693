-- A search takes the answer to an ask that has none yet.
use Rattle.std.proofs.Common.{◌≡◌, ◌<◌, ℕ, zero, suc, ◌+◌, Bool, true, false, cond, List, [], ◌∷◌, length, map, take, get_or, Option, Some, None, refl, sym, ap, subst, ◌∙◌, arith}
use Rattle.std.specs.Prelude.{◌==◌, ◌&&◌, is_some, not, find, zip, slice_get, slice_set, option_map}
use Rattle.std.specs.List.{range_with_len}
use Rattle.std.specs.Option.{option_map_or}
use Rattle.std.proofs.lemmas.Bool.{eqb-true, eq-eqb}
use Rattle.std.proofs.lemmas.Bool.Decides.{nat_tests}
use Rattle.std.proofs.lemmas.List.{length-map}
use Rattle.std.proofs.lemmas.Option.{slice_get_within}
use Rattle.task_ids.specs.declared.cluster.Cluster.{Cluster}
use Rattle.task_ids.specs.declared.corpus.Corpus.{Corpus}
use Rattle.task_events.specs.declared.request.Request.{Request}
use Rattle.task_events.specs.declared.reply.Reply.{Reply}
use Rattle.task_events.specs.declared.step.Asked.{Asked}
use Rattle.task_events.specs.Kinds.{can_have}
use Rattle.task_events.specs.Readings.{Reading}
use Rattle.task_events.specs.Searches.{requests_of}
use Rattle.search_phase.specs.Searching.{Searching, IsSearching, takes, answered_by, with_answer}
use Rattle.search_phase.proofs.Answered.{IsAwaited, EachAnswer-answer, request_stays}
use Rattle.search_phase.proofs.Lookups.{slice_get-take}
use Rattle.world_moves.specs.SearchRuns.{SearchesFor}
use Rattle.world_moves.specs.Good.{IsGoodReply}
use Rattle.world_moves.proofs.Numbered.{is_searching}
use Rattle.world_moves.proofs.SearchParts.{any_shards, plan_parts}

-- ---- the asks of a search, which are numbered on from b

number_at : (b : ℕ) (asked : List Asked) (i : ℕ) (a : Asked) → map (λ a. a.ask) asked ≡ range_with_len b (length asked) → slice_get asked i ≡ Some a → a.ask ≡ b + i
number_at b [] i a e g = absurd (cc)
number_at b (c ∷ asked) zero a e g =
    let here : c.ask ≡ b = cc in
    let same : c.ask ≡ a.ask = ap (λ o. o.ask) (let s : c ≡ a = cc in s) in
    omega arith
number_at b (c ∷ asked) (suc i) a e g = let later = number_at (b + 1) asked i a (cc) g in omega arith

-- an ask that has no answer is found by its number, with its request
found : (b : ℕ) (asked : List Asked) (requests : List Request) (i : ℕ) (a : Asked) (r : Request) → map (λ a. a.ask) asked ≡ range_with_len b (length asked)
    → slice_get asked i ≡ Some a → slice_get requests i ≡ Some r → is_some a.answer ≡ false
    → option_map (λ p. p.1) (find (λ p. (p.0.ask == (b + i)) && not (is_some p.0.answer)) (zip asked requests)) ≡ Some r
found b [] requests i a r e g h n = absurd (cc)
found b (c ∷ asked) [] i a r e g h n = absurd (cc)
found b (c ∷ asked) (q ∷ requests) zero a r e g h n =
    let here : c.ask ≡ b = cc in
    let same : c ≡ a = cc in
    let none : is_some c.answer ≡ false = ap (λ o. is_some o.answer) same ∙ n in
    let equal : (c.ask == (b + zero)) ≡ true = grind (arith, nat_tests) in
    rw (equal, none) h
found b (c ∷ asked) (q ∷ requests) (suc i) a r e g h n =
    let here : c.ask ≡ b = cc in
    let other : (c.ask == (b + suc i)) ≡ false = grind (arith, nat_tests) in
    let shift : b + suc i ≡ b + 1 + i = omega arith in
    rw other (subst (λ k. option_map (λ p. p.1) (find (λ p. (p.0.ask == k) && not (is_some p.0.answer)) (zip asked requests)) ≡ Some r) (sym shift) (found (b + 1) asked requests i a r (cc) g h n))

-- the answer is noted at its place
same_numbers : (k : ℕ) (reply : Reply) (asked : List Asked) → map (λ a. a.ask) (map (answered_by k reply) asked) ≡ map (λ a. a.ask) asked
same_numbers k reply [] = refl
same_numbers k reply (a ∷ asked) = λ i. same (a.ask == k) a reply i ∷ same_numbers k reply asked i
  where
    same : (b : Bool) (a : Asked) (reply : Reply) → (cond b (record a { answer = Some reply }) a).ask ≡ a.ask
    same true a reply = refl
    same false a reply = refl

unnoted : (b k : ℕ) (reply : Reply) (asked : List Asked) → map (λ a. a.ask) asked ≡ range_with_len b (length asked) → k < b → map (answered_by k reply) asked ≡ asked
unnoted b k reply [] e l = refl
unnoted b k reply (a ∷ asked) e l =
    let here : a.ask ≡ b = cc in
    let other : (a.ask == k) ≡ false = grind (arith, nat_tests) in
    rw other (ap (λ xs. a ∷ xs) (unnoted (b + 1) k reply asked (cc) (omega arith)))

pub noted : (b : ℕ) (reply : Reply) (asked : List Asked) (open_asks : List (Option ℕ)) (i : ℕ) → map (λ a. a.ask) asked ≡ range_with_len b (length asked)
    → map (λ a. is_some a.answer) asked ≡ map (λ o. not (is_some o)) open_asks
    → map (λ a. is_some a.answer) (map (answered_by (b + i) reply) asked) ≡ map (λ o. not (is_some o)) (slice_set open_asks i None)
noted b reply [] [] i e f = f
noted b reply [] (o ∷ open_asks) i e f = absurd (cc)
noted b reply (a ∷ asked) [] i e f = absurd (cc)
noted b reply (a ∷ asked) (o ∷ open_asks) zero e f =
    let here : a.ask ≡ b = cc in
    let equal : (a.ask == (b + zero)) ≡ true = grind (arith, nat_tests) in
    let later : map (answered_by (b + zero) reply) asked ≡ asked = unnoted (b + 1) (b + zero) reply asked (cc) (omega arith) in
    rw (equal, later) (let rest : map (λ a. is_some a.answer) asked ≡ map (λ o. not (is_some o)) open_asks = cc in ap (λ xs. true ∷ xs) rest)
noted b reply (a ∷ asked) (o ∷ open_asks) (suc i) e f =
    let here : a.ask ≡ b = cc in
    let other : (a.ask == (b + suc i)) ≡ false = grind (arith, nat_tests) in
    let shift : b + suc i ≡ b + 1 + i = omega arith in
    let later : map (λ a. is_some a.answer) (map (answered_by (b + 1 + i) reply) asked) ≡ map (λ o. not (is_some o)) (slice_set open_asks i None) = noted (b + 1) reply asked open_asks i (cc) (cc) in
    let first : is_some a.answer ≡ not (is_some o) = cc in
    let whole = ap (λ k. map (λ a. is_some a.answer) (map (answered_by k reply) asked)) shift ∙ later in
    rw other (λ j. first j ∷ whole j)

take_alike : {X : Type 0} (n : ℕ) (xs ys : List X) → ((i : ℕ) → i < n → slice_get xs i ≡ slice_get ys i) → take n xs ≡ take n ys
take_alike zero xs ys each = refl
take_alike (suc n) [] [] each = refl
take_alike (suc n) [] (y ∷ ys) each = absurd (let e = each zero (omega arith) in cc)
take_alike (suc n) (x ∷ xs) [] each = absurd (let e = each zero (omega arith) in cc)
take_alike (suc n) (x ∷ xs) (y ∷ ys) each =
    let first : x ≡ y = (let e = each zero (omega arith) in cc) in
    let later : take n xs ≡ take n ys = take_alike n xs ys (λ i l. each (suc i) (omega arith)) in
    λ j. first j ∷ later j

pub has_at : {X : Type 0} (xs : List X) (i : ℕ) → i < length xs → (x : X) × (slice_get xs i ≡ Some x)
has_at [] i l = absurd (omega arith)
has_at (x ∷ xs) zero l = (x, refl)
has_at (x ∷ xs) (suc i) l = has_at xs i (omega arith)

-- whether an ask is answered, as the track says
answered_at : (asked : List Asked) (open_asks : List (Option ℕ)) (i : ℕ) (a : Asked) → map (λ a. is_some a.answer) asked ≡ map (λ o. not (is_some o)) open_asks → slice_get asked i ≡ Some a → is_some (get_or open_asks i None) ≡ true → is_some a.answer ≡ false
answered_at [] open_asks i a e g u = absurd (cc)
answered_at (c ∷ asked) [] i a e g u = absurd (cc)
answered_at (c ∷ asked) (o ∷ open_asks) zero a e g u =
    let first : is_some c.answer ≡ not (is_some o) = cc in
    let same : c ≡ a = cc in
    ap (λ x. is_some x.answer) (sym same) ∙ first ∙ ap not u
answered_at (c ∷ asked) (o ∷ open_asks) (suc i) a e g u = answered_at asked open_asks i a (cc) g u

pub within : (xs : List (Option ℕ)) (i : ℕ) → is_some (get_or xs i None) ≡ true → i < length xs
within [] i e = absurd (cc)
within (x ∷ xs) zero e = omega arith
within (x ∷ xs) (suc i) e = let l = within xs i e in omega arith

-- ---- a search that takes an answer

module _ (cluster : Cluster) (corpus : Corpus) (q : Reading) (asked : List Asked) (requests : List Request) (open_asks : List (Option ℕ)) (i : ℕ) (r : Request) (reply : Reply)
    (there : slice_get requests i ≡ Some r) (unanswered : is_some (get_or open_asks i None) ≡ true) (good : IsGoodReply cluster corpus r reply) where
  abbrev state : Searching
  state = record { reading = q; asked = asked }

  module _ (x : SearchesFor cluster corpus q asked requests open_asks state) where
    in_plan : slice_get (requests_of q asked) i ≡ Some r
    in_plan = (slice_get-take (length asked) i (requests_of q asked) r (ap (λ l. slice_get l i) (sym x.planned) ∙ there)).0

    the_ask : (a : Asked) × (slice_get asked i ≡ Some a)
    the_ask = has_at asked i (let l = slice_get_within requests i r there in let e = x.as_many in omega arith)

    no_answer : is_some the_ask.0.answer ≡ false
    no_answer = answered_at asked open_asks i the_ask.0 x.answered the_ask.1 unanswered

    searching : IsSearching state
    searching = is_searching cluster corpus q asked requests open_asks x

    is_awaited : IsAwaited state (1 + i) r i the_ask.0
    is_awaited = record { at = the_ask.1; asks_for = in_plan; number = number_at 1 asked i the_ask.0 x.numbered the_ask.1; open_yet = no_answer }

    pub takes_it : takes state (1 + i) reply ≡ true
    takes_it =
        ap (λ o. option_map_or (λ request. can_have (length q.shards) request reply) o false) (found 1 asked (requests_of q asked) i the_ask.0 r x.numbered the_ask.1 in_plan no_answer)
        ∙ any_shards (length q.shards) cluster.shards r reply (plan_parts q asked i r in_plan) ∙ good.0

    pub searches_on : SearchesFor cluster corpus q (map (answered_by (1 + i) reply) asked) requests (slice_set open_asks i None) (with_answer state (1 + i) reply)
    searches_on =
        let later : List Asked = map (answered_by (1 + i) reply) asked in
        let as_long : length later ≡ length asked = length-map asked (answered_by (1 + i) reply) in
        record {
          state_is = refl;
          reading_is = x.reading_is;
          few = x.few;
          shown = x.shown;
          within = x.within;
          numbered = same_numbers (1 + i) reply asked ∙ x.numbered ∙ ap (range_with_len 1) (sym as_long);
          planned =
              x.planned
              ∙ take_alike (length asked) (requests_of q asked) (requests_of q later) (λ j l. sym (request_stays state (1 + i) reply r i the_ask.0 searching is_awaited j l))
              ∙ ap (λ n. take n (requests_of q later)) (sym as_long);
          as_many = x.as_many ∙ sym as_long;
          answered = noted 1 reply asked open_asks i x.numbered x.answered;
          good = EachAnswer-answer state (1 + i) reply r i the_ask.0 searching is_awaited (IsGoodReply cluster corpus) x.good good;
        }
