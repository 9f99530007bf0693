-- The reply of a search, by its parts, and what is read off the fields of its root.
use Rattle.std.specs.Prelude.{◌≡◌, ℕ, zero, suc, ◌-◌, ◌<◌, List, [], ◌∷◌, true, false, Option, Some, None, filter_map, length, position, slice_get, slice_set, refl}
use Rattle.std.proofs.Common.{sym, ◌∙◌, ap, arith}
use Rattle.std.proofs.lemmas.List.{length-set}
use Rattle.std.specs.List.{sum_by, last_or}
use Rattle.task_events.specs.declared.reply.ShardCount.{ShardCount}
use Rattle.task_events.specs.declared.reply.SearchReply.{SearchReply}
use Rattle.task_events.specs.declared.reply.Reply.{Reply}
use Rattle.task_events.specs.declared.step.Asked.{Asked}
use Rattle.task_events.specs.Readings.{Reading}
use Rattle.task_events.specs.Searches.{tops_in, winners_among, counts_in, failed_in, hit_in}
use Rattle.search_phase.specs.Searching.{Searching, IsSearching, search_answer, is_open, takes, with_answer, has_ended, next_step}
use Rattle.search_phase.proofs.Roots.{takes_none, takes_place, answer_at_place}
use Rattle.search_phase.specs.declared.fetching.Fetching.{Fetching}
use Rattle.search_phase.specs.FetchPhase.{fetching_of}
use Rattle.search_phase.specs.Roots.{IsRoot}
use Rattle.search_phase.proofs.Requests.{slice_get_below, ended}

pub answer_by_parts : (r : Reading) (asked : List Asked) (answer : SearchReply) → answer.context ≡ r.context → answer.shards ≡ counts_in r asked → answer.failed ≡ failed_in r asked
    → answer.total ≡ sum_by (λ (n : ShardCount). n.count) (counts_in r asked)
    → answer.hits ≡ filter_map (hit_in r.ask (length r.shards) asked) (winners_among r.ask.body (tops_in (length r.shards) asked))
    → answer.last ≡ last_or None (winners_among r.ask.body (tops_in (length r.shards) asked)) → answer ≡ search_answer r asked
answer_by_parts r asked answer ec es ef et eh el = λ i. record { context = ec i; shards = es i; failed = ef i; total = et i; hits = eh i; last = el i }

pub last_or_read : {X : Type 0} (xs : List X) (x : X) → slice_get xs (length xs - 1) ≡ Some x → last_or None xs ≡ Some x
last_or_read [] x e = absurd cc
last_or_read {X = X} (y ∷ ys) x e = let n : suc (length ys) - 1 ≡ length ys = omega arith in at_end (Some y) y ys (rw n at e)
  where
    at_end : (o : Option X) (y : X) (ys : List X) → slice_get (y ∷ ys) (length ys) ≡ Some x → last_or (Some y) ys ≡ Some x
    at_end o y [] e = e
    at_end o y (z ∷ zs) e = at_end o z zs e

-- ---- an answer that comes

pub an_ask_waits : (s : Searching) (ask : ℕ) (reply : Reply) → takes s ask reply ≡ true → position (is_open ask) s.asked ≡ None → ⊥
an_ask_waits s ask reply t e = let f : false ≡ true = sym (takes_none s ask reply e) ∙ t in cc

-- the ask that an answer is for
pub record Waits (s : Searching) (ask place : ℕ) (a : Asked) : Type 0 where
  pub at : slice_get s.asked place ≡ Some a
  pub below : place < length s.asked
  pub number : a.ask ≡ ask
  pub no_answer : a.answer ≡ None

pub waiting_at : (s : Searching) (ask : ℕ) (reply : Reply) (place : ℕ) → takes s ask reply ≡ true → position (is_open ask) s.asked ≡ Some place → (a : Asked) × Waits s ask place a
waiting_at s ask reply place t e = of_place (takes_place s ask reply t)
  where
    of_place : (p : ℕ) × (a : Asked) × (position (is_open ask) s.asked ≡ Some p) × (slice_get s.asked p ≡ Some a) × (a.ask ≡ ask) × (a.answer ≡ None) → (a : Asked) × Waits s ask place a
    of_place (p, a, f, at, number, none) =
        let g : Some p ≡ Some place = sym f ∙ e in
        let same : p ≡ place = cc in
        let there : slice_get s.asked place ≡ Some a = ap (slice_get s.asked) (sym same) ∙ at in
        (a, record { at = there; below = slice_get_below s.asked place a there; number = number; no_answer = none })

-- the list with the answer at its place is that of the search with the answer
pub answer_put : (s : Searching) (ask : ℕ) (reply : Reply) (place : ℕ) (a : Asked) (asked : List Asked) → IsSearching s → Waits s ask place a
    → asked ≡ slice_set s.asked place (record { ask = a.ask; answer = Some reply }) → asked ≡ (with_answer s ask reply).asked
answer_put s ask reply place a asked h w e =
    e ∙ (λ i. slice_set s.asked place (record { ask = w.number i; answer = Some reply })) ∙ sym (answer_at_place ask reply s.asked place a h.numbers w.at w.number)

-- the search with an answer at the place of its ask
pub record IsFed (s : Searching) (ask : ℕ) (reply : Reply) (place : ℕ) (new : List Asked) : Type 0 where
  pub taken : takes s ask reply ≡ true
  pub asks : Asked
  pub waits : Waits s ask place asks
  pub put : new ≡ slice_set s.asked place (record { ask = asks.ask; answer = Some reply })
  pub same : new ≡ (with_answer s ask reply).asked

-- by what is seen of the search and of its asks
pub is_fed : (s shown : Searching) (ask : ℕ) (reply : Reply) (place : ℕ) (asked new : List Asked) (found : Option ℕ) → IsSearching s → s ≡ shown → takes shown ask reply ≡ true
    → asked ≡ s.asked → found ≡ position (is_open ask) asked → found ≡ Some place
    → ((a : Asked) → slice_get s.asked place ≡ Some a → new ≡ slice_set s.asked place (record { ask = a.ask; answer = Some reply })) → IsFed s ask reply place new
is_fed s shown ask reply place asked new found h view t is looked there set = of_waits (waiting_at s ask reply place here at)
  where
    here : takes s ask reply ≡ true
    here = ap (λ s. takes s ask reply) view ∙ t

    at : position (is_open ask) s.asked ≡ Some place
    at = ap (position (is_open ask)) (sym is) ∙ sym looked ∙ there

    of_waits : (a : Asked) × Waits s ask place a → IsFed s ask reply place new
    of_waits (a, w) = let put : new ≡ slice_set s.asked place (record { ask = a.ask; answer = Some reply }) = set a w.at in
        record { taken = here; asks = a; waits = w; put = put; same = answer_put s ask reply place a new h w put }

set_back : {X : Type 0} (xs : List X) (i : ℕ) (x y : X) → slice_get xs i ≡ Some x → slice_set (slice_set xs i y) i x ≡ xs
set_back [] i x y e = refl
set_back (z ∷ zs) zero x y e = let f : x ≡ z = cc in ap (λ w. w ∷ zs) f
set_back (z ∷ zs) (suc i) x y e = ap (λ l. z ∷ l) (set_back zs i x y e)

get_set : {X : Type 0} (xs : List X) (i : ℕ) (x y : X) → slice_get xs i ≡ Some x → slice_get (slice_set xs i y) i ≡ Some y
get_set [] i x y e = absurd cc
get_set (z ∷ zs) zero x y e = refl
get_set (z ∷ zs) (suc i) x y e = get_set zs i x y e

-- and without it the list is as before
pub answer_dropped : (s : Searching) (ask : ℕ) (reply : Reply) (place : ℕ) (a : Asked) (asked back : List Asked) → Waits s ask place a
    → asked ≡ slice_set s.asked place (record { ask = a.ask; answer = Some reply })
    → ((b : Asked) → slice_get asked place ≡ Some b → back ≡ slice_set asked place (record { ask = b.ask; answer = None })) → back ≡ s.asked
answer_dropped s ask reply place a asked back w e f =
    let new : Asked = record { ask = a.ask; answer = Some reply } in
    let there : slice_get asked place ≡ Some new = ap (λ l. slice_get l place) e ∙ get_set s.asked place a new w.at in
    let old : record { ask = a.ask; answer = None } ≡ a = λ i. record { ask = a.ask; answer = sym w.no_answer i } in
    f new there ∙ ap (λ l. slice_set l place (record { ask = a.ask; answer = None })) e ∙ ap (slice_set (slice_set s.asked place new) place) old ∙ set_back s.asked place a new w.at

pub still_below : (asked : List Asked) (place : ℕ) (xs : List Asked) (b : Asked) → place < length xs → asked ≡ slice_set xs place b → place < length asked
still_below asked place xs b l e = let f : length asked ≡ length (slice_set xs place b) = ap length e in let g : length (slice_set xs place b) ≡ length xs = length-set xs place b in omega arith

-- what the fetch phase is about is known once the search has ended
pub ended_is_known : (s : Searching) (fetching : Option Fetching) (capacity : ℕ) → IsRoot s fetching capacity → has_ended (next_step s) ≡ true → fetching ≡ None → ⊥
ended_is_known s fetching capacity h e none =
    let known : fetching ≡ Some (fetching_of s.reading.ask (tops_in (length s.reading.shards) s.asked)) = h.fetching_is ∙ rw (ended s e).queried refl in
    let f : None ≡ Some (fetching_of s.reading.ask (tops_in (length s.reading.shards) s.asked)) = sym none ∙ known in
    cc
