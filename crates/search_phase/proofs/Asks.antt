-- What stays of a search when it asks, and when an answer comes.
use Rattle.std.specs.Prelude.{◌≡◌, ℕ, zero, suc, ◌<◌, ◌≤◌, ◌⊎◌, List, [], ◌∷◌, ◌++◌, Bool, true, false, nat_le, nat_lt, Option, Some, None, is_some, map, take, length, slice_get, refl}
use Rattle.std.proofs.Common.{sym, ◌∙◌, ap, arith, inl, inr}
use Rattle.std.proofs.lemmas.Bool.{leb-true, leb-false, le-leb}
use Rattle.std.proofs.lemmas.List.{length-append, take-append-le, take_all}
use Rattle.std.specs.List.{list_all}
use Rattle.task_events.specs.declared.request.Request.{Request}
use Rattle.task_events.specs.declared.request.Request.TheVariants.{Fetch}
use Rattle.task_events.specs.declared.reply.ShardTop.{ShardTop}
use Rattle.task_events.specs.declared.reply.Reply.{Reply}
use Rattle.task_events.specs.declared.step.Asked.{Asked}
use Rattle.task_events.specs.Kinds.{can_have}
use Rattle.task_events.specs.Readings.{Reading}
use Rattle.task_events.specs.Searches.{tops_in, fetches_of, are_answered, has_queried, requests_of}
use Rattle.task_events.specs.SearchTask.{ask_or_end}
use Rattle.search_phase.specs.Searching.{Searching, IsSearching, EachAnswer, AreRising, next_step, wants_to_ask, is_above, with_ask}
use Rattle.search_phase.proofs.Sorting.{by_test}
use Rattle.search_phase.proofs.Lookups.{list_all-append}
use Rattle.search_phase.proofs.Requests.{query_requests, requests_before, requests_after, slice_get_below}

-- ---- a new ask

list_all-last : {X : Type 0} (p : X → Bool) (xs : List X) (x : X) → p x ≡ false → list_all p (xs ++ x ∷ []) ≡ false
list_all-last p [] x e = rw e refl
list_all-last p (y ∷ ys) x e = by_test (p y) (λ yes. rw yes (list_all-last p ys x e)) (λ other. rw other refl)

slice_get-last : {X : Type 0} (xs : List X) (y : X) (i : ℕ) (x : X) → slice_get (xs ++ y ∷ []) i ≡ Some x → (slice_get xs i ≡ Some x) ⊎ (y ≡ x)
slice_get-last [] y zero x e = inr cc
slice_get-last [] y (suc i) x e = absurd cc
slice_get-last (z ∷ zs) y zero x e = inl e
slice_get-last (z ∷ zs) y (suc i) x e = slice_get-last zs y i x e

module _ (asked : List Asked) (number : ℕ) where
  abbrev more : List Asked
  more = asked ++ record { ask = number; answer = None } ∷ []

  queried_before : (shards : ℕ) → shards ≤ length asked → has_queried shards more ≡ has_queried shards asked
  queried_before shards h =
      let longer : nat_le shards (length more) ≡ true = le-leb shards (length more) (omega (arith, length-append asked (record { ask = number; answer = None } ∷ []))) in
      let enough : nat_le shards (length asked) ≡ true = le-leb shards (length asked) h in
      let same : take shards more ≡ take shards asked = take-append-le shards asked (record { ask = number; answer = None } ∷ []) h in
      rw (longer, enough) (ap are_answered same)

  not_queried : (shards : ℕ) → nat_le shards (length asked) ≡ false → has_queried shards more ≡ false
  not_queried shards h =
      let short : length asked < shards = leb-false shards (length asked) h in
      let all : take shards more ≡ more = take_all shards more (omega (arith, length-append asked (record { ask = number; answer = None } ∷ []))) in
      let waits : are_answered (take shards more) ≡ false = ap are_answered all ∙ list_all-last (λ (a : Asked). is_some a.answer) asked (record { ask = number; answer = None }) refl in
      by_test (nat_le shards (length more)) (λ yes. rw yes waits) (λ other. rw other refl)

  pub has_queried-ask : (shards : ℕ) → has_queried shards more ≡ has_queried shards asked
  has_queried-ask shards =
      by_test (nat_le shards (length asked)) (λ yes. queried_before shards (leb-true shards (length asked) yes)) (λ other. not_queried shards other ∙ sym (rw other refl))

  pub tops_in-ask : (shards : ℕ) → has_queried shards asked ≡ true → tops_in shards more ≡ tops_in shards asked
  tops_in-ask shards h = by_test (nat_le shards (length asked)) of_length (λ other. absurd (let f : false ≡ true = rw other at h in cc))
    where
      of_length : nat_le shards (length asked) ≡ true → tops_in shards more ≡ tops_in shards asked
      of_length enough = rw (take-append-le shards asked (record { ask = number; answer = None } ∷ []) (leb-true shards (length asked) enough)) refl

  pub AreRising-ask : AreRising asked → is_above number asked ≡ true → AreRising more
  AreRising-ask h e = rising asked h e
    where
      rising : (l : List Asked) → AreRising l → is_above number l ≡ true → AreRising (l ++ record { ask = number; answer = None } ∷ [])
      rising [] h e = (refl, tt)
      rising (a ∷ l) h e =
          by_test (nat_lt a.ask number)
          (λ yes. (list_all-append (λ (b : Asked). nat_lt a.ask b.ask) l (record { ask = number; answer = None } ∷ []) h.0 (rw yes refl), rising l h.1 (rw yes at e)))
          (λ other. absurd (let f : false ≡ true = rw other at e in cc))

pub requests_of-ask : (r : Reading) (asked : List Asked) (number : ℕ) → requests_of r (asked ++ record { ask = number; answer = None } ∷ []) ≡ requests_of r asked
requests_of-ask r asked number =
    let more : List Asked = asked ++ record { ask = number; answer = None } ∷ [] in
    let queried = has_queried-ask asked number (length r.shards) in
    by_test (has_queried (length r.shards) asked)
    (λ yes. let tops : tops_in (length r.shards) more ≡ tops_in (length r.shards) asked = tops_in-ask asked number (length r.shards) yes in
    requests_after r more (queried ∙ yes) ∙ ap (λ (l : List ShardTop). query_requests r ++ map Fetch (fetches_of r.ask l)) tops ∙ sym (requests_after r asked yes))
    (λ other. requests_before r more (queried ∙ other) ∙ sym (requests_before r asked other))

pub asks_by : (o : Option Request) (answered : Bool) (reply : Reply) → wants_to_ask (ask_or_end o answered reply) ≡ true → (request : Request) × (o ≡ Some request)
asks_by (Some request) answered reply e = (request, refl)
asks_by None true reply e = absurd cc
asks_by None false reply e = absurd cc

pub EachAnswer-ask : (P : Request → Reply → Type 0) (s : Searching) (number : ℕ) → EachAnswer P s → EachAnswer P (with_ask s number)
EachAnswer-ask P s number h place a request reply at asks answered =
    of_place (slice_get-last s.asked (record { ask = number; answer = None }) place a at)
  where
    of_place : (slice_get s.asked place ≡ Some a) ⊎ (record { ask = number; answer = None } ≡ a) → P request reply
    of_place (inl before) = h place a request reply before (ap (λ l. slice_get l place) (sym (requests_of-ask s.reading s.asked number)) ∙ asks) answered
    of_place (inr last) = absurd (let e : None ≡ Some reply = ap (λ (b : Asked). b.answer) last ∙ answered in cc)

pub IsSearching-ask : (s : Searching) (number : ℕ) → IsSearching s → wants_to_ask (next_step s) ≡ true → is_above number s.asked ≡ true → IsSearching (with_ask s number)
IsSearching-ask s number h plans above =
    let some : (request : Request) × (slice_get (requests_of s.reading s.asked) (length s.asked) ≡ Some request) = asks_by _ _ _ plans in
    let room : length s.asked < length (requests_of s.reading s.asked) = slice_get_below (requests_of s.reading s.asked) (length s.asked) some.0 some.1 in
    let same : length (requests_of s.reading (with_ask s number).asked) ≡ length (requests_of s.reading s.asked) = ap length (requests_of-ask s.reading s.asked number) in
    record {
      reading = h.reading;
      numbers = AreRising-ask s.asked number h.numbers above;
      in_order = omega (arith, length-append s.asked (record { ask = number; answer = None } ∷ []));
      possible = EachAnswer-ask (λ request reply. can_have (length s.reading.shards) request reply ≡ true) s number h.possible;
    }
