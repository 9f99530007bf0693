-- What a fetch finds in a shard is a reply that it can have.
use Rattle.std.proofs.Common.{◌≡◌, ℕ, Bool, true, false, cond, List, [], ◌∷◌, map, Option, Some, None, refl, arith}
use Rattle.std.specs.Prelude.{◌==◌, filter_map}
use Rattle.std.specs.List.{list_all}
use Rattle.std.specs.Str.{bytes_eq}
use Rattle.std.proofs.lemmas.Bool.Decides.{nat_tests}
use Rattle.std.proofs.lemmas.Slice.Eq.{bytes_eq-Decides}
use Rattle.task_ids.specs.declared.doc.Doc.{Doc}
use Rattle.task_ids.specs.Rows.{row_at}
use Rattle.task_events.specs.declared.request.FetchAsk.{FetchAsk}
use Rattle.task_events.specs.Answers.{hit_at, fetched}
use Rattle.task_events.specs.FetchTask.{are_among, are_hits_for}

tail_among : (p : ℕ) (ps all : List ℕ) → are_among (p ∷ ps) all ≡ true → are_among ps all ≡ true
tail_among p ps [] e = absurd (cc)
tail_among p [] (n ∷ later) e = refl
tail_among p (q ∷ qs) (n ∷ later) e = here (p == n) (q == n) e (tail_among p (q ∷ qs) later) (tail_among q qs later)
  where
    here : (b c : Bool) → cond b (are_among (q ∷ qs) later) (are_among (p ∷ q ∷ qs) later) ≡ true
        → (are_among (p ∷ q ∷ qs) later ≡ true → are_among (q ∷ qs) later ≡ true) → (are_among (q ∷ qs) later ≡ true → are_among qs later ≡ true)
        → cond c (are_among qs later) (are_among (q ∷ qs) later) ≡ true
    here true true f first second = second f
    here true false f first second = f
    here false true f first second = second (first f)
    here false false f first second = first f

more_among : (ps : List ℕ) (n : ℕ) (all : List ℕ) → are_among ps all ≡ true → are_among ps (n ∷ all) ≡ true
more_among [] n all e = refl
more_among (p ∷ ps) n all e = here (p == n)
  where
    here : (b : Bool) → cond b (are_among ps all) (are_among (p ∷ ps) all) ≡ true
    here true = tail_among p ps all e
    here false = e

same_number : (n : ℕ) → (n == n) ≡ true
same_number n = grind (arith, nat_tests)

module _ (index : List ℕ) (version : ℕ) (writes : List Doc) where
  places_among : (places : List ℕ) → are_among (map (λ hit. hit.place) (filter_map (hit_at index version writes) places)) places ≡ true
  places_among [] = refl
  places_among (p ∷ ps) = here (row_at version p writes) refl (places_among ps)
    where
      here : (o : Option Doc) → row_at version p writes ≡ o → are_among (map (λ hit. hit.place) (filter_map (hit_at index version writes) ps)) ps ≡ true
          → are_among (map (λ hit. hit.place) (filter_map (hit_at index version writes) (p ∷ ps))) (p ∷ ps) ≡ true
      here None e rest = rw e (more_among (map (λ hit. hit.place) (filter_map (hit_at index version writes) ps)) p ps rest)
      here (Some doc) e rest = rw e (rw (same_number p) rest)

  of_index : (places : List ℕ) → list_all (λ hit. bytes_eq index hit.index) (filter_map (hit_at index version writes) places) ≡ true
  of_index [] = refl
  of_index (p ∷ ps) = here (row_at version p writes) refl (of_index ps)
    where
      here : (o : Option Doc) → row_at version p writes ≡ o → list_all (λ hit. bytes_eq index hit.index) (filter_map (hit_at index version writes) ps) ≡ true → list_all (λ hit. bytes_eq index hit.index) (filter_map (hit_at index version writes) (p ∷ ps)) ≡ true
      here None e rest = rw e rest
      here (Some doc) e rest = rw e (rw ((bytes_eq-Decides index index).1 refl) rest)

pub hits_possible : (ask : FetchAsk) (writes : List Doc) → are_hits_for ask (fetched ask writes) ≡ true
hits_possible ask writes = rw (of_index ask.index ask.version writes ask.places) (places_among ask.index ask.version writes ask.places)
