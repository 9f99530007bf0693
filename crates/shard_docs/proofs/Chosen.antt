-- The places of candidates, chosen one by one.
use Rattle.std.proofs.Common.{◌≡◌, ℕ, ◌+◌, ◌-◌, ◌<◌, ◌≤◌, zero, suc, Bool, true, false, ◌&&◌, cond, eqb, List, [], ◌∷◌, ◌++◌, length, map, take, Option, Some, None, refl, sym, ap, ◌∙◌, arith}
use Rattle.std.proofs.lemmas.Bool.{ne_eqb, eq-eqb}
use Rattle.std.proofs.Math.Bool.{and-false, and-true}
use Rattle.std.proofs.lemmas.List.{append-nil, take_at}
use Rattle.std.proofs.lemmas.List.Elements.{filter-append}
use Rattle.std.specs.List.{filter}
use Rattle.std.specs.Map.{lookup}
use Rattle.std.specs.Option.{option_map_or}
use Rattle.task_ids.specs.declared.doc.Doc.{Doc}
use Rattle.task_ids.specs.Rows.{Row, has_id, living_rows, rows_at, row_at}
use Rattle.query_match.specs.Picks.{Picked, has_picked}
use Rattle.shard_docs.specs.Candidates.{is_above, next_places, is_candidate}
use Rattle.shard_docs.proofs.RowLemmas.{none_before}

-- so many places from one on
abbrev pub from : ℕ → ℕ → List ℕ
from first zero = []
from first (suc n) = first ∷ from (suc first) n

pub from_more : (first n next : ℕ) → next ≡ first + n → from first (suc n) ≡ from first n ++ next ∷ []
from_more first zero next at = ap (λ (p : ℕ). p ∷ []) (omega arith)
from_more first (suc n) next at = ap (λ l. first ∷ l) (from_more (suc first) n next (omega arith))

-- ---- filters

-- the head of a list that is filtered twice
both_head : {X : Type 0} (p : X → Bool) (x : X) (kept later : List X) (a b : Bool) → p x ≡ a → filter p kept ≡ later → filter p (cond b (x ∷ kept) kept) ≡ cond (b && a) (x ∷ later) later
both_head p x kept later a false e rest = rest
both_head p x kept later true true e rest = ap (λ c. cond c (x ∷ filter p kept) (filter p kept)) e ∙ ap (λ l. x ∷ l) rest
both_head p x kept later false true e rest = ap (λ c. cond c (x ∷ filter p kept) (filter p kept)) e ∙ rest

pub filter_both : {X : Type 0} (p q : X → Bool) (xs : List X) → filter p (filter q xs) ≡ filter (λ x. q x && p x) xs
filter_both p q [] = refl
filter_both p q (x ∷ xs) = both_head p x (filter q xs) (filter (λ y. q y && p y) xs) (p x) (q x) refl (filter_both p q xs)

filter_alike : (t u : ℕ → Bool) (first n : ℕ) → ((i : ℕ) → first ≤ i → t i ≡ u i) → filter t (from first n) ≡ filter u (from first n)
filter_alike t u first zero same = refl
filter_alike t u first (suc n) same =
    ap (λ b. cond b (first ∷ filter t (from (suc first) n)) (filter t (from (suc first) n))) (same first (omega arith))
    ∙ ap (λ l. cond (u first) (first ∷ l) l) (filter_alike t u (suc first) n (λ i h. same i (omega arith)))

filter_none : (t : ℕ → Bool) (first n : ℕ) → ((i : ℕ) → first ≤ i → i < first + n → t i ≡ false) → filter t (from first n) ≡ []
filter_none t first zero none = refl
filter_none t first (suc n) none =
    ap (λ b. cond b (first ∷ filter t (from (suc first) n)) (filter t (from (suc first) n))) (none first (omega arith) (omega arith))
    ∙ filter_none t (suc first) n (λ i h below. none i (omega arith) (omega arith))

from_parts : (first n more second all : ℕ) → second ≡ first + n → all ≡ n + more → from first all ≡ from first n ++ from second more
from_parts first zero more second all at many =
    let many_here : all ≡ more = omega arith in
    let at_here : first ≡ second = omega arith in
    ap (from first) many_here ∙ ap (λ p. from p more) at_here
from_parts first (suc n) more second zero at many = absurd (omega arith)
from_parts first (suc n) more second (suc all) at many = ap (λ l. first ∷ l) (from_parts (suc first) n more second all (omega arith) (omega arith))

-- where there is room for no more than the first ones, the rest is cut off
pub enough : (test : ℕ → Bool) (front rest all : List ℕ) (n : ℕ) → all ≡ front ++ rest → length (filter test front) ≡ n → filter test front ≡ take n (filter test all)
enough test front rest all n parts many =
    sym (ap (λ l. take n (filter test l)) parts ∙ ap (take n) (filter-append test front rest) ∙ take_at (filter test front) (filter test rest) n many)

-- ---- rows, and their places one by one

-- the row of a place passes
abbrev hit : (Row → Bool) → ℕ → List Row → Bool
hit test place rows = option_map_or (λ doc. test (place, doc)) (lookup (λ other. eqb place other) rows) false

first_of : (b : Bool) (row : Row) (rows : List Row) → map (λ r. r.0) (cond b (row ∷ rows) rows) ≡ cond b (row.0 ∷ map (λ r. r.0) rows) (map (λ r. r.0) rows)
first_of true row rows = refl
first_of false row rows = refl

one_more : (test : Row → Bool) (first : ℕ) (doc : Doc) (later : List Doc) (dead : Bool)
    → map (λ row. row.0) (filter test (living_rows (suc first) later)) ≡ filter (λ i. hit test i (living_rows (suc first) later)) (from (suc first) (length later))
    → let rows : List Row = cond dead (living_rows (suc first) later) ((first, doc) ∷ living_rows (suc first) later) in
    map (λ row. row.0) (filter test rows) ≡ filter (λ i. hit test i rows) (from first (suc (length later)))
one_more test first doc later true found =
    let rest = living_rows (suc first) later in
    let none : hit test first rest ≡ false = ap (λ o. option_map_or (λ d. test (first, d)) o false) (none_before first (suc first) later (omega arith)) in
    let others = filter (λ i. hit test i rest) (from (suc first) (length later)) in
    found ∙ sym (ap (λ b. cond b (first ∷ others) others) none)
one_more test first doc later false found =
    let rest = living_rows (suc first) later in
    let rows : List Row = (first, doc) ∷ rest in
    let here : hit test first rows ≡ test (first, doc) = ap (λ b. option_map_or (λ d. test (first, d)) (cond b (Some doc) (lookup (λ other. eqb first other) rest)) false) (eq-eqb first first refl) in
    let others : filter (λ i. hit test i rows) (from (suc first) (length later)) ≡ map (λ row. row.0) (filter test rest) =
    filter_alike (λ i. hit test i rows) (λ i. hit test i rest) (suc first) (length later)
    (λ i h. ap (λ b. option_map_or (λ d. test (i, d)) (cond b (Some doc) (lookup (λ other. eqb i other) rest)) false) (ne_eqb i first (λ e. omega arith)))
    ∙ sym found in
    first_of (test (first, doc)) (first, doc) (filter test rest)
    ∙ sym (ap (λ b. cond b (first ∷ filter (λ i. hit test i rows) (from (suc first) (length later))) (filter (λ i. hit test i rows) (from (suc first) (length later)))) here
    ∙ ap (λ l. cond (test (first, doc)) (first ∷ l) l) others)

places_chosen : (test : Row → Bool) (first : ℕ) (docs : List Doc) → map (λ row. row.0) (filter test (living_rows first docs)) ≡ filter (λ i. hit test i (living_rows first docs)) (from first (length docs))
places_chosen test first [] = refl
places_chosen test first (doc ∷ later) = one_more test first doc later (has_id doc.id later) (places_chosen test (suc first) later)

-- a place behind the last has no row
none_added : (b : Bool) (place first : ℕ) (doc : Doc) (rows : List Row) → eqb place first ≡ false → lookup (λ other. eqb place other) rows ≡ None
    → lookup (λ other. eqb place other) (cond b rows ((first, doc) ∷ rows)) ≡ None
none_added true place first doc rows apart none = none
none_added false place first doc rows apart none = ap (λ b. cond b (Some doc) (lookup (λ other. eqb place other) rows)) apart ∙ none

none_after : (place first : ℕ) (docs : List Doc) → first + length docs ≤ place → lookup (λ other. eqb place other) (living_rows first docs) ≡ None
none_after place first [] h = refl
none_after place first (doc ∷ later) h =
    none_added (has_id doc.id later) place first doc (living_rows (suc first) later) (ne_eqb place first (λ e. omega arith)) (none_after place (suc first) later (omega arith))

-- ---- the next places

module _ (pick : Option Picked) (version : ℕ) (after : Option ℕ) (writes : List Doc) where
  abbrev pub is_next : ℕ → Bool
  is_next place = is_candidate pick version writes place && is_above after place

  both : (above : Bool) (o : Option Doc) → option_map_or (λ doc. has_picked pick doc.source && above) o false ≡ (option_map_or (λ doc. has_picked pick doc.source) o false && above)
  both above None = refl
  both above (Some doc) = refl

  places_within : next_places pick version after writes ≡ filter is_next (from 0 (length (take version writes)))
  places_within =
      ap (map (λ row. row.0)) (filter_both (λ row. is_above after row.0) (λ row. has_picked pick row.1.source) (rows_at version writes))
      ∙ places_chosen (λ row. has_picked pick row.1.source && is_above after row.0) 0 (take version writes)
      ∙ filter_alike _ is_next 0 (length (take version writes)) (λ i h. both (is_above after i) (row_at version i writes))

  none_behind : (i : ℕ) → length (take version writes) ≤ i → is_next i ≡ false
  none_behind i h = ap (λ o. option_map_or (λ doc. has_picked pick doc.source) o false && is_above after i) (none_after i 0 (take version writes) (omega arith))

  -- the next places are those of the places up to one that pass, if no row comes behind it
  pub next_among : (n : ℕ) → length (take version writes) ≤ n → next_places pick version after writes ≡ filter is_next (from 0 n)
  next_among n h =
      let few = length (take version writes) in
      places_within
      ∙ sym (ap (filter is_next) (from_parts 0 few (n - few) few n (omega arith) (omega arith)) ∙ filter-append is_next (from 0 few) (from few (n - few))
      ∙ ap (λ l. filter is_next (from 0 few) ++ l) (filter_none is_next few (n - few) (λ i above below. none_behind i above)) ∙ append-nil (filter is_next (from 0 few)))

  -- where there is room for no more than those up to one
  pub next_cut : (place n : ℕ) → length (filter is_next (from 0 place)) ≡ n → filter is_next (from 0 place) ≡ take n (next_places pick version after writes)
  next_cut place n many =
      let few = length (take version writes) in
      enough is_next (from 0 place) (from place few) (from 0 (place + few)) n (from_parts 0 place few place (place + few) (omega arith) refl) many
      ∙ ap (take n) (sym (next_among (place + few) (omega arith)))

  -- none is among the places that are not above
  pub none_yet : (place : ℕ) → ((i : ℕ) → i < place → is_above after i ≡ false) → filter is_next (from 0 place) ≡ []
  none_yet place low = filter_none is_next 0 place (λ i h below. ap (λ b. is_candidate pick version writes i && b) (low i (omega arith)) ∙ and-false (is_candidate pick version writes i))

  -- and the next place is one where its row is a candidate
  pub next_more : (place : ℕ) (chosen : Bool) → chosen ≡ is_candidate pick version writes place → is_above after place ≡ true
      → filter is_next (from 0 (place + 1)) ≡ filter is_next (from 0 place) ++ cond chosen (place ∷ []) []
  next_more place chosen is above =
      let one : place + 1 ≡ suc place = omega arith in
      let passes : is_next place ≡ chosen = ap (λ b. is_candidate pick version writes place && b) above ∙ and-true (is_candidate pick version writes place) ∙ sym is in
      ap (λ n. filter is_next (from 0 n)) one ∙ ap (filter is_next) (from_more 0 place place (omega arith)) ∙ filter-append is_next (from 0 place) (place ∷ [])
      ∙ ap (λ b. filter is_next (from 0 place) ++ cond b (place ∷ []) []) passes
