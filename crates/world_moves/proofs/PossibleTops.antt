-- What a query finds in a shard is a reply that it can have.
use Rattle.std.proofs.Common.{◌≡◌, ℕ, zero, suc, ◌<◌, ◌≤◌, ◌^◌, Bool, true, false, not, cond, List, [], ◌∷◌, length, map, filter, take, Option, refl, ap, ◌∙◌, arith}
use Rattle.std.specs.Prelude.{◌&&◌, ◌==◌, nat_lt, nat_le}
use Rattle.std.specs.List.{list_all}
use Rattle.std.specs.Option.{option_map_or}
use Rattle.std.specs.Ordering.{is_lt, is_le, ordering_reverse}
use Rattle.std.specs.declared.cmp.Ordering.{Ordering}
use Rattle.std.specs.declared.cmp.Ordering.TheVariants.{Less, Equal, Greater}
use Rattle.std.proofs.lemmas.Bool.Decides.{nat_tests}
use Rattle.std.proofs.lemmas.Bool.{lt-ltb, le-leb}
use Rattle.std.proofs.lemmas.List.{length-map, length-take}
use Rattle.task_events.specs.declared.request.SlicePick.{SlicePick}
use Rattle.query_match.specs.declared.body.SearchBody.{SearchBody}
use Rattle.task_ids.specs.declared.doc.Doc.{Doc}
use Rattle.task_ids.specs.Rows.{Row, has_id, living_rows, rows_at}
use Rattle.task_events.specs.declared.request.HitKey.{HitKey}
use Rattle.task_events.specs.declared.request.ShardAsk.{ShardAsk}
use Rattle.task_events.specs.HitOrder.{hit_cmp, placed, in_hit_order, is_after}
use Rattle.task_events.specs.Answers.{hit_key, is_found, matching_keys, window, shard_top}
use Rattle.task_events.specs.QueryTask.{ascend, is_top_for}
use Rattle.search_phase.proofs.HitKeys.{hit_cmp_total, hit_cmp_equal}
use Rattle.search_phase.proofs.Cut.{list_all-in_hit_order}

-- ---- keys of different places ascend once they are in hit order

itself_same : (n : ℕ) → (n == n) ≡ true
itself_same n = grind (arith, nat_tests)

abbrev lacks : ℕ → List HitKey → Bool
lacks place keys = list_all (λ other. not (place == other.place)) keys

abbrev AreApart : List HitKey → Type 0
AreApart [] = Unit {0}
AreApart (key ∷ keys) = (lacks key.place keys ≡ true) × AreApart keys

both : (a b : Bool) → (a && b) ≡ true → (a ≡ true) × (b ≡ true)
both true true e = (refl, refl)
both true false e = absurd (cc)
both false b e = absurd (cc)

less : (r : Ordering) → is_le r ≡ true → (r ≡ Equal → ⊥) → is_lt r ≡ true
less Less e n = refl
less Equal e n = absurd (n refl)
less Greater e n = absurd (cc)

turned : (r : Ordering) → is_le r ≡ false → is_lt (ordering_reverse r) ≡ true
turned Less e = absurd (cc)
turned Equal e = absurd (cc)
turned Greater e = refl

itself : (n : ℕ) → not (n == n) ≡ true → ⊥
itself n e = let same : (n == n) ≡ true = grind (arith, nat_tests) in let f = rw same at e in cc

first_of_two : (a b : HitKey) → not (a.place == b.place) ≡ true → is_le (hit_cmp a b) ≡ true → is_lt (hit_cmp a b) ≡ true
first_of_two a b apart le = less (hit_cmp a b) le (λ e. itself a.place (ap (λ k. not (a.place == k.place)) (hit_cmp_equal a b e) ∙ apart))

second_of_two : (a b : HitKey) → is_le (hit_cmp a b) ≡ false → is_lt (hit_cmp b a) ≡ true
second_of_two a b gt = ap is_lt (hit_cmp_total.antisymm b a) ∙ turned (hit_cmp a b) gt

tail_ascends : (next : HitKey) (later : List HitKey) → ascend (next ∷ later) ≡ true → ascend later ≡ true
tail_ascends next [] up = refl
tail_ascends next (m ∷ ms) up = (both (is_lt (hit_cmp next m)) (ascend (m ∷ ms)) up).1

-- a key that stands after another, put where it stands among those after that one
under : (key next : HitKey) (later : List HitKey) → is_lt (hit_cmp next key) ≡ true → ascend (next ∷ later) ≡ true → ascend (placed key later) ≡ true → ascend (next ∷ placed key later) ≡ true
under key next [] lt up rest = rw lt refl
under key next (m ∷ ms) lt up rest = split (is_le (hit_cmp key m)) refl (both (is_lt (hit_cmp next m)) (ascend (m ∷ ms)) up) rest
  where
    split : (b : Bool) → is_le (hit_cmp key m) ≡ b → (is_lt (hit_cmp next m) ≡ true) × (ascend (m ∷ ms) ≡ true) → ascend (cond (is_le (hit_cmp key m)) (key ∷ m ∷ ms) (m ∷ placed key ms)) ≡ true
        → ascend (next ∷ cond (is_le (hit_cmp key m)) (key ∷ m ∷ ms) (m ∷ placed key ms)) ≡ true
    split true le two rest = let up : ascend (key ∷ m ∷ ms) ≡ true = rw le at rest in rw le (rw lt up)
    split false more two rest = let up : ascend (m ∷ placed key ms) ≡ true = rw more at rest in rw more (rw two.0 up)

placed_ascend : (key : HitKey) (l : List HitKey) → lacks key.place l ≡ true → ascend l ≡ true → ascend (placed key l) ≡ true
placed_ascend key [] apart up = refl
placed_ascend key (next ∷ later) apart up = here (is_le (hit_cmp key next)) refl (both (not (key.place == next.place)) (lacks key.place later) apart) (placed_ascend key later)
  where
    here : (b : Bool) → is_le (hit_cmp key next) ≡ b → (not (key.place == next.place) ≡ true) × (lacks key.place later ≡ true) → (lacks key.place later ≡ true → ascend later ≡ true → ascend (placed key later) ≡ true)
        → ascend (cond (is_le (hit_cmp key next)) (key ∷ next ∷ later) (next ∷ placed key later)) ≡ true
    here true le parts rest = rw le (rw (first_of_two key next parts.0 le) up)
    here false gt parts rest = rw gt (under key next later (second_of_two key next gt) up (rest parts.1 (tail_ascends next later up)))

order_ascends : (keys : List HitKey) → AreApart keys → ascend (in_hit_order keys) ≡ true
order_ascends [] a = refl
order_ascends (key ∷ keys) a = placed_ascend key (in_hit_order keys) (list_all-in_hit_order (λ other. not (key.place == other.place)) keys a.0) (order_ascends keys a.1)

take_ascends : (n : ℕ) (keys : List HitKey) → ascend keys ≡ true → ascend (take n keys) ≡ true
take_ascends zero keys up = refl
take_ascends (suc n) [] up = refl
take_ascends (suc zero) (key ∷ keys) up = refl
take_ascends (suc (suc n)) (key ∷ []) up = refl
take_ascends (suc (suc n)) (key ∷ next ∷ keys) up = let two = both (is_lt (hit_cmp key next)) (ascend (next ∷ keys)) up in rw two.0 (take_ascends (suc n) (next ∷ keys) two.1)

-- ---- the rows of a shard

module _ (body : SearchBody) (shard : ℕ) (test : Doc → Bool) where
  abbrev keys_of : List Row → List HitKey
  keys_of rows = map (hit_key body shard) (filter (λ row. test row.1) rows)

  lacks_lower : (place n : ℕ) (docs : List Doc) → place < n → lacks place (keys_of (living_rows n docs)) ≡ true
  lacks_lower place n [] l = refl
  lacks_lower place n (doc ∷ later) l = here (has_id doc.id later) (lacks_lower place (suc n) later (omega arith))
    where
      off : not (place == n) ≡ true
      off = grind (arith, nat_tests)

      one : (c : Bool) → lacks place (keys_of (living_rows (suc n) later)) ≡ true
          → lacks place (map (hit_key body shard) (cond c ((n, doc) ∷ filter (λ row. test row.1) (living_rows (suc n) later)) (filter (λ row. test row.1) (living_rows (suc n) later)))) ≡ true
      one true rest = rw off rest
      one false rest = rest

      here : (b : Bool) → lacks place (keys_of (living_rows (suc n) later)) ≡ true → lacks place (keys_of (cond b (living_rows (suc n) later) ((n, doc) ∷ living_rows (suc n) later))) ≡ true
      here true rest = rest
      here false rest = one (test doc) rest

  rows_apart : (n : ℕ) (docs : List Doc) → AreApart (keys_of (living_rows n docs))
  rows_apart n [] = tt
  rows_apart n (doc ∷ later) = here (has_id doc.id later) (rows_apart (suc n) later)
    where
      one : (c : Bool) → AreApart (keys_of (living_rows (suc n) later))
          → AreApart (map (hit_key body shard) (cond c ((n, doc) ∷ filter (λ row. test row.1) (living_rows (suc n) later)) (filter (λ row. test row.1) (living_rows (suc n) later))))
      one true rest = (lacks_lower n (suc n) later (omega arith), rest)
      one false rest = rest

      here : (b : Bool) → AreApart (keys_of (living_rows (suc n) later)) → AreApart (keys_of (cond b (living_rows (suc n) later) ((n, doc) ∷ living_rows (suc n) later)))
      here true rest = rest
      here false rest = one (test doc) rest

  -- each key is of the shard, and passes a test where the keys are filtered by it
  of_shard : (after : HitKey → Bool) (rows : List Row) → list_all (λ key. (key.shard == shard) && after key) (filter after (map (hit_key body shard) rows)) ≡ true
  of_shard after [] = refl
  of_shard after (row ∷ rows) = here (after (hit_key body shard row)) refl (of_shard after rows)
    where
      same : (shard == shard) ≡ true
      same = grind (arith, nat_tests)

      here : (b : Bool) → after (hit_key body shard row) ≡ b → list_all (λ key. (key.shard == shard) && after key) (filter after (map (hit_key body shard) rows)) ≡ true
          → list_all (λ key. (key.shard == shard) && after key) (cond b (hit_key body shard row ∷ filter after (map (hit_key body shard) rows)) (filter after (map (hit_key body shard) rows))) ≡ true
      here true e rest = rw same (rw e rest)
      here false e rest = rest

  few_rows : (n : ℕ) (docs : List Doc) → length (living_rows n docs) ≤ length docs
  few_rows n [] = omega arith
  few_rows n (doc ∷ later) = here (has_id doc.id later) (few_rows (suc n) later)
    where
      here : (b : Bool) → length (living_rows (suc n) later) ≤ length later → length (cond b (living_rows (suc n) later) ((n, doc) ∷ living_rows (suc n) later)) ≤ suc (length later)
      here true l = omega arith
      here false l = omega arith

few_left : {X : Type 0} (test : X → Bool) (xs : List X) → length (filter test xs) ≤ length xs
few_left test [] = omega arith
few_left test (x ∷ xs) = here (test x) (few_left test xs)
  where
    here : (b : Bool) → length (filter test xs) ≤ length xs → length (cond b (x ∷ filter test xs) (filter test xs)) ≤ suc (length xs)
    here true l = omega arith
    here false l = omega arith

lacks_left : (place : ℕ) (test : HitKey → Bool) (keys : List HitKey) → lacks place keys ≡ true → lacks place (filter test keys) ≡ true
lacks_left place test [] e = refl
lacks_left place test (key ∷ keys) e = here (test key) (both (not (place == key.place)) (lacks place keys) e) (lacks_left place test keys)
  where
    here : (b : Bool) → (not (place == key.place) ≡ true) × (lacks place keys ≡ true) → (lacks place keys ≡ true → lacks place (filter test keys) ≡ true)
        → lacks place (cond b (key ∷ filter test keys) (filter test keys)) ≡ true
    here true two rest = rw two.0 (rest two.1)
    here false two rest = rest two.1

apart_left : (test : HitKey → Bool) (keys : List HitKey) → AreApart keys → AreApart (filter test keys)
apart_left test [] a = tt
apart_left test (key ∷ keys) a = here (test key) (apart_left test keys a.1)
  where
    here : (b : Bool) → AreApart (filter test keys) → AreApart (cond b (key ∷ filter test keys) (filter test keys))
    here true rest = (lacks_left key.place test keys a.0, rest)
    here false rest = rest

all_taken : (test : HitKey → Bool) (n : ℕ) (keys : List HitKey) → list_all test keys ≡ true → list_all test (take n keys) ≡ true
all_taken test zero keys e = refl
all_taken test (suc n) [] e = refl
all_taken test (suc n) (key ∷ keys) e = let two = both (test key) (list_all test keys) e in rw two.0 (all_taken test n keys two.1)

cut : (n : ℕ) (keys : List HitKey) → nat_le (length (take n keys)) n ≡ true
cut n keys = let l = length-take n keys in le-leb (length (take n keys)) n (omega arith)

counted : (body : SearchBody) (slice : Option SlicePick) (shard version : ℕ) (writes : List Doc) (limit : ℕ) → length writes < limit → nat_lt (length (matching_keys body slice shard version writes)) limit ≡ true
counted body slice shard version writes limit few =
    let rows = living_rows 0 (take version writes) in
    let kept = filter (λ (row : Row). is_found body slice row.1) rows in
    let a = length-map kept (hit_key body shard) in
    let b = few_left (λ (row : Row). is_found body slice row.1) rows in
    let d = few_rows body shard (is_found body slice) 0 (take version writes) in
    let e = length-take version writes in
    lt-ltb (length (matching_keys body slice shard version writes)) limit (omega arith)

pub tops_possible : (ask : ShardAsk) (version : ℕ) (writes : List Doc) → option_map_or (λ asked. version == asked) ask.version true ≡ true → length writes < 2 ^ 32 → is_top_for ask (shard_top ask version writes) ≡ true
tops_possible ask version writes asked few = rw same (rw asked (rw count (rw short (rw each up))))
  where
    same : (ask.shard == ask.shard) ≡ true
    same = itself_same ask.shard

    count : nat_lt (length (matching_keys ask.body ask.slice ask.shard version writes)) (2 ^ 32) ≡ true
    count = counted ask.body ask.slice ask.shard version writes (2 ^ 32) few

    short : nat_le (length (take (window ask.body) (in_hit_order (filter (is_after ask.after) (matching_keys ask.body ask.slice ask.shard version writes))))) (window ask.body) ≡ true
    short = cut (window ask.body) (in_hit_order (filter (is_after ask.after) (matching_keys ask.body ask.slice ask.shard version writes)))

    each : list_all (λ key. (key.shard == ask.shard) && is_after ask.after key) (take (window ask.body) (in_hit_order (filter (is_after ask.after) (matching_keys ask.body ask.slice ask.shard version writes)))) ≡ true
    each = all_taken (λ key. (key.shard == ask.shard) && is_after ask.after key) (window ask.body) _ (list_all-in_hit_order (λ key. (key.shard == ask.shard) && is_after ask.after key) _
        (of_shard ask.body ask.shard (is_found ask.body ask.slice) (is_after ask.after) (filter (λ row. is_found ask.body ask.slice row.1) (rows_at version writes))))

    up : ascend (take (window ask.body) (in_hit_order (filter (is_after ask.after) (matching_keys ask.body ask.slice ask.shard version writes)))) ≡ true
    up = take_ascends (window ask.body) _ (order_ascends _ (apart_left (is_after ask.after) _ (rows_apart ask.body ask.shard (is_found ask.body ask.slice) 0 (take version writes))))
