-- The keys of the rows of several shards are all different, and so one stands before the other in hit order.
use Rattle.std.proofs.Common.{◌≡◌, ◌≢◌, ℕ, suc, ◌≤◌, Bool, true, false, List, [], ◌∷◌, ◌++◌, refl, sym, ap, ◌∙◌, arith}
use Rattle.std.specs.Prelude.{map, filter, take}
use Rattle.std.specs.List.{AllByRecursion, flat_map}
use Rattle.query_match.specs.declared.body.SearchBody.{SearchBody}
use Rattle.task_ids.specs.declared.doc.Doc.{Doc}
use Rattle.task_ids.specs.Rows.{Row, has_id, living_rows}
use Rattle.task_ids.proofs.Each.{all_joined}
use Rattle.task_events.specs.declared.request.HitKey.{HitKey}
use Rattle.task_events.specs.declared.request.SearchAsk.{SearchAsk}
use Rattle.task_events.specs.HitOrder.{placed, in_hit_order}
use Rattle.task_events.specs.Answers.{hit_key, is_found, matching_keys, found_keys, ShardVersion}
use Rattle.search_phase.proofs.CursorCuts.{all-weaker, IsBefore, AreSpread}
use Rattle.search_phase.proofs.HitKeys.{stands_first, hits_linear}
use Rattle.search_phase.proofs.Ordered.{all-placed}
use Rattle.search_phase.proofs.Sorting.{by_test}

-- each differs from all that come later
abbrev pub AreDifferent : {X : Type 0} → List X → Type 0
AreDifferent [] = Unit {0}
AreDifferent (x ∷ xs) = AllByRecursion (λ later. x ≢ later) xs × AreDifferent xs

apart-append : {X : Type 0} (xs ys : List X) → AreDifferent xs → AreDifferent ys → AllByRecursion (λ x. AllByRecursion (λ y. x ≢ y) ys) xs → AreDifferent (xs ++ ys)
apart-append [] ys a b across = b
apart-append (x ∷ xs) ys a b across = (all_joined (λ later. x ≢ later) xs ys a.0 across.0, apart-append xs ys a.1 b across.1)

-- ---- one shard

module _ (body : SearchBody) (shard : ℕ) (test : Row → Bool) where
  abbrev keys_of : List Row → List HitKey
  keys_of rows = map (hit_key body shard) (filter test rows)

  -- the keys from a place on
  from_place : (place : ℕ) (writes : List Doc) → AllByRecursion (λ (key : HitKey). place ≤ key.place) (keys_of (living_rows place writes)) × AreDifferent (keys_of (living_rows place writes))
  from_place place [] = (tt, tt)
  from_place place (doc ∷ later) =
      let rest = from_place (suc place) later in
      let low = all-weaker (λ (key : HitKey). suc place ≤ key.place) (λ (key : HitKey). place ≤ key.place) (λ key h. omega (arith, h)) (keys_of (living_rows (suc place) later)) rest.0 in
      let differ = all-weaker (λ (key : HitKey). suc place ≤ key.place) (λ (key : HitKey). hit_key body shard (place, doc) ≢ key) (differs place doc) (keys_of (living_rows (suc place) later)) rest.0 in
      by_test (has_id doc.id later)
      (λ dead. rw dead (low, rest.1))
      (λ lives. by_test (test (place, doc))
      (λ found. rw (lives, found) ((omega arith, low), (differ, rest.1)))
      (λ passed. rw (lives, passed) (low, rest.1)))
    where
      differs : (place : ℕ) (doc : Doc) (key : HitKey) → suc place ≤ key.place → hit_key body shard (place, doc) ≢ key
      differs place doc key h e = let same : place ≡ key.place = ap (λ (k : HitKey). k.place) e in omega (arith, h, same)

  own_shard : (rows : List Row) → AllByRecursion (λ (key : HitKey). key.shard ≡ shard) (keys_of rows)
  own_shard [] = tt
  own_shard (row ∷ rows) =
      by_test (test row)
      (λ found. rw found (refl, own_shard rows))
      (λ passed. rw passed (own_shard rows))

-- ---- all shards

module _ (ask : SearchAsk) (writes : ℕ → List Doc) where
  abbrev pub keys_at : ShardVersion → List HitKey
  keys_at at = matching_keys ask.body ask.slice at.0 at.1 (writes at.0)

  other_shards : (shard : ℕ) (ats : List ShardVersion) → AllByRecursion (λ s. shard ≢ s) (map (λ (at : ShardVersion). at.0) ats) → AllByRecursion (λ (key : HitKey). shard ≢ key.shard) (flat_map keys_at ats)
  other_shards shard [] all = tt
  other_shards shard (at ∷ ats) all =
      all_joined (λ (key : HitKey). shard ≢ key.shard) (keys_at at) (flat_map keys_at ats)
      (all-weaker (λ (key : HitKey). key.shard ≡ at.0) (λ (key : HitKey). shard ≢ key.shard) (λ key own e. all.0 (e ∙ own)) (keys_at at)
      (own_shard ask.body at.0 (λ row. is_found ask.body ask.slice row.1) (living_rows 0 (take at.1 (writes at.0)))))
      (other_shards shard ats all.1)

  keys_apart : (ats : List ShardVersion) → AreDifferent (map (λ (at : ShardVersion). at.0) ats) → AreDifferent (flat_map keys_at ats)
  keys_apart [] apart = tt
  keys_apart (at ∷ ats) apart =
      let test : Row → Bool = λ row. is_found ask.body ask.slice row.1 in
      let rest = other_shards at.0 ats apart.0 in
      apart-append (keys_at at) (flat_map keys_at ats)
      (from_place ask.body at.0 test 0 (take at.1 (writes at.0))).1
      (keys_apart ats apart.1)
      (all-weaker (λ (key : HitKey). key.shard ≡ at.0) (λ (key : HitKey). AllByRecursion (λ other. key ≢ other) (flat_map keys_at ats)) (across at rest) (keys_at at)
      (own_shard ask.body at.0 test (living_rows 0 (take at.1 (writes at.0)))))
    where
      across : (at : ShardVersion) → AllByRecursion (λ (key : HitKey). at.0 ≢ key.shard) (flat_map keys_at ats) → (key : HitKey) → key.shard ≡ at.0 → AllByRecursion (λ other. key ≢ other) (flat_map keys_at ats)
      across at rest key own =
          all-weaker (λ (other : HitKey). at.0 ≢ other.shard) (λ other. key ≢ other) (λ other apart e. apart (sym own ∙ ap (λ (k : HitKey). k.shard) e)) (flat_map keys_at ats) rest

-- ---- in hit order

all-in_hit_order : (P : HitKey → Type 0) (keys : List HitKey) → AllByRecursion P keys → AllByRecursion P (in_hit_order keys)
all-in_hit_order P [] all = tt
all-in_hit_order P (key ∷ keys) all = all-placed P key (in_hit_order keys) all.0 (all-in_hit_order P keys all.1)

-- of different keys the one that stands first stands before the other
before_other : (a b : HitKey) → stands_first a b ≡ true → a ≢ b → IsBefore a b
before_other a b first differ = by_test (stands_first b a) (λ back. absurd (differ (hits_linear.same a b first back))) (λ no. no)

before_all : (a b : HitKey) → IsBefore a b → (keys : List HitKey) → AllByRecursion (IsBefore b) keys → AllByRecursion (IsBefore a) keys
before_all a b h keys all = all-weaker (IsBefore b) (IsBefore a) further keys all
  where
    further : (c : HitKey) → IsBefore b c → IsBefore a c
    further c k =
        by_test (stands_first c a)
        (λ back. absurd (let f : false ≡ true = sym h ∙ hits_linear.trans b c a (hits_linear.turn c b k) back in cc))
        (λ no. no)

placed-spread : (key : HitKey) (keys : List HitKey) → AllByRecursion (λ other. key ≢ other) keys → AreSpread keys → AreSpread (placed key keys)
placed-spread key [] differ spread = (tt, tt)
placed-spread key (next ∷ later) differ spread =
    by_test (stands_first key next)
    (λ first. let before = before_other key next first differ.0 in rw first ((before, before_all key next before later spread.0), spread))
    (λ behind. rw behind (all-placed (IsBefore next) key later behind spread.0, placed-spread key later differ.1 spread.1))

in_hit_order-spread : (keys : List HitKey) → AreDifferent keys → AreSpread (in_hit_order keys)
in_hit_order-spread [] apart = tt
in_hit_order-spread (key ∷ keys) apart = placed-spread key (in_hit_order keys) (all-in_hit_order (λ other. key ≢ other) keys apart.0) (in_hit_order-spread keys apart.1)

-- the keys that a search finds in different shards stand one before the other
pub found_spread : (ask : SearchAsk) (writes : ℕ → List Doc) (ats : List ShardVersion) → AreDifferent (map (λ (at : ShardVersion). at.0) ats) → AreSpread (found_keys ask writes ats)
found_spread ask writes ats apart = in_hit_order-spread (flat_map (keys_at ask writes) ats) (keys_apart ask writes ats apart)
