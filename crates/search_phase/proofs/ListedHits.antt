-- Each key that a search finds has its hit, so hits are cut as keys are.
use Rattle.std.proofs.Common.{◌≡◌, ◌≢◌, ℕ, zero, suc, Bool, true, false, List, [], ◌∷◌, Option, Some, None, refl, sym, ap, ◌∙◌, inl, inr}
use Rattle.std.specs.Prelude.{map, filter, filter_map, take, drop, is_some, option_map, ◌==◌}
use Rattle.std.specs.List.{AllByRecursion, flat_map, list_all}
use Rattle.std.specs.Map.{lookup}
use Rattle.std.proofs.lemmas.Bool.{eq-eqb, ne_eqb}
use Rattle.query_match.specs.declared.body.SearchBody.{SearchBody}
use Rattle.task_ids.specs.declared.doc.Doc.{Doc}
use Rattle.task_ids.specs.Rows.{Row, rows_at}
use Rattle.task_events.specs.declared.request.HitKey.{HitKey}
use Rattle.task_events.specs.declared.request.SearchAsk.{SearchAsk}
use Rattle.task_events.specs.Answers.{hit_key, is_found, found_keys, hit_of, ShardVersion}
use Rattle.search_phase.proofs.Cut.{list_all-in_hit_order}
use Rattle.search_phase.proofs.Lookups.{IsIn, at_each, list_all-flat_map}
use Rattle.search_phase.proofs.Sorting.{by_test}
use Rattle.search_phase.proofs.KeysApart.{AreDifferent, keys_at}

-- ---- lists

module _ {X Y : Type 0} (f : X → Option Y) where
  pub filter_map-take : (n : ℕ) (xs : List X) → list_all (λ x. is_some (f x)) xs ≡ true → filter_map f (take n xs) ≡ take n (filter_map f xs)
  filter_map-take zero xs all = refl
  filter_map-take (suc n) [] all = refl
  filter_map-take (suc n) (x ∷ xs) all = of_value (f x) refl (filter_map-take n xs)
    where
      of_value : (o : Option Y) → f x ≡ o → (list_all (λ x. is_some (f x)) xs ≡ true → filter_map f (take n xs) ≡ take n (filter_map f xs)) → filter_map f (take (suc n) (x ∷ xs)) ≡ take (suc n) (filter_map f (x ∷ xs))
      of_value None e later = absurd (let g : false ≡ true = rw e at all in cc)
      of_value (Some y) e later = rw e (ap (λ l. y ∷ l) (later (rw e at all)))

  pub filter_map-drop : (n : ℕ) (xs : List X) → list_all (λ x. is_some (f x)) xs ≡ true → filter_map f (drop n xs) ≡ drop n (filter_map f xs)
  filter_map-drop zero xs all = refl
  filter_map-drop (suc n) [] all = refl
  filter_map-drop (suc n) (x ∷ xs) all = of_value (f x) refl (filter_map-drop n xs)
    where
      of_value : (o : Option Y) → f x ≡ o → (list_all (λ x. is_some (f x)) xs ≡ true → filter_map f (drop n xs) ≡ drop n (filter_map f xs)) → filter_map f (drop (suc n) (x ∷ xs)) ≡ drop (suc n) (filter_map f (x ∷ xs))
      of_value None e later = absurd (let g : false ≡ true = rw e at all in cc)
      of_value (Some y) e later = rw e (later (rw e at all))

some_mapped : {X Y : Type 0} (f : X → Y) (o : Option X) → is_some (option_map f o) ≡ is_some o
some_mapped f None = refl
some_mapped f (Some x) = refl

-- ---- rows and versions

row_there : (row : Row) (rows : List Row) → IsIn row rows → is_some (lookup (λ other. row.0 == other) rows) ≡ true
row_there row [] here = absurd here
row_there row (next ∷ later) (inl same) = let own : (row.0 == next.0) ≡ true = eq-eqb row.0 next.0 (ap (λ (r : Row). r.0) same) in rw own refl
row_there row (next ∷ later) (inr there) =
    by_test (row.0 == next.0)
    (λ same. rw same refl)
    (λ other. rw other (row_there row later there))

differs_from : (shard : ℕ) (at : ShardVersion) (ats : List ShardVersion) → AllByRecursion (λ s. shard ≢ s) (map (λ (a : ShardVersion). a.0) ats) → IsIn at ats → shard ≢ at.0
differs_from shard at [] all here = absurd here
differs_from shard at (next ∷ later) all (inl same) = λ e. all.0 (e ∙ ap (λ (a : ShardVersion). a.0) same)
differs_from shard at (next ∷ later) all (inr there) = differs_from shard at later all.1 there

-- the version of a shard is found by its number
version_there : (at : ShardVersion) (ats : List ShardVersion) → AreDifferent (map (λ (a : ShardVersion). a.0) ats) → IsIn at ats → lookup (λ shard. at.0 == shard) ats ≡ Some at.1
version_there at [] apart here = absurd here
version_there at (next ∷ later) apart (inl same) =
    let own : (at.0 == next.0) ≡ true = eq-eqb at.0 next.0 (ap (λ (a : ShardVersion). a.0) same) in
    rw own (ap (λ (a : ShardVersion). Some a.1) (sym same))
version_there at (next ∷ later) apart (inr there) =
    let other : (at.0 == next.0) ≡ false = ne_eqb at.0 next.0 (λ e. differs_from next.0 at later apart.0 there (sym e)) in
    rw other (version_there at later apart.1 there)

-- ---- keys

keys_pass : (p : HitKey → Bool) (body : SearchBody) (shard : ℕ) (test : Row → Bool) (rows : List Row) → ((row : Row) → IsIn row rows → p (hit_key body shard row) ≡ true) → list_all p (map (hit_key body shard) (filter test rows)) ≡ true
keys_pass p body shard test [] each = refl
keys_pass p body shard test (row ∷ rows) each =
    let rest : list_all p (map (hit_key body shard) (filter test rows)) ≡ true = keys_pass p body shard test rows (λ other there. each other (inr there)) in
    let first : p (hit_key body shard row) ≡ true = each row (inl refl) in
    by_test (test row)
    (λ found. rw (found, first) rest)
    (λ passed. rw passed rest)

module _ (ask : SearchAsk) (writes : ℕ → List Doc) (ats : List ShardVersion) where
  abbrev test : Row → Bool
  test row = is_found ask.body ask.slice row.1

  -- what is so of the keys of each shard is so of all
  each_found : (p : HitKey → Bool) → ((at : ShardVersion) → IsIn at ats → (row : Row) → IsIn row (rows_at at.1 (writes at.0)) → p (hit_key ask.body at.0 row) ≡ true) → list_all p (found_keys ask writes ats) ≡ true
  each_found p each =
      list_all-in_hit_order p (flat_map (keys_at ask writes) ats)
      (list_all-flat_map p (keys_at ask writes) ats (λ at here. keys_pass p ask.body at.0 test (rows_at at.1 (writes at.0)) (each at here)))

  -- each key has its hit
  pub each_has_hit : AreDifferent (map (λ (at : ShardVersion). at.0) ats) → list_all (λ key. is_some (hit_of ask.index writes ats key)) (found_keys ask writes ats) ≡ true
  each_has_hit apart = each_found (λ key. is_some (hit_of ask.index writes ats key)) of_row
    where
      of_row : (at : ShardVersion) → IsIn at ats → (row : Row) → IsIn row (rows_at at.1 (writes at.0)) → is_some (hit_of ask.index writes ats (hit_key ask.body at.0 row)) ≡ true
      of_row at here row there =
          rw (version_there at ats apart here) (some_mapped (λ (doc : Doc). record { index = ask.index; doc = doc; place = row.0 }) (lookup (λ other. row.0 == other) (rows_at at.1 (writes at.0))) ∙ row_there row (rows_at at.1 (writes at.0)) there)

  -- each key is of one of the shards
  pub each_of_shard : (p : ℕ → Bool) → AllByRecursion (λ (at : ShardVersion). p at.0 ≡ true) ats → list_all (λ (key : HitKey). p key.shard) (found_keys ask writes ats) ≡ true
  each_of_shard p all = each_found (λ (key : HitKey). p key.shard) (λ at here row there. at_each (λ (at : ShardVersion). p at.0 ≡ true) at ats all here)
