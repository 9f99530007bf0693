-- The least version that is noted is the least one that a context keeps.
use Rattle.std.proofs.Common.{◌≡◌, ℕ, suc, ◌≤◌, ◌⊎◌, inl, inr, List, [], ◌∷◌, map, filter_map, min, fold, Bool, true, false, ◌&&◌, cond, Option, None, Some, IfSome, IfNone, refl, sym, ap, arith, ◌∙◌, T, eq-eqb}
use Rattle.std.specs.Prelude.{◌==◌}
use Rattle.std.specs.Ordering.{is_lt}
use Rattle.std.specs.declared.cmp.Ordering.{Ordering}
use Rattle.std.specs.declared.cmp.Ordering.TheVariants.{Less, Equal, Greater}
use Rattle.std.specs.Cmp.{eq_by_cmp_equiv}
use Rattle.std.specs.List.{All, AllByRecursion, cons_option, reduce}
use Rattle.std.specs.List.Sorted.{IsStrictlySortedBy}
use Rattle.std.specs.Map.{lookup, keys_of, values_of}
use Rattle.std.specs.BTreeMap.{is_at}
use Rattle.std.specs.FinMap as finite
use Rattle.std.specs.FinMap.{FinMap, entries, entries_sorted, get-entries, is_sorted, find}
use Rattle.std.specs.FinMap.Entries.{below_all}
use Rattle.std.proofs.lemmas.Bool.Decides.{nat_tests}
use Rattle.std.proofs.lemmas.Map.Keys.{IsDistinct-from_sorted}
use Rattle.std.proofs.lemmas.Map.Views.{All-values_from_lookup}
use Rattle.task_ids.specs.TaskIdOrder.{task_id_cmp}
use Rattle.task_ids.specs.declared.task_id.TaskId.{TaskId}
use Rattle.task_ids.proofs.TaskIdKeys.{ids_total}
use Rattle.task_events.specs.declared.context.Context.{Context}
use Rattle.task_events.specs.Contexts.{version_kept}
use Rattle.scroll_table.specs.declared.versions.Kept.{Kept}
use Rattle.scroll_table.specs.declared.versions.Versions.{Versions}
use Rattle.scroll_table.specs.Versions.{keeps, is_version, is_kept}

-- ---- the least of a list

abbrev In : ℕ → List ℕ → Type 0
In v [] = ⊥
In v (x ∷ xs) = (v ≡ x) ⊎ In v xs

abbrev Low : ℕ → List ℕ → Type 0
Low v [] = Unit {0}
Low v (x ∷ xs) = (v ≤ x) × Low v xs

least_so_far : (a v : ℕ) (xs : List ℕ) → v ≤ a → Low v xs → (v ≡ a) ⊎ In v xs → fold min a xs ≡ v
least_so_far a v [] le low (inl e) = sym e
least_so_far a v [] le low (inr h) = absurd h
least_so_far a v (x ∷ xs) le low (inl e) = let below : v ≤ x = low.0 in least_so_far (min a x) v xs (omega arith) low.1 (inl (omega arith))
least_so_far a v (x ∷ xs) le low (inr (inl e)) = let below : v ≤ x = low.0 in least_so_far (min a x) v xs (omega arith) low.1 (inl (omega arith))
least_so_far a v (x ∷ xs) le low (inr (inr h)) = let below : v ≤ x = low.0 in least_so_far (min a x) v xs (omega arith) low.1 (inr h)

least_is : (v : ℕ) (xs : List ℕ) → Low v xs → In v xs → reduce min xs ≡ Some v
least_is v [] low h = absurd h
least_is v (x ∷ xs) low h = ap Some (least_so_far x v xs low.0 low.1 h)

-- ---- the entries of a map stand at keys that differ

less : (r : Ordering) → T (is_lt r) → r ≡ Less
less Less h = refl
less Equal h = absurd h
less Greater h = absurd h

first : (a b : Bool) → T (a && b) → T a
first true b h = tt
first false b h = h

second : (a b : Bool) → T (a && b) → T b
second true b h = h
second false b h = absurd h

above : (t : TaskId) (es : List (TaskId × Context)) → T (below_all task_id_cmp t es) → AllByRecursion (λ q. task_id_cmp t q ≡ Less) (keys_of es)
above t [] h = tt
above t (e ∷ es) h = (less (task_id_cmp t e.0) (first (is_lt (task_id_cmp t e.0)) (below_all task_id_cmp t es) h), above t es (second (is_lt (task_id_cmp t e.0)) (below_all task_id_cmp t es) h))

rising : (es : List (TaskId × Context)) → T (is_sorted task_id_cmp es) → IsStrictlySortedBy task_id_cmp (keys_of es)
unfolding IsStrictlySortedBy
rising [] h = tt
rising (e ∷ es) h = (above e.0 es (first (below_all task_id_cmp e.0 es) (is_sorted task_id_cmp es) h), rising es (second (below_all task_id_cmp e.0 es) (is_sorted task_id_cmp es) h))

found : (es : List (TaskId × Context)) (t : TaskId) → find task_id_cmp t es ≡ lookup (is_at (task_id_cmp t)) es
found [] t = refl
found (e ∷ es) t = ap (cond (is_at (task_id_cmp t) e.0) (Some e.1)) (found es t)

-- ---- what the contexts keep

if_some : (o : Option Context) (P : Context → Type 0) → ((c : Context) → o ≡ Some c → P c) → IfSome o P
if_some None P h = tt
if_some (Some c) P h = h c refl

module _ (f : Context → Option ℕ) where
  none_at : (xs : List Context) → All (λ c. f c ≡ None) xs → filter_map f xs ≡ []
  none_at [] all = refl
  none_at (x ∷ xs) all = go (f x) (all 0 x (omega arith)) (none_at xs (λ k d within. all (suc k) d (omega arith)))
    where
      go : (o : Option ℕ) → o ≡ None → filter_map f xs ≡ [] → cons_option o (filter_map f xs) ≡ []
      go None e rest = rest
      go (Some w) e rest = absurd (cc)

  low_at : (v : ℕ) (xs : List Context) → All (λ c. (w : ℕ) → f c ≡ Some w → v ≤ w) xs → Low v (filter_map f xs)
  low_at v [] all = tt
  low_at v (x ∷ xs) all = go (f x) refl (low_at v xs (λ k d within. all (suc k) d (omega arith)))
    where
      go : (o : Option ℕ) → f x ≡ o → Low v (filter_map f xs) → Low v (cons_option o (filter_map f xs))
      go None e rest = rest
      go (Some w) e rest = (all 0 x (omega arith) w e, rest)

  in_at : (v : ℕ) (test : TaskId → Bool) (es : List (TaskId × Context)) (c : Context) → lookup test es ≡ Some c → f c ≡ Some v → In v (filter_map f (map (λ e. e.1) es))
  in_at v test [] c there is = absurd (cc)
  in_at v test (e ∷ es) c there is = go (test e.0) there (λ same. in_at v test es c same is)
    where
      later : (o : Option ℕ) (ws : List ℕ) → In v ws → In v (cons_option o ws)
      later None ws h = h
      later (Some w) ws h = inr h

      here : (o : Option ℕ) (ws : List ℕ) → o ≡ Some v → In v (cons_option o ws)
      here None ws e = absurd (cc)
      here (Some w) ws e = inl (cc)

      go : (b : Bool) → cond b (Some e.1) (lookup test es) ≡ Some c → (lookup test es ≡ Some c → In v (filter_map f (map (λ d. d.1) es))) → In v (cons_option (f e.1) (filter_map f (map (λ d. d.1) es)))
      go true same rest = here (f e.1) (filter_map f (map (λ d. d.1) es)) (ap f one ∙ is)
        where
          one : e.1 ≡ c
          one = cc
      go false same rest = later (f e.1) (filter_map f (map (λ d. d.1) es)) (rest same)

kept_of : (v : ℕ) (o : Option ℕ) → is_version v o ≡ true → o ≡ Some v
kept_of v None e = absurd (cc)
kept_of v (Some w) e = let same : w ≡ v = grind (arith, nat_tests) in ap Some same

there_kept : (index : List ℕ) (k : Kept) (o : Option Context) → is_kept index k o ≡ true → (c : Context) × (o ≡ Some c) × (version_kept index k.shard c ≡ Some k.version)
there_kept index k None e = absurd (cc)
there_kept index k (Some c) e = (c, refl, kept_of k.version (version_kept index k.shard c) e)

none_kept : (o : Option ℕ) → ((w : ℕ) → is_version w o ≡ false) → o ≡ None
none_kept None h = refl
none_kept (Some w) h = absurd (both (w == w) (eq-eqb w w refl) (h w))
  where
    both : (b : Bool) → b ≡ true → b ≡ false → ⊥
    both b e g = absurd (cc)

module _ (m : FinMap task_id_cmp Context) (a : Versions) (index : List ℕ) (shard : ℕ) (are : (k : Kept) → keeps a index k ≡ is_kept index k (finite.get m k.id)) where
  abbrev f : Context → Option ℕ
  f c = version_kept index shard c

  abbrev es : List (TaskId × Context)
  es = entries m

  at : (q : TaskId) → finite.get m q ≡ lookup (is_at (task_id_cmp q)) es
  at q = get-entries m q ∙ found es q

  noted : (q : TaskId) (c : Context) (w : ℕ) → lookup (is_at (task_id_cmp q)) es ≡ Some c → keeps a index (record { shard = shard; version = w; id = q }) ≡ is_version w (f c)
  noted q c w there = are (record { shard = shard; version = w; id = q }) ∙ ap (is_kept index (record { shard = shard; version = w; id = q })) (at q ∙ there)

  each : (P : Context → Type 0) → ((q : TaskId) (c : Context) → lookup (is_at (task_id_cmp q)) es ≡ Some c → P c) → All P (values_of es)
  each P h = All-values_from_lookup (eq_by_cmp_equiv ids_total) P es (IsDistinct-from_sorted task_id_cmp (keys_of es) (rising es (entries_sorted m))) (λ q. if_some (lookup (is_at (task_id_cmp q)) es) P (h q))

  pub least_kept : (result : Option ℕ) → IfSome result (λ v. (id : TaskId) × (keeps a index (record { shard = shard; version = v; id = id }) ≡ true))
      → IfSome result (λ v. (k : Kept) → k.shard ≡ shard → keeps a index k ≡ true → v ≤ k.version) → IfNone result ((k : Kept) → k.shard ≡ shard → keeps a index k ≡ false)
      → result ≡ reduce min (filter_map f (map (λ e. e.1) es))
  least_kept None kept least none =
      sym (ap (reduce min) (none_at f (values_of es) (each (λ c. f c ≡ None) (λ q c there. none_kept (f c) (λ w. sym (noted q c w there) ∙ none (record { shard = shard; version = w; id = q }) refl)))))
  least_kept (Some v) kept least none =
      let k : Kept = record { shard = shard; version = v; id = kept.0 } in
      let (c, there, is) = there_kept index k (finite.get m kept.0) (sym (are k) ∙ kept.1) in
      sym (least_is v (filter_map f (values_of es)) (low_at f v (values_of es) (each (λ c. (w : ℕ) → f c ≡ Some w → v ≤ w) low))
      (in_at f v (is_at (task_id_cmp kept.0)) es c (sym (at kept.0) ∙ there) is))
    where
      low : (q : TaskId) (c : Context) → lookup (is_at (task_id_cmp q)) es ≡ Some c → (w : ℕ) → f c ≡ Some w → v ≤ w
      low q c there w is = least (record { shard = shard; version = w; id = q }) refl (noted q c w there ∙ ap (is_version w) is ∙ eq-eqb w w refl)
