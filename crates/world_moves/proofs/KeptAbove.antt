-- What contexts keep of a shard is not below the least version that any keeps of it.
use Rattle.std.proofs.Common.{◌≡◌, ℕ, zero, suc, ◌+◌, ◌-◌, ◌<◌, ◌≤◌, Bool, true, false, cond, List, [], ◌∷◌, map, get_or, min, Option, Some, None, refl, sym, ap, subst, ◌∙◌, arith}
use Rattle.std.specs.Prelude.{IfSome, ◌==◌, filter_map, slice_get, option_map, option_and_then}
use Rattle.std.specs.FinMap.{FinMap, entries, find, get-entries}
use Rattle.std.specs.FinMap as finite
use Rattle.std.specs.List.{AllByRecursion, cons_option, fold, reduce}
use Rattle.std.specs.List as lists
use Rattle.std.specs.Ordering.{eq_by_cmp}
use Rattle.std.proofs.Math.Nat.{min-le_left, min-le_right}
use Rattle.std.proofs.lemmas.Bool.Decides.{nat_tests}
use Rattle.task_ids.specs.declared.task_id.TaskId.{TaskId}
use Rattle.task_ids.specs.TaskIdOrder.{task_id_cmp}
use Rattle.task_events.specs.declared.context.Context.{Context}
use Rattle.task_events.specs.declared.reply.ShardCount.{ShardCount}
use Rattle.task_events.specs.Contexts.{version_kept}
use Rattle.task_events.specs.Counts.{Ascend, version_in}
use Rattle.scroll_table.specs.Contexts.{oldest_of}
use Rattle.world_moves.specs.Paging.{context_in}
use Rattle.world_moves.specs.Purging.{oldest_in}

-- ---- the least of some numbers

-- where the least is above a bound, each is
folded : (from least : ℕ) (xs : List ℕ) → from ≤ fold min least xs → (from ≤ least) × AllByRecursion (λ x. from ≤ x) xs
folded from least [] h = (h, tt)
folded from least (x ∷ xs) h =
    let rest = folded from (min least x) xs h in
    let low : from ≤ min least x = rest.0 in
    let first : min least x ≤ least = min-le_left least x in
    let second : min least x ≤ x = min-le_right least x in
    (omega (arith, low, first), (omega (arith, low, second), rest.1))

all_least : (from : ℕ) (xs : List ℕ) → IfSome (reduce min xs) (λ least. from ≤ least) → AllByRecursion (λ x. from ≤ x) xs
all_least from [] h = tt
all_least from (x ∷ xs) h = folded from x xs h

-- each of what a list tells, where some of it tells nothing
all_told : {A : Type 0} (P : ℕ → Type 0) (f : A → Option ℕ) (xs : List A) → AllByRecursion P (filter_map f xs) → AllByRecursion (λ x. IfSome (f x) P) xs
all_told P f [] all = tt
all_told P f (x ∷ xs) all = step (f x) all (all_told P f xs)
  where
    step : (o : Option ℕ) → AllByRecursion P (cons_option o (filter_map f xs)) → (AllByRecursion P (filter_map f xs) → AllByRecursion (λ y. IfSome (f y) P) xs) → IfSome o P × AllByRecursion (λ y. IfSome (f y) P) xs
    step None all later = (tt, later all)
    step (Some y) all later = (all.0, later all.1)

all_at : {A : Type 0} (P : A → Type 0) (xs : List A) (i : ℕ) (x : A) → AllByRecursion P xs → slice_get xs i ≡ Some x → P x
all_at P [] i x all e = absurd (cc)
all_at P (y ∷ ys) zero x all e = let same : y ≡ x = cc in subst P same all.0
all_at P (y ∷ ys) (suc i) x all e = all_at P ys i x all.1 e

-- what stands at a key is one of the values
all_found : (P : Context → Type 0) (q : TaskId) (es : List (TaskId × Context)) (c : Context) → AllByRecursion P (map (λ e. e.1) es) → find task_id_cmp q es ≡ Some c → P c
all_found P q [] c all e = absurd (cc)
all_found P q (entry ∷ es) c all e = by_test (eq_by_cmp task_id_cmp q entry.0) e (all_found P q es c all.1)
  where
    by_test : (b : Bool) → cond b (Some entry.1) (find task_id_cmp q es) ≡ Some c → (find task_id_cmp q es ≡ Some c → P c) → P c
    by_test true e later = let same : entry.1 ≡ c = cc in subst P same all.0
    by_test false e later = later e

-- ---- a context

-- the shards of a context are found by their numbers, since each is below the next
rest_ascends : (first : ShardCount) (rest : List ShardCount) → Ascend (first ∷ rest) → Ascend rest
rest_ascends first rest ascends k d within =
    let next : suc k + 1 ≡ suc (k + 1) = omega arith in
    subst (λ i. (get_or (first ∷ rest) (suc k) d).shard < (get_or (first ∷ rest) i d).shard) next (ascends (suc k) d (omega (arith, within)))

below_later : (first : ShardCount) (rest : List ShardCount) (i : ℕ) (n : ShardCount) → Ascend (first ∷ rest) → slice_get rest i ≡ Some n → first.shard < n.shard
below_later first [] i n ascends e = absurd (cc)
below_later first (next ∷ rest) zero n ascends e =
    let same : next ≡ n = cc in
    let here : first.shard < next.shard = ascends 0 first (omega arith) in
    subst (λ (m : ShardCount). first.shard < m.shard) same here
below_later first (next ∷ rest) (suc i) n ascends e =
    let here : first.shard < next.shard = ascends 0 first (omega arith) in
    let above : next.shard < n.shard = below_later next rest i n (rest_ascends first (next ∷ rest) ascends) e in
    omega (arith, here, above)

found_own : (counts : List ShardCount) (i : ℕ) (n : ShardCount) → Ascend counts → slice_get counts i ≡ Some n → lists.find (λ m. m.shard == n.shard) counts ≡ Some n
found_own [] i n ascends e = absurd (cc)
found_own (first ∷ rest) zero n ascends e =
    let same : first ≡ n = cc in
    let hit : (first.shard == n.shard) ≡ true = let own : first.shard ≡ n.shard = ap (λ (m : ShardCount). m.shard) same in grind (arith, nat_tests) in
    rw hit (ap Some same)
found_own (first ∷ rest) (suc i) n ascends e =
    let below : first.shard < n.shard = below_later first rest i n ascends e in
    let miss : (first.shard == n.shard) ≡ false = grind (arith, nat_tests) in
    rw miss (found_own rest i n (rest_ascends first rest ascends) e)

pub keeps_own : (c : Context) (i : ℕ) (n : ShardCount) → Ascend c.shards → slice_get c.shards i ≡ Some n → version_in n.shard c.shards ≡ Some n.version
keeps_own c i n ascends e = ap (option_map (λ (m : ShardCount). m.version)) (found_own c.shards i n ascends e)

-- ---- the tables

module _ (from : ℕ) (index : List ℕ) (shard : ℕ) (tables : List (FinMap task_id_cmp Context)) (low : IfSome (oldest_in index shard tables) (λ least. from ≤ least)) where
  abbrev KeepsAbove : Context → Type 0
  KeepsAbove c = IfSome (version_kept index shard c) (λ version. from ≤ version)

  in_table : (i : ℕ) (table : FinMap task_id_cmp Context) → slice_get tables i ≡ Some table → (id : TaskId) (c : Context) → finite.get table id ≡ Some c → KeepsAbove c
  in_table i table at id c e =
      let of_table = all_at (λ table. IfSome (oldest_of index shard table) (λ least. from ≤ least)) tables i table (all_told (λ least. from ≤ least) (oldest_of index shard) tables (all_least from (filter_map (oldest_of index shard) tables) low)) at in
      all_found KeepsAbove id (entries table) c
      (all_told (λ version. from ≤ version) (version_kept index shard) (map (λ e. e.1) (entries table)) (all_least from (filter_map (version_kept index shard) (map (λ e. e.1) (entries table))) of_table))
      (sym (get-entries table id) ∙ e)

  pub kept_above : (id : TaskId) (c : Context) → context_in tables id ≡ Some c → KeepsAbove c
  kept_above id c e = by_table (slice_get tables (id.node - 1)) refl e
    where
      by_table : (o : Option (FinMap task_id_cmp Context)) → slice_get tables (id.node - 1) ≡ o → option_and_then (λ table. finite.get table id) o ≡ Some c → KeepsAbove c
      by_table None at e = absurd (cc)
      by_table (Some table) at e = in_table (id.node - 1) table at id c e
