-- A map from task ids, as a tree keeps it and as contracts see it: the finite map of its entries.
use Rattle.std.proofs.Common.{◌≡◌, ℕ, List, [], ◌∷◌, Option, Some, None, Bool, true, false, ◌&&◌, cond, refl, sym, ap, subst, ◌∙◌, T}
use Rattle.std.specs.Ordering.{nat_cmp, is_lt}
use Rattle.std.specs.Cmp.{IsTotalOrder, nat_cmp_total, eq_by_cmp_equiv}
use Rattle.std.specs.Map.{lookup, keys_of}
use Rattle.std.specs.BTreeMap.{is_at}
use Rattle.std.specs.List.{AllByRecursion}
use Rattle.std.specs.List.Sorted.{IsStrictlySortedBy}
use Rattle.std.specs.FinMap.{get, insert, remove, entries, entries_sorted, from_entries, find, is_sorted, get-entries, get-from_entries, get-insert, get-remove, same_map}
use Rattle.std.specs.FinMap.Entries.{same_entries, below_all}
use Rattle.std.specs.declared.cmp.Ordering.TheVariants.{Less}
use Rattle.std.proofs.lemmas.Map.Lookups.{CmpEqualImpliesEq, exact_pairs, exact_unsigned}
use Rattle.std.proofs.lemmas.Cmp.{on_total, then_total}
use Rattle.task_ids.proofs.SameId.{same_id}
use Rattle.task_ids.specs.TaskIdOrder.{task_id_cmp}
use Rattle.task_ids.specs.declared.task_id.TaskId.{TaskId}

-- ids that compare alike are one
pub exact_ids : CmpEqualImpliesEq task_id_cmp
exact_ids a b h =
    let same = exact_pairs nat_cmp nat_cmp exact_unsigned exact_unsigned (a.node, a.number) (b.node, b.number) h in
    same_id a b (ap (λ (p : ℕ × ℕ). p.0) same) (ap (λ (p : ℕ × ℕ). p.1) same)

pub ids_total : IsTotalOrder task_id_cmp
ids_total = then_total (on_total (λ t. t.node) nat_cmp_total) (on_total (λ t. t.number) nat_cmp_total)

-- what the entries have at an id
abbrev pub value_at : {X : Type 0} → List (TaskId × X) → TaskId → Option X
value_at es t = lookup (is_at (task_id_cmp t)) es

find_id : {X : Type 0} (es : List (TaskId × X)) (t : TaskId) → find task_id_cmp t es ≡ value_at es t
find_id [] t = refl
find_id (e ∷ es) t = ap (cond (is_at (task_id_cmp t) e.0) (Some e.1)) (find_id es t)

-- what the map that the entries make has at an id
pub get_id : {X : Type 0} (es : List (TaskId × X)) (t : TaskId) → get (from_entries {R = task_id_cmp} es) t ≡ value_at es t
get_id es t = get-from_entries ids_total es t ∙ find_id es t

-- entries that differ at one id make maps that differ there
pub one_put : {X : Type 0} (es fs : List (TaskId × X)) (t : TaskId) (x : X) → ((q : TaskId) → value_at fs q ≡ cond (is_at (task_id_cmp t) q) (Some x) (value_at es q)) → from_entries {R = task_id_cmp} fs ≡ insert (from_entries es) t x
one_put es fs t x h = same_map ids_total exact_ids _ _ (λ q.
    get_id fs q ∙ h q ∙ ap (λ b. cond b (Some x) (value_at es q)) ((eq_by_cmp_equiv ids_total).symm t q)
    ∙ sym (get-insert ids_total (from_entries es) t x q ∙ ap (cond (is_at (task_id_cmp q) t) (Some x)) (get_id es q)))

pub one_removed : {X : Type 0} (es fs : List (TaskId × X)) (t : TaskId) → ((q : TaskId) → value_at fs q ≡ cond (is_at (task_id_cmp t) q) None (value_at es q)) → from_entries {R = task_id_cmp} fs ≡ remove (from_entries es) t
one_removed es fs t h = same_map ids_total exact_ids _ _ (λ q.
    get_id fs q ∙ h q ∙ ap (λ b. cond b None (value_at es q)) ((eq_by_cmp_equiv ids_total).symm t q)
    ∙ sym (get-remove ids_total (from_entries es) t q ∙ ap (cond (is_at (task_id_cmp q) t) None) (get_id es q)))

both : (a b : Bool) → T a → T b → T (a && b)
both true b p q = q
both false b p q = absurd p

below : {X : Type 0} (t : TaskId) (es : List (TaskId × X)) → AllByRecursion (λ q. task_id_cmp t q ≡ Less) (keys_of es) → T (below_all task_id_cmp t es)
below t [] h = tt
below t (e ∷ es) h = both _ _ (subst (λ r. T (is_lt r)) (sym h.0) tt) (below t es h.1)

rising : {X : Type 0} (es : List (TaskId × X)) → IsStrictlySortedBy task_id_cmp (keys_of es) → T (is_sorted task_id_cmp es)
unfolding IsStrictlySortedBy
rising [] h = tt
rising (e ∷ es) h = both _ _ (below e.0 es h.0) (rising es h.1)

-- entries that stand in the order of their ids are those of the map that they make
pub entries_of_rising : {X : Type 0} (es : List (TaskId × X)) → IsStrictlySortedBy task_id_cmp (keys_of es) → entries (from_entries {R = task_id_cmp} es) ≡ es
entries_of_rising es h = same_entries task_id_cmp ids_total exact_ids _ es (entries_sorted (from_entries es)) (rising es h) (λ q.
    sym (get-entries (from_entries es) q) ∙ get-from_entries ids_total es q)
