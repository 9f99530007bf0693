-- Tasks that stand below one another, up to a task at the top, are never the same twice. So there are at most as many of them as there are
-- tasks, and nothing stands below so many levels.
use Rattle.std.proofs.Common.{◌≡◌, ℕ, zero, suc, ◌+◌, ◌≤◌, Bool, true, false, not, ◌||◌, List, [], ◌∷◌, map, filter, length, Option, None, Some, cond, ◌⊎◌, inl, inr, ⊎_elim, refl, sym, ap, subst, ◌∙◌, arith}
use Rattle.std.specs.Cmp.{IsEquivalence}
use Rattle.std.specs.List.{list_any, AllByRecursion, IsDistinct}
use Rattle.std.proofs.lemmas.Bool.{cases_Bool, or_cases, or_right}
use Rattle.std.proofs.lemmas.List.{length-map}
use Rattle.std.proofs.lemmas.Map.Made.{length-le_from_is_member}
use Rattle.serde_json.specs.Data.{Data, object, Members, no_members, put}
use Rattle.task_ids.specs.TaskId.{task_id_text}
use Rattle.task_ids.specs.declared.task_id.TaskId.{TaskId}
use Rattle.task_ids.specs.declared.task_info.TaskInfo.{TaskInfo}
use Rattle.task_ids.proofs.Patterns.{or_false}
use Rattle.task_ids.proofs.SameId.{same_id-from_test, test-from_same_id}
use Rattle.tasks_api.specs.Filters.{is_task, is_child_of}
use Rattle.tasks_api.specs.Objects.{with_each}
use Rattle.tasks_api.specs.Lists.{children_of, tree_json, is_top, parents_json, HasEachOnce}
use Rattle.tasks_api.proofs.TreeLemmas.{leaf}

-- ---- ids

itself : (t : TaskId) → is_task t t ≡ true
itself t = test-from_same_id t t refl

turned : (t u : TaskId) → is_task t u ≡ true → is_task u t ≡ true
turned t u h = test-from_same_id u t (sym (same_id-from_test t u h))

either_way : (t u : TaskId) → is_task t u ≡ is_task u t
either_way t u = ⊎_elim
    (λ (same : is_task t u ≡ true). same ∙ sym (turned t u same))
    (λ (other : is_task t u ≡ false). ⊎_elim (λ (same : is_task u t ≡ true). ap (λ b. b) (turned u t same) ∙ sym same) (λ (also : is_task u t ≡ false). other ∙ sym also) (cases_Bool (is_task u t)))
    (cases_Bool (is_task t u))

equal_ids : IsEquivalence is_task
equal_ids = record { refl = itself; symm = either_way; congr = λ t u v h. ap (λ k. is_task k v) (same_id-from_test t u h) }

-- ---- rows

-- a task is one of these
abbrev IsIn : TaskInfo → List TaskInfo → Type 0
IsIn row [] = ⊥
IsIn row (other ∷ rows) = (row ≡ other) ⊎ IsIn row rows

apart : (rows : List TaskInfo) (t : TaskId) (row : TaskInfo) → AllByRecursion (λ k. is_task t k ≡ false) (map (λ r. r.id) rows) → IsIn row rows → is_task t row.id ≡ false
apart [] t row all within = absurd within
apart (other ∷ rows) t row all (inl same) = subst (λ (r : TaskInfo). is_task t r.id ≡ false) (sym same) all.0
apart (other ∷ rows) t row all (inr later) = apart rows t row all.1 later

-- where each id stands once, tasks with one id are one
one_row : (rows : List TaskInfo) (a b : TaskInfo) → HasEachOnce rows → IsIn a rows → IsIn b rows → is_task a.id b.id ≡ true → a ≡ b
unfolding IsDistinct
one_row [] a b once within also same = absurd within
one_row (row ∷ rows) a b once (inl here) (inl also) same = here ∙ sym also
one_row (row ∷ rows) a b once (inl here) (inr later) same =
    let other = apart rows row.id b once.0 later in
    let wrong : false ≡ true = sym other ∙ ap (λ (r : TaskInfo). is_task r.id b.id) (sym here) ∙ same in absurd (cc)
one_row (row ∷ rows) a b once (inr later) (inl here) same =
    let other = apart rows row.id a once.0 later in
    let wrong : false ≡ true = sym other ∙ ap (λ (r : TaskInfo). is_task r.id a.id) (sym here) ∙ turned a.id b.id same in absurd (cc)
one_row (row ∷ rows) a b once (inr later) (inr also) same = one_row rows a b once.1 later also same

some_in : (test : TaskInfo → Bool) (rows : List TaskInfo) (row : TaskInfo) → IsIn row rows → test row ≡ true → list_any test rows ≡ true
some_in test [] row within h = absurd within
some_in test (other ∷ rows) row (inl same) h = ap (λ b. b || list_any test rows) (ap test (sym same) ∙ h)
some_in test (other ∷ rows) row (inr later) h = or_right (test other) (list_any test rows) (some_in test rows row later h)

-- a task whose parent is one of these is not at the top
not_top : (rows : List TaskInfo) (parent child : TaskInfo) → IsIn parent rows → is_child_of parent.id child.parent ≡ true → is_top rows child ≡ false
not_top rows parent child within h = ap not (some_in (λ other. is_child_of other.id child.parent) rows parent within h)

-- a task has one parent
one_parent : (a b : TaskId) (parent : Option TaskId) → is_child_of a parent ≡ true → is_child_of b parent ≡ true → is_task a b ≡ true
one_parent a b None h e = absurd (cc)
one_parent a b (Some p) h e = test-from_same_id a b (sym (same_id-from_test p a h) ∙ same_id-from_test p b e)

-- ---- ways to the top

-- tasks of which each stands below the next one, up to one at the top
abbrev IsWay : List TaskInfo → List TaskInfo → Type 0
IsWay rows [] = ⊥
IsWay rows (row ∷ []) = IsIn row rows × (is_top rows row ≡ true)
IsWay rows (row ∷ parent ∷ way) = IsIn row rows × (is_child_of parent.id row.parent ≡ true) × IsWay rows (parent ∷ way)

first_in : (rows : List TaskInfo) (row : TaskInfo) (way : List TaskInfo) → IsWay rows (row ∷ way) → IsIn row rows
first_in rows row [] w = w.0
first_in rows row (parent ∷ way) w = w.0

no_parent : (rows : List TaskInfo) (a b parent : TaskInfo) → a ≡ b → is_top rows a ≡ true → IsIn parent rows → is_child_of parent.id b.parent ≡ true → ⊥
no_parent rows a b parent same top within h =
    let wrong : false ≡ true = sym (not_top rows parent b within h) ∙ ap (is_top rows) (sym same) ∙ top in absurd (cc)

-- from one task each way to the top is equally long
same_length : (rows : List TaskInfo) (a b : TaskInfo) (p q : List TaskInfo) → HasEachOnce rows → IsWay rows (a ∷ p) → IsWay rows (b ∷ q) → is_task a.id b.id ≡ true → length p ≡ length q
same_length rows a b [] [] once v w same = refl
same_length rows a b [] (s ∷ q) once v w same = absurd (no_parent rows a b s (one_row rows a b once v.0 w.0 same) v.1 (first_in rows s q w.2) w.1)
same_length rows a b (r ∷ p) [] once v w same = absurd (no_parent rows b a r (sym (one_row rows a b once v.0 w.0 same)) w.1 (first_in rows r p v.2) v.1)
same_length rows a b (r ∷ p) (s ∷ q) once v w same =
    let one = one_row rows a b once v.0 w.0 same in
    let below : is_child_of s.id a.parent ≡ true = subst (λ (row : TaskInfo). is_child_of s.id row.parent ≡ true) (sym one) w.1 in
    ap suc (same_length rows r s p q once v.2 w.2 (one_parent r.id s.id a.parent v.1 below))

-- the rest of a way above a task: none of it, or a way
abbrev IsRest : List TaskInfo → List TaskInfo → Type 0
IsRest rows [] = Unit {0}
IsRest rows (row ∷ way) = IsWay rows (row ∷ way)

rest_of : (rows : List TaskInfo) (row : TaskInfo) (way : List TaskInfo) → IsWay rows (row ∷ way) → IsRest rows way
rest_of rows row [] w = tt
rest_of rows row (parent ∷ way) w = w.2

-- a task of a way does not come again further up
is_new : (rows : List TaskInfo) (row : TaskInfo) (way rest : List TaskInfo) → HasEachOnce rows → IsWay rows (row ∷ way) → length rest ≤ length way → IsRest rows rest
    → AllByRecursion (λ k. is_task row.id k ≡ false) (map (λ r. r.id) rest)
is_new rows row way [] once w short v = tt
is_new rows row way (s ∷ q) once w short v = (
  ⊎_elim (λ (same : is_task row.id s.id ≡ true). absurd (omega (arith, same_length rows row s way q once w v same)))
      (λ (other : is_task row.id s.id ≡ false). other) (cases_Bool (is_task row.id s.id)),
  is_new rows row way q once w (omega arith) (rest_of rows s q v),
)

distinct_way : (rows : List TaskInfo) (row : TaskInfo) (way : List TaskInfo) → HasEachOnce rows → IsWay rows (row ∷ way) → IsDistinct is_task (map (λ r. r.id) (row ∷ way))
unfolding IsDistinct
distinct_way rows row [] once w = (tt, tt)
distinct_way rows row (parent ∷ way) once w = (is_new rows row (parent ∷ way) (parent ∷ way) once w (omega arith) w.2, distinct_way rows parent way once w.2)

id_in : (rows : List TaskInfo) (t : TaskId) (row : TaskInfo) → IsIn row rows → is_task t row.id ≡ true → list_any (is_task t) (map (λ r. r.id) rows) ≡ true
id_in [] t row within h = absurd within
id_in (other ∷ rows) t row (inl same) h = ap (λ (b : Bool). b || list_any (is_task t) (map (λ r. r.id) rows)) (ap (λ (r : TaskInfo). is_task t r.id) (sym same) ∙ h)
id_in (other ∷ rows) t row (inr later) h = or_right (is_task t other.id) _ (id_in rows t row later h)

way_in : (rows : List TaskInfo) (row : TaskInfo) (way : List TaskInfo) → IsWay rows (row ∷ way) → (t : TaskId) → list_any (is_task t) (map (λ r. r.id) (row ∷ way)) ≡ true → list_any (is_task t) (map (λ r. r.id) rows) ≡ true
way_in rows row [] w t h = id_in rows t row w.0 (or_false (is_task t row.id) h)
way_in rows row (parent ∷ way) w t h = ⊎_elim (λ here. id_in rows t row w.0 here) (λ later. way_in rows parent way w.2 t later) (or_cases (is_task t row.id) _ h)

short_way : (rows : List TaskInfo) (row : TaskInfo) (way : List TaskInfo) → HasEachOnce rows → IsWay rows (row ∷ way) → length (row ∷ way) ≤ length rows
short_way rows row way once w =
    let few = length-le_from_is_member equal_ids (map (λ r. r.id) (row ∷ way)) (map (λ r. r.id) rows) (distinct_way rows row way once w) (λ t h. way_in rows row way w t h) in
    omega (arith, few, length-map (row ∷ way) (λ r. r.id), length-map rows (λ r. r.id))

-- ---- levels

none_left : (test : TaskInfo → Bool) (rows : List TaskInfo) → ((row : TaskInfo) → IsIn row rows → test row ≡ true → ⊥) → filter test rows ≡ []
none_left test [] never = refl
none_left test (row ∷ rows) never =
    let missed : test row ≡ false = ⊎_elim (λ (h : test row ≡ true). absurd (never row (inl refl) h)) (λ (h : test row ≡ false). h) (cases_Bool (test row)) in
    ap (λ b. cond b (row ∷ filter test rows) (filter test rows)) missed ∙ none_left test rows (λ r within h. never r (inr within) h)

-- what passes a test is looked at alike
same_maps : (test : TaskInfo → Bool) (f g : TaskInfo → Data) (rows : List TaskInfo) → ((row : TaskInfo) → IsIn row rows → test row ≡ true → f row ≡ g row) → map f (filter test rows) ≡ map g (filter test rows)
same_maps test f g [] same = refl
same_maps test f g (row ∷ rows) same =
    let later = same_maps test f g rows (λ r within h. same r (inr within) h) in
    ⊎_elim
    (λ (h : test row ≡ true). rw h (λ i. same row (inl refl) h i ∷ later i))
    (λ (h : test row ≡ false). rw h later)
    (cases_Bool (test row))

same_objects : (test : TaskInfo → Bool) (f g : TaskInfo → Data) (ms : Members) (rows : List TaskInfo) → ((row : TaskInfo) → IsIn row rows → test row ≡ true → f row ≡ g row)
    → with_each (λ row. task_id_text row.id) f ms (filter test rows) ≡ with_each (λ row. task_id_text row.id) g ms (filter test rows)
same_objects test f g ms [] same = refl
same_objects test f g ms (row ∷ rows) same = ⊎_elim
    (λ (h : test row ≡ true). rw h (ap (λ d. with_each (λ r. task_id_text r.id) f (put (task_id_text row.id) d ms) (filter test rows)) (same row (inl refl) h)
    ∙ same_objects test f g (put (task_id_text row.id) (g row) ms) rows (λ r within e. same r (inr within) e)))
    (λ (h : test row ≡ false). rw h (same_objects test f g ms rows (λ r within e. same r (inr within) e)))
    (cases_Bool (test row))

deep_enough : (look : List Data → TaskInfo → Data) (rows : List TaskInfo) (low high : ℕ) (row : TaskInfo) (way : List TaskInfo) → HasEachOnce rows → IsWay rows (row ∷ way) → low ≤ high → length rows ≤ length (row ∷ way) + low
    → tree_json look (children_of rows) high row ≡ tree_json look (children_of rows) low row
deep_enough look rows zero high row way once w le enough =
    let none : children_of rows row.id ≡ [] = none_left (λ r. is_child_of row.id r.parent) rows (λ r within h.
    omega (arith, enough, short_way rows r (row ∷ way) once (within, h, w))) in
    sym (leaf look (children_of rows) high row none)
deep_enough look rows (suc low) zero row way once w le enough = absurd (omega arith)
deep_enough look rows (suc low) (suc high) row way once w le enough =
    ap (λ below. look below row) (same_maps (λ r. is_child_of row.id r.parent) (λ r. tree_json look (children_of rows) high r) (λ r. tree_json look (children_of rows) low r) rows (λ r within h.
    deep_enough look rows low high r (row ∷ way) once (within, h, w) (omega (arith, le)) (omega (arith, enough))))

pub all_levels : (look : List Data → TaskInfo → Data) (rows : List TaskInfo) (more : ℕ) → HasEachOnce rows → parents_json (length rows + more) look rows ≡ parents_json (length rows) look rows
all_levels look rows more once =
    ap object (same_objects (λ r. is_top rows r) (λ r. tree_json look (children_of rows) (length rows + more) r) (λ r. tree_json look (children_of rows) (length rows) r) no_members rows (λ r within top.
    deep_enough look rows (length rows) (length rows + more) r [] once (within, top) (omega arith) (omega arith)))
