-- Rows that were sorted by id, those of one id in their order, are in id order.
use Rattle.std.proofs.Common.{◌≡◌, suc, Bool, true, false, cond, not, ◌&&◌, List, [], ◌∷◌, filter, refl, sym, ap, ◌∙◌, arith, add-one, IsSortedByKey}
use Rattle.std.proofs.lemmas.Cmp.{on_total, upto, tied_itself}
use Rattle.std.specs.Cmp.{IsTotalOrder}
use Rattle.std.specs.List.{AllByRecursion}
use Rattle.std.specs.List.Sorted.{ties, IsStableByKey}
use Rattle.std.specs.Ordering.{ordering_reverse, is_lt, is_le, is_gt}
use Rattle.std.specs.declared.cmp.Ordering.{Ordering}
use Rattle.std.specs.declared.cmp.Ordering.TheVariants.{Less, Equal, Greater}
use Rattle.task_ids.proofs.Each.{all_weaker}
use Rattle.task_ids.proofs.TaskIdKeys.{ids_total}
use Rattle.task_ids.specs.TaskIdOrder.{task_id_cmp}
use Rattle.task_ids.specs.declared.task_info.TaskInfo.{TaskInfo}
use Rattle.data_pool.specs.Gathered.{placed, in_id_order}

abbrev row_cmp : TaskInfo → TaskInfo → Ordering
row_cmp a b = task_id_cmp a.id b.id

rows_total : IsTotalOrder row_cmp
rows_total = on_total (λ (row : TaskInfo). row.id) ids_total

-- it stands first of the two, or has the same id
abbrev leads : TaskInfo → TaskInfo → Bool
leads a b = is_le (row_cmp a b)

-- they have one id
abbrev is_tied : TaskInfo → TaskInfo → Bool
is_tied = ties (λ a b. is_lt (row_cmp a b))

-- ---- two rows

no_more : (r : Ordering) → is_le r ≡ true → is_gt r ≡ false
no_more Less e = refl
no_more Equal e = refl
no_more Greater e = absurd cc

at_most : (r : Ordering) → is_gt r ≡ false → is_le r ≡ true
at_most Less e = refl
at_most Equal e = refl
at_most Greater e = absurd cc

turned : (r : Ordering) → is_le r ≡ false → is_le (ordering_reverse r) ≡ true
turned Less e = absurd cc
turned Equal e = absurd cc
turned Greater e = refl

not_behind : (r s : Ordering) → r ≡ ordering_reverse s → is_lt s ≡ false → is_le r ≡ true
not_behind r Less e h = absurd cc
not_behind r Equal e h = ap is_le e
not_behind r Greater e h = ap is_le e

level : (r s : Ordering) → r ≡ ordering_reverse s → (not (is_lt r) && not (is_lt s)) ≡ true → (is_le r ≡ true) × (is_le s ≡ true)
level Less s e h = absurd cc
level Equal Less e h = absurd cc
level Equal Equal e h = (refl, refl)
level Equal Greater e h = absurd cc
level Greater Less e h = absurd cc
level Greater Equal e h = absurd cc
level Greater Greater e h = absurd cc

level_back : (r s : Ordering) → r ≡ ordering_reverse s → is_le r ≡ true → is_le s ≡ true → (not (is_lt r) && not (is_lt s)) ≡ true
level_back Less Less e p q = absurd cc
level_back Less Equal e p q = absurd cc
level_back Less Greater e p q = absurd cc
level_back Equal Less e p q = absurd cc
level_back Equal Equal e p q = refl
level_back Equal Greater e p q = absurd cc
level_back Greater s e p q = absurd cc

itself : (a : TaskInfo) → leads a a ≡ true
itself a = ap is_le (tied_itself rows_total a)

chain : (a b c : TaskInfo) → leads a b ≡ true → leads b c ≡ true → leads a c ≡ true
chain a b c e f = at_most (row_cmp a c) (upto rows_total a b c (no_more (row_cmp a b) e) (no_more (row_cmp b c) f))

turn : (a b : TaskInfo) → leads a b ≡ false → leads b a ≡ true
turn a b e = ap is_le (rows_total.antisymm b a) ∙ turned (row_cmp a b) e

both_lead : (a b : TaskInfo) → is_tied a b ≡ true → (leads a b ≡ true) × (leads b a ≡ true)
both_lead a b h = level (row_cmp a b) (row_cmp b a) (rows_total.antisymm a b) h

tied_of : (a b : TaskInfo) → leads a b ≡ true → leads b a ≡ true → is_tied a b ≡ true
tied_of a b p q = level_back (row_cmp a b) (row_cmp b a) (rows_total.antisymm a b) p q

-- no row has the id of both where one stands strictly first
apart : (x a b : TaskInfo) → leads a b ≡ false → is_tied x a ≡ true → is_tied x b ≡ true → ⊥
apart x a b e p q = let f : leads a b ≡ true = chain a x b (both_lead x a p).1 (both_lead x b q).0 in absurd cc

-- ---- rows that rise

abbrev AllBehind : TaskInfo → List TaskInfo → Type 0
AllBehind a rows = AllByRecursion (λ row. leads a row ≡ true) rows

abbrev IsRising : List TaskInfo → Type 0
IsRising [] = Unit {0}
IsRising (row ∷ rows) = AllBehind row rows × IsRising rows

all_behind : (a b : TaskInfo) → leads a b ≡ true → (rows : List TaskInfo) → AllBehind b rows → AllBehind a rows
all_behind a b h rows all = all_weaker (λ row. leads b row ≡ true) (λ row. leads a row ≡ true) (λ row k. chain a b row h k) rows all

behind-placed : (a row : TaskInfo) (rows : List TaskInfo) → leads a row ≡ true → AllBehind a rows → AllBehind a (placed row rows)
behind-placed a row [] h all = (h, tt)
behind-placed a row (next ∷ later) h all =
    elim (leads row next) as (λ b. AllBehind a (cond b (row ∷ next ∷ later) (next ∷ placed row later))) [
      | true ↦ (h, all)
      | false ↦ (all.0, behind-placed a row later h all.1)
    ]

rising-placed : (row : TaskInfo) (rows : List TaskInfo) → IsRising rows → IsRising (placed row rows)
rising-placed row [] rising = (tt, tt)
rising-placed row (next ∷ later) rising = go (leads row next) refl (rising-placed row later rising.1)
  where
    go : (b : Bool) → leads row next ≡ b → IsRising (placed row later) → IsRising (cond b (row ∷ next ∷ later) (next ∷ placed row later))
    go true h more = ((h, all_behind row next h later rising.0), rising)
    go false h more = (behind-placed next row later (turn row next h) rising.0, more)

rising-order : (rows : List TaskInfo) → IsRising (in_id_order rows)
rising-order [] = tt
rising-order (row ∷ rows) = rising-placed row (in_id_order rows) (rising-order rows)

-- ---- rows of one id

one_kept : (b c : Bool) (row next : TaskInfo) (l : List TaskInfo) → (b ≡ true → c ≡ true → ⊥) → cond c (next ∷ cond b (row ∷ l) l) (cond b (row ∷ l) l) ≡ cond b (row ∷ cond c (next ∷ l) l) (cond c (next ∷ l) l)
one_kept true true row next l h = absurd (h refl refl)
one_kept true false row next l h = refl
one_kept false true row next l h = refl
one_kept false false row next l h = refl

tied-placed : (x row : TaskInfo) (rows : List TaskInfo) → filter (is_tied x) (placed row rows) ≡ filter (is_tied x) (row ∷ rows)
tied-placed x row [] = refl
tied-placed x row (next ∷ later) = go (leads row next) refl (tied-placed x row later)
  where
    go : (b : Bool) → leads row next ≡ b → filter (is_tied x) (placed row later) ≡ filter (is_tied x) (row ∷ later) → filter (is_tied x) (cond b (row ∷ next ∷ later) (next ∷ placed row later)) ≡ filter (is_tied x) (row ∷ next ∷ later)
    go true h more = refl
    go false h more = ap (λ l. cond (is_tied x next) (next ∷ l) l) more ∙ one_kept (is_tied x row) (is_tied x next) row next (filter (is_tied x) later) (apart x row next h)

tied-order : (x : TaskInfo) (rows : List TaskInfo) → filter (is_tied x) (in_id_order rows) ≡ filter (is_tied x) rows
tied-order x [] = refl
tied-order x (row ∷ rows) = tied-placed x row (in_id_order rows) ∙ ap (λ l. cond (is_tied x row) (row ∷ l) l) (tied-order x rows)

-- ---- there is one such order

-- where one of these has the id of x, the first of all leads x
leads_on : (x first : TaskInfo) (rows : List TaskInfo) (y : TaskInfo) (found : List TaskInfo) → AllBehind first rows → filter (is_tied x) rows ≡ y ∷ found → leads first x ≡ true
leads_on x first [] y found all e = absurd cc
leads_on x first (row ∷ rows) y found all e = go (is_tied x row) refl e (λ k. leads_on x first rows y found all.1 k)
  where
    go : (t : Bool) → is_tied x row ≡ t → cond t (row ∷ filter (is_tied x) rows) (filter (is_tied x) rows) ≡ y ∷ found → (filter (is_tied x) rows ≡ y ∷ found → leads first x ≡ true) → leads first x ≡ true
    go true t k more = chain first row x all.0 (both_lead x row t).1
    go false t k more = more k

own_kept : (x : TaskInfo) (rows : List TaskInfo) → filter (is_tied x) (x ∷ rows) ≡ x ∷ filter (is_tied x) rows
own_kept x rows = ap (λ b. cond b (x ∷ filter (is_tied x) rows) (filter (is_tied x) rows)) (tied_of x x (itself x) (itself x))

rest_kept : (b : Bool) (row : TaskInfo) (l m : List TaskInfo) → cond b (row ∷ l) l ≡ cond b (row ∷ m) m → l ≡ m
rest_kept true row l m e = cc
rest_kept false row l m e = e

one_order : (xs ys : List TaskInfo) → IsRising xs → IsRising ys → ((z : TaskInfo) → filter (is_tied z) xs ≡ filter (is_tied z) ys) → xs ≡ ys
one_order [] [] p q same = refl
one_order [] (y ∷ ys) p q same = absurd (let e : [] ≡ y ∷ filter (is_tied y) ys = same y ∙ own_kept y ys in cc)
one_order (x ∷ xs) [] p q same = absurd (let e : x ∷ filter (is_tied x) xs ≡ [] = sym (own_kept x xs) ∙ same x in cc)
one_order (x ∷ xs) (y ∷ ys) p q same =
    let here : filter (is_tied x) (y ∷ ys) ≡ x ∷ filter (is_tied x) xs = sym (same x) ∙ own_kept x xs in
    let there : filter (is_tied y) (x ∷ xs) ≡ y ∷ filter (is_tied y) ys = same y ∙ own_kept y ys in
    let tie : is_tied x y ≡ true = tied_of x y (leads_on y x (x ∷ xs) y (filter (is_tied y) ys) (itself x, p.0) there) (leads_on x y (y ∷ ys) x (filter (is_tied x) xs) (itself y, q.0) here) in
    let heads : x ∷ filter (is_tied x) xs ≡ y ∷ filter (is_tied x) ys = sym here ∙ ap (λ b. cond b (y ∷ filter (is_tied x) ys) (filter (is_tied x) ys)) tie in
    let one : x ≡ y = first_of_both x y (filter (is_tied x) xs) (filter (is_tied x) ys) heads in
    let rest : xs ≡ ys = one_order xs ys p.1 q.1 (λ z. rest_kept (is_tied z y) y (filter (is_tied z) xs) (filter (is_tied z) ys)
    (ap (λ row. cond (is_tied z row) (row ∷ filter (is_tied z) xs) (filter (is_tied z) xs)) (sym one) ∙ same z)) in
    λ i. one i ∷ rest i
  where
    first_of_both : (a b : TaskInfo) (l m : List TaskInfo) → a ∷ l ≡ b ∷ m → a ≡ b
    first_of_both a b l m e = cc

-- ---- as std's sorts have it

rising-sorted : (rows : List TaskInfo) → IsSortedByKey (λ (row : TaskInfo). row.id) task_id_cmp rows → IsRising rows
rising-sorted [] sorted = tt
rising-sorted (row ∷ rows) sorted =
    let later = rising-sorted rows (λ k d p q. rw add-one (rw add-one at (sorted (suc k) d (omega arith) (omega arith)))) in
    (behind rows sorted later, later)
  where
    behind : (rows : List TaskInfo) → IsSortedByKey (λ (row : TaskInfo). row.id) task_id_cmp (row ∷ rows) → IsRising rows → AllBehind row rows
    behind [] sorted later = tt
    behind (next ∷ rest) sorted later =
        let first = not_behind (row_cmp row next) (row_cmp next row) (rows_total.antisymm row next) (sorted 0 row (omega arith) (omega arith)) in
        (first, all_behind row next first rest later.0)

-- rows that were sorted by id, those of one id in their order, are in id order
pub sorted_by_id : (xs ys : List TaskInfo) → IsSortedByKey (λ (row : TaskInfo). row.id) task_id_cmp ys → IsStableByKey (λ (row : TaskInfo). row.id) task_id_cmp xs ys → ys ≡ in_id_order xs
sorted_by_id xs ys sorted stable = one_order ys (in_id_order xs) (rising-sorted ys sorted) (rising-order xs) (λ x. stable x ∙ sym (tied-order x xs))
