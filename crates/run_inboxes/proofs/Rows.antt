-- Rows that are handed out to columns, one after the other.
use Rattle.std.proofs.Common.{◌≡◌, ◌≢◌, ◌⊎◌, ℕ, zero, suc, ◌+◌, ◌<◌, ◌≤◌, List, [], ◌∷◌, ◌++◌, length, Some, sym, refl, inl, inr, ap, ◌∙◌, subst, ⊎_elim, length-append, slice_set, arith}
use Rattle.std.specs.Prelude.{slice_get}
use Rattle.std.specs.Global.{Vec}
use Rattle.std.proofs.lemmas.List.{length-set}
use Rattle.std.proofs.lemmas.Option.{slice_get_within}
use Rattle.node_link.proofs.Counts.{get_new, get_at, Some_injective}
use Rattle.run_inboxes.specs.Rows.{HasWidth, HandedOut, IsTurned}

module _ {X : Type 0} where
  pub set_get : (xs : List X) (i k : ℕ) (y z : X) → slice_get (slice_set xs i y) k ≡ Some z → ((k ≡ i) × (y ≡ z)) ⊎ ((k ≢ i) × (slice_get xs k ≡ Some z))
  set_get [] i k y z e = absurd (cc)
  set_get (x ∷ xs) zero zero y z e = inl (refl, Some_injective y z e)
  set_get (x ∷ xs) zero (suc k) y z e = inr ((λ h. omega arith), e)
  set_get (x ∷ xs) (suc i) zero y z e = inr ((λ h. omega arith), e)
  set_get (x ∷ xs) (suc i) (suc k) y z e = ⊎_elim (λ t. inl (ap suc t.0, t.1)) (λ t. inr ((λ h. t.0 (omega arith)), t.1)) (set_get xs i k y z e)

  -- what stands at a place within a list
  pub stands : (xs : List X) (k : ℕ) → k < length xs → (x : X) × (slice_get xs k ≡ Some x)
  stands [] k lt = absurd (omega arith)
  stands (x ∷ xs) zero lt = (x, refl)
  stands (x ∷ xs) (suc k) lt = stands xs k (omega arith)

  pub in_front : (xs ys : List X) (k : ℕ) (x : X) → slice_get xs k ≡ Some x → slice_get (xs ++ ys) k ≡ Some x
  in_front [] ys k x e = absurd (cc)
  in_front (z ∷ xs) ys zero x e = e
  in_front (z ∷ xs) ys (suc k) x e = in_front xs ys k x e

module _ {T : Type 0} where
  -- one more was handed out
  pub handed_one : (old : List (Vec T)) (things : List T) (new : List (Vec T)) (x : T) (now column : Vec T)
      → HandedOut old things new → slice_get new (length things) ≡ Some now → column.items ≡ now.items ++ x ∷ []
      → HandedOut old (things ++ x ∷ []) (slice_set new (length things) column)
  handed_one old things new x now column h at is = record { count = length-set new (length things) column ∙ h.count; more = more; same = same }
    where
      put_there : (k : ℕ) (before : Vec T) (y : T) → k ≡ length things → slice_get old k ≡ Some before → slice_get (things ++ x ∷ []) k ≡ Some y → column.items ≡ before.items ++ y ∷ []
      put_there k before y here before_at y_at =
          let same = h.same k before now before_at (subst (λ n. slice_get new n ≡ Some now) (sym here) at) (omega arith) in
          let last = subst (λ n. slice_get (things ++ x ∷ []) n ≡ Some y) here y_at in
          let value = Some_injective x y (sym (get_at things x []) ∙ last) in
          is ∙ ap (λ (v : Vec T). v.items ++ x ∷ []) same ∙ ap (λ v. before.items ++ v ∷ []) value

      more : (k : ℕ) (before after : Vec T) (y : T) → slice_get old k ≡ Some before → slice_get (slice_set new (length things) column) k ≡ Some after → slice_get (things ++ x ∷ []) k ≡ Some y → after.items ≡ before.items ++ y ∷ []
      more k before after y before_at after_at y_at = ⊎_elim
          (λ (t : (k ≡ length things) × (column ≡ after)). ap (λ (v : Vec T). v.items) (sym t.1) ∙ put_there k before y t.0 before_at y_at)
          (λ (t : (k ≢ length things) × (slice_get new k ≡ Some after)). ⊎_elim
          (λ (u : slice_get things k ≡ Some y). h.more k before after y before_at t.1 u)
          (λ (u : (k ≡ length things) × (x ≡ y)). absurd (t.0 u.0))
          (get_new things x k y y_at))
          (set_get new (length things) k column after after_at)

      same : (k : ℕ) (before after : Vec T) → slice_get old k ≡ Some before → slice_get (slice_set new (length things) column) k ≡ Some after → length (things ++ x ∷ []) ≤ k → after ≡ before
      same k before after before_at after_at le =
          let long = length-append things (x ∷ []) in
          ⊎_elim
          (λ (t : (k ≡ length things) × (column ≡ after)). let e = t.0 in absurd (omega arith))
          (λ (t : (k ≢ length things) × (slice_get new k ≡ Some after)). h.same k before after before_at t.1 (omega arith))
          (set_get new (length things) k column after after_at)

  -- one row more
  pub turned_one : (width : ℕ) (rows columns new : List (Vec T)) (row : Vec T) → IsTurned width rows columns → length row.items ≡ width → HandedOut columns row.items new → IsTurned width (rows ++ row ∷ []) new
  turned_one width rows columns new row t wide h = record { count = h.count ∙ t.count; long = long; same = same }
    where
      -- a column is an old one and one thing more, that of the row
      grown : (k : ℕ) (column : Vec T) → slice_get new k ≡ Some column → (before : Vec T) × (x : T) × (slice_get columns k ≡ Some before) × (slice_get row.items k ≡ Some x) × (column.items ≡ before.items ++ x ∷ [])
      grown k column at =
          let low = slice_get_within new k column at in
          let many = h.count in
          let count = t.count in
          let before = stands columns k (omega arith) in
          let x = stands row.items k (omega arith) in
          (before.0, x.0, before.1, x.1, h.more k before.0 column x.0 before.1 at x.1)

      long : HasWidth (length (rows ++ row ∷ [])) new
      long k column at =
          let g = grown k column at in
          ap length g.4 ∙ length-append g.0.items (g.1 ∷ []) ∙ ap (λ n. n + 1) (t.long k g.0 g.2) ∙ sym (length-append rows (row ∷ []))

      same : (i k : ℕ) (other column : Vec T) → slice_get (rows ++ row ∷ []) i ≡ Some other → slice_get new k ≡ Some column → slice_get column.items i ≡ slice_get other.items k
      same i k other column there at =
          let g = grown k column at in
          let high = t.long k g.0 g.2 in
          ⊎_elim
          (λ (u : slice_get rows i ≡ Some other).
          let low = slice_get_within rows i other u in
          let v = stands g.0.items i (omega arith) in
          ap (λ l. slice_get l i) g.4 ∙ in_front g.0.items (g.1 ∷ []) i v.0 v.1 ∙ sym v.1 ∙ t.same i k other g.0 u g.2)
          (λ (u : (i ≡ length rows) × (row ≡ other)).
          ap (λ l. slice_get l i) g.4
          ∙ ap (λ n. slice_get (g.0.items ++ g.1 ∷ []) n) (u.0 ∙ sym high)
          ∙ get_at g.0.items g.1 []
          ∙ sym g.3
          ∙ ap (λ (v : Vec T). slice_get v.items k) u.1)
          (get_new rows row i other there)
