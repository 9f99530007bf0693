-- A step that keeps the rule of the words takes the board from one moment to the next.
use Rattle.std.proofs.Common.{◌≡◌, ◌≢◌, ℕ, ◌+◌, ◌<◌, ◌⊎◌, List, get_or, set, sym, refl, ap, ◌∙◌, subst, ⊎_elim}
use mathlib.Core.Option.{some}
use lib.ListN.{get_elem?}
use Rattle.atomic_table.specs.Table.{stepped, Allows}
use Rattle.race_board.specs.Words.{cancel, by}
use Rattle.race_board.specs.Board.{task, mask, BoardOk}
use Rattle.race_board.specs.Steps.{Sat}
use Rattle.race_board.specs.Events.{Event, Follows}
use Rattle.race_board.specs.Theorem.{Moment}
use Rattle.race_board.specs.Turn.{Turn, Named, Rule}
use Rattle.race_board.specs.declared.views.Size.{Size}
use Rattle.race_board.proofs.Boards.{placed}
use Rattle.race_board.proofs.Moments.{moment}

-- The table's key is the size that the board keeps
module _ (A : ℕ → Type 0) (z key : Size) (same : key ≡ z) (slots id : ℕ) (me : Sat) (x : ℕ) (f : ℕ → ℕ) (then : ℕ → Sat → Type 0) (es : ℕ → List Event) where
  -- and what it finds is known to be so
  pub turns_told : (Told : ℕ → Type 0) → me.0.size ≡ z
      → ((s : Moment) → BoardOk z s → get_elem? s.views id ≡ some me.0 → Follows z s.words (set s.words x (f (get_or s.words x 0))) (es (get_or s.words x 0)))
      → ((s : Moment) → BoardOk z s → get_elem? s.views id ≡ some me.0 → Named A z s.words → Named A z (set s.words x (f (get_or s.words x 0))) × Told (get_or s.words x 0))
      → Allows (BoardOk z) slots id me x f then
      → Allows (Rule A key) slots id me x f (λ n m'. then n m' × Turn me.0.size me.0 m'.0 x n (f n) (es n) × Told n)
  turns_told Told size follows named allows = subst (λ (q : Size). Allows (Rule A q) slots id me x f (λ n m'. then n m' × Turn me.0.size me.0 m'.0 x n (f n) (es n) × Told n)) (sym same) (λ s (ok, name) deep there small. let n : ℕ = get_or s.words x 0 in let t = allows s ok deep there small in let after : Moment = stepped s x (f n) id me.1 t.0 t.1 in let told = named s ok there name in (
    t.0,
    t.1,
    t.2,
    (t.3, told.0),
    (
      t.4,
      subst (λ (q : Size). Turn q me.0 t.0 x n (f n) (es n)) (sym size)
          record {
            before = s;
            after = after;
            seat = id;
            sits = there;
            finds = refl;
            leaves = refl;
            views = refl;
            sits_after = placed s.views id me.0 t.0 there;
            holds = moment z s ok;
            holds_after = moment z after t.3;
            follows = follows s ok there;
          },
      told.1,
    ),
  ))

  pub turns : me.0.size ≡ z
      → ((s : Moment) → BoardOk z s → get_elem? s.views id ≡ some me.0 → Follows z s.words (set s.words x (f (get_or s.words x 0))) (es (get_or s.words x 0)))
      → ((s : Moment) → BoardOk z s → get_elem? s.views id ≡ some me.0 → Named A z s.words → Named A z (set s.words x (f (get_or s.words x 0))))
      → Allows (BoardOk z) slots id me x f then
      → Allows (Rule A key) slots id me x f (λ n m'. then n m' × Turn me.0.size me.0 m'.0 x n (f n) (es n))
  turns size follows named allows = subst (λ (q : Size). Allows (Rule A q) slots id me x f (λ n m'. then n m' × Turn me.0.size me.0 m'.0 x n (f n) (es n))) (sym same) (λ s (ok, name) deep there small. let n : ℕ = get_or s.words x 0 in let t = allows s ok deep there small in let after : Moment = stepped s x (f n) id me.1 t.0 t.1 in (
    t.0,
    t.1,
    t.2,
    (t.3, named s ok there name),
    (
      t.4,
      subst (λ (q : Size). Turn q me.0 t.0 x n (f n) (es n)) (sym size)
          record {
            before = s;
            after = after;
            seat = id;
            sits = there;
            finds = refl;
            leaves = refl;
            views = refl;
            sits_after = placed s.views id me.0 t.0 there;
            holds = moment z s ok;
            holds_after = moment z after t.3;
            follows = follows s ok there;
          },
    ),
  ))

-- each word that may carry a number is as it was, or has one that is allowed
pub stays_named : (A : ℕ → Type 0) (z : Size) (ws ws' : List ℕ) → Named A z ws
    → ((i : ℕ) → i < z.slots → (cancel (task ws' i) ≢ 0 → A (cancel (task ws' i))) ⊎ (task ws' i ≡ task ws i))
    → ((j : ℕ) → j < z.bans → (get_or ws' (z.slots + j + 1) 0 ≢ 0 → A (by (get_or ws' (z.slots + j + 1) 0)) × (by (get_or ws' (z.slots + j + 1) 0) < 65536)) ⊎ (get_or ws' (z.slots + j + 1) 0 ≡ get_or ws (z.slots + j + 1) 0))
    → ((i : ℕ) → i < z.slots → (mask z ws' i < 65536) ⊎ (mask z ws' i ≡ mask z ws i))
    → Named A z ws'
stays_named A z ws ws' name tasks bans masks = record {
  marks = λ i l n. ⊎_elim (λ (h : cancel (task ws' i) ≢ 0 → A (cancel (task ws' i))). h n) (λ (e : task ws' i ≡ task ws i). subst (λ (q : ℕ). A (cancel q)) (sym e) (name.marks i l (λ f. n (ap cancel e ∙ f)))) (tasks i l);
  bans = λ j l n. ⊎_elim (λ (h : get_or ws' (z.slots + j + 1) 0 ≢ 0 → A (by (get_or ws' (z.slots + j + 1) 0)) × (by (get_or ws' (z.slots + j + 1) 0) < 65536)). h n)
      (λ (e : get_or ws' (z.slots + j + 1) 0 ≡ get_or ws (z.slots + j + 1) 0). subst (λ (q : ℕ). A (by q) × (by q < 65536)) (sym e) (name.bans j l (λ f. n (e ∙ f)))) (bans j l);
  masks = λ i l. ⊎_elim (λ (h : mask z ws' i < 65536). h) (λ (e : mask z ws' i ≡ mask z ws i). subst (λ (n : ℕ). n < 65536) (sym e) (name.masks i l)) (masks i l);
}
