-- One place of a row is written, and the others stay.
use Rattle.std.proofs.Common.{◌≡◌, ◌≢◌, ℕ, ◌<◌, ◌⊎◌, ◌↔◌, inl, inr, List, length, get_or, set, refl, sym, ap, ◌∙◌, subst, get_or-set_same, get_or-set_other}
use mathlib.Core.Logic.{dite}
use native.Mathlib.Decide.{ℕ_discrete}
use Rattle.node_boards.specs.Seats.{SameTickets, OneMore, OneLess, Keeps}

-- the new row g is f but at the place i, where it has x
pub record Writes {X : Type 0} (f g : ℕ → X) (i : ℕ) (x : X) : Type 0 where
  pub here : g i ≡ x
  pub else : (j : ℕ) → j ≢ i → g j ≡ f j

pub writes_set : {X : Type 0} (l : List X) (i : ℕ) (x d : X) → i < length l → Writes (λ j. get_or l j d) (λ j. get_or (set l i x) j d) i x
writes_set l i x d within = record {
  here = get_or-set_same l i x d within;
  else = λ j n. get_or-set_other l i j x d n;
}

-- what is left has other numbers
less_of : (old new : ℕ → ℕ → Type 0) (n : ℕ) → ((m q : ℕ) → new m q ↔ ((m ≢ n) × old m q)) → OneLess old new n
less_of old new n left = ((λ q is. ((left n q).0 is).0 refl), left)

module _ {X : Type 0} {f g : ℕ → X} {i : ℕ} {x : X} (w : Writes f g i x) where
  -- what holds of x and of each other place before holds of each after
  pub each_place : (P : X → Type 0) → P x → ((j : ℕ) → j ≢ i → P (f j)) → (j : ℕ) → P (g j)
  each_place P new all j = dite (ℕ_discrete j i)
      (λ e. subst P (sym (ap g e ∙ w.here)) new)
      (λ n. subst P (sym (w.else j n)) (all j n))

  -- of a place that has P after the write, either it is the one written, or it had P before
  pub at_place : (P : X → Type 0) (j : ℕ) → P (g j) → ((j ≡ i) × P x) ⊎ ((j ≢ i) × P (f j))
  at_place P j there = dite (ℕ_discrete j i)
      (λ e. inl (e, subst P (ap g e ∙ w.here) there))
      (λ n. inr (n, subst P (w.else j n) there))

  pub still : (P : X → Type 0) (j : ℕ) → j ≢ i → P (f j) → P (g j)
  still P j n there = subst P (sym (w.else j n)) there

  pub now_at : (P : X → Type 0) → P x → P (g i)
  now_at P new = subst P (sym w.here) new

  module _ (Is : ℕ → ℕ → X → Type 0) where
    abbrev Has : (ℕ → X) → ℕ → ℕ → Type 0
    Has h n p = (j : ℕ) × Is n p (h j)

    pub one_more : (n p : ℕ) → ((m q : ℕ) → ¬ Is m q (f i)) → Is n p x → ((m q : ℕ) → Is m q x → (m ≡ n) × (q ≡ p)) → ((q : ℕ) → ¬ Has f n q) → OneMore (Has f) (Has g) n p
    one_more n p free new alone none = (
      none,
      (i, now_at (Is n p) new),
      λ m q. (
        (λ (j, there). elim (at_place (Is m q) j there) [
          | inl (e, is) ↦ inr (alone m q is)
          | inr (n', was) ↦ inl (j, was)
        ]),
        (λ old. elim old [
          | inl (j, was) ↦ (j, still (Is m q) j (λ e. free m q (subst (λ (k : ℕ). Is m q (f k)) e was)) was)
          | inr (a, b) ↦ (i, now_at (Is m q) (subst (λ (r : ℕ). Is m r x) (sym b) (subst (λ (r : ℕ). Is r p x) (sym a) new)))
        ]),
      ),
    )

    -- of the ticket n, which was there alone
    pub one_less : (n p : ℕ) → Is n p (f i) → ((m q : ℕ) → ¬ Is m q x) → ((m q r : ℕ) (y : X) → Is m q y → Is n r y → m ≡ n) → ((j q : ℕ) → Is n q (f j) → j ≡ i) → OneLess (Has f) (Has g) n
    one_less n p was gone alike apart = less_of (Has f) (Has g) n (λ m q. (
      (λ (j, there). elim (at_place (Is m q) j there) [
        | inl (e, is) ↦ absurd (gone m q is)
        | inr (n', is) ↦ ((λ e. n' (apart j q (subst (λ (r : ℕ). Is r q (f j)) e is))), (j, is))
      ]),
      (λ (n', (j, is)). (j, still (Is m q) j (λ e. n' (alike m q p (f i) (subst (λ (k : ℕ). Is m q (f k)) e is) was)) is)),
    ))

    pub same : ((m q : ℕ) → Is m q x ↔ Is m q (f i)) → SameTickets (Has f) (Has g)
    same alike m q = (
      (λ (j, there). elim (at_place (Is m q) j there) [
        | inl (e, is) ↦ (i, (alike m q).0 is)
        | inr (n, is) ↦ (j, is)
      ]),
      (λ (j, was). dite (ℕ_discrete j i)
          (λ e. (i, now_at (Is m q) ((alike m q).1 (subst (λ (k : ℕ). Is m q (f k)) e was))))
          (λ n. (j, still (Is m q) j n was))),
    )

  pub keeps : (P : ℕ → X → Type 0) → ((m : ℕ) → P m (f i) → P m x) → Keeps (λ m. (j : ℕ) → P m (f j)) (λ m. (j : ℕ) → P m (g j))
  keeps P alike m all = each_place (P m) (alike m (all i)) (λ j n. all j)

-- no ticket of n is there to be taken away
pub none_less : (has : ℕ → ℕ → Type 0) (n : ℕ) → ((q : ℕ) → ¬ has n q) → OneLess has has n
none_less has n none = (
  none,
  λ m q. (
    (λ is. ((λ e. none q (subst (λ (r : ℕ). has r q) e is)), is)),
    (λ (other, is). is),
  ),
)
