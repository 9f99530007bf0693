-- What a plain control seat has after one of its places was written.
use Rattle.std.proofs.Common.{◌≡◌, ◌≢◌, ℕ, ◌<◌, ◌⊎◌, ◌↔◌, inl, inr, List, length, get_or, set, refl, sym, ap, ◌∙◌, subst, arith, Option, None, Some}
use Rattle.std.proofs.lemmas.List.{get_or_past}
use native.Mathlib.Decide.{dec_lt}
use Rattle.task_ids.specs.declared.task_id.TaskId.{TaskId}
use Rattle.task_ids.proofs.SameId.{same_id}
use Rattle.race_board.specs.Keys.{task_key}
use Rattle.node_boards.specs.Seats.{HasBanAt, HasBanOf, OneBanLess}
use Rattle.node_boards.specs.PlainSeats.{placed, KeepsBan, IsBan, IsPlaced, NotPlaced, IsPlacedAt, OneEach}
use Rattle.node_boards.specs.declared.plain_rows.Placed.{Placed}
use Rattle.node_boards.proofs.Lookups.{writes_set, at_place, still}

-- a key is that of one task
pub same_task : (a b : TaskId) → task_key a ≡ task_key b → a ≡ b
unfolding task_key
same_task a b same =
    let x = a.number_in_range in let y = b.number_in_range in
    same_id a b (omega arith) (omega arith)

is_placed : (t : TaskId) (b : Option Placed) (c : ℕ) → IsBan (task_key t) c b → IsPlaced t b
is_placed t None c is = is
is_placed t (Some b) c is = same_task b.parent t is.0

one_parent : (p q c d : ℕ) (b : Option Placed) → IsBan p c b → IsBan q d b → p ≡ q
one_parent p q c d None is was = absurd is
one_parent p q c d (Some b) is was = sym is.0 ∙ was.0

-- a ban stands at a place that there is
pub inside_bans : (l : List (Option Placed)) (j : ℕ) → HasBanAt (KeepsBan l) j → j < length l
inside_bans l j (p, c, is) = elim (dec_lt j (length l)) [
  | yes within ↦ within
  | no past ↦ let P : Option Placed → Type 0 = λ b. IsBan p c b in absurd (subst P (get_or_past l j None (omega arith)) is)
]

pub not_placed : (l : List (Option Placed)) (t : TaskId) → NotPlaced l t → ¬ HasBanOf (KeepsBan l) (task_key t)
not_placed l t none (j, c, is) = none j (inside_bans l j (task_key t, c, is)) (is_placed t (placed l j) c is)

module _ (l : List (Option Placed)) (i : ℕ) (x : Option Placed) (within : i < length l) (alone : OneEach l) where
  -- the place has no other ban than before
  pub one_each_within : ((p c : ℕ) → IsBan p c x → IsBan p c (placed l i)) → OneEach (set l i x)
  one_each_within alike j k p c d a b =
      let was : (j c : ℕ) → KeepsBan (set l i x) j p c → KeepsBan l j p c = λ j c is. elim (at_place (writes_set l i x None within) (IsBan p c) j is) [
        | inl (e, now) ↦ subst (λ (k : ℕ). IsBan p c (placed l k)) (sym e) (alike p c now)
        | inr (other, was) ↦ was
      ] in alone j k p c d (was j c a) (was k d b)

  -- or it has one of a parent that had none
  pub one_each_more : (p : ℕ) → ((q c : ℕ) → IsBan q c x → q ≡ p) → ¬ HasBanOf (KeepsBan l) p → OneEach (set l i x)
  one_each_more p of none j k q c d a b =
      let write = writes_set l i x None within in
      let other : (k d : ℕ) → q ≡ p → ¬ KeepsBan l k q d = λ k d e was. none (k, d, subst (λ (r : ℕ). KeepsBan l k r d) e was) in
      elim (at_place write (IsBan q c) j a) [
        | inl (e, is) ↦ elim (at_place write (IsBan q d) k b) [
          | inl (f, is') ↦ e ∙ sym f
          | inr (m, was) ↦ absurd (other k d (of q c is) was)
        ]
        | inr (m, was) ↦ elim (at_place write (IsBan q d) k b) [
          | inl (f, is) ↦ absurd (other j c (of q d is) was)
          | inr (m', was') ↦ alone j k q c d was was'
        ]
      ]

-- what is left is of other parents
less_of : (old new : ℕ → ℕ → ℕ → Type 0) (p : ℕ) → ((j q c : ℕ) → new j q c ↔ ((q ≢ p) × old j q c)) → OneBanLess old new p
less_of old new p left = ((λ (j, c, is). ((left j p c).0 is).0 refl), left)

module _ (l : List (Option Placed)) (t : TaskId) (i : ℕ) (b : Placed) (at : IsPlacedAt l t i b) where
  ban_here : KeepsBan l i (task_key t) b.cancel
  ban_here = let P : Option Placed → Type 0 = λ x. IsBan (task_key t) b.cancel x in subst P (sym at.1) (ap task_key at.2, refl)

  pub had_ban : HasBanOf (KeepsBan l) (task_key t)
  had_ban = (i, b.cancel, ban_here)

  pub less_bans : OneEach l → OneBanLess (KeepsBan l) (KeepsBan (set l i None)) (task_key t)
  less_bans alone = let write = writes_set l i None None at.0 in less_of (KeepsBan l) (KeepsBan (set l i None)) (task_key t) (λ j q c. (
    (λ is. elim (at_place write (IsBan q c) j is) [
      | inl (e, now) ↦ absurd now
      | inr (other, was) ↦ ((λ e. other (alone j i (task_key t) c b.cancel (subst (λ (r : ℕ). KeepsBan l j r c) e was) ban_here)), was)
    ]),
    (λ (differs, was). still write (IsBan q c) j (λ e. differs (one_parent q (task_key t) c b.cancel (placed l i) (subst (λ (k : ℕ). KeepsBan l k q c) e was) ban_here)) was),
  ))

pub none_less : (l : List (Option Placed)) (p : ℕ) → ¬ HasBanOf (KeepsBan l) p → OneBanLess (KeepsBan l) (KeepsBan l) p
none_less l p none = (
  none,
  λ j q c. (
    (λ is. ((λ e. none (j, c, subst (λ (r : ℕ). KeepsBan l j r c) e is)), is)),
    (λ (other, is). is),
  ),
)
