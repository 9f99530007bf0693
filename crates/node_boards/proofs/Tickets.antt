-- What a plain data seat has after one of its places was written.
use Rattle.std.proofs.Common.{◌≡◌, ◌≢◌, ℕ, ◌<◌, ◌⊎◌, ◌↔◌, inl, inr, true, List, length, get_or, set, refl, sym, ap, ◌∙◌, subst, arith, Option, None, Some}
use Rattle.std.proofs.lemmas.List.{get_or_past}
use native.Mathlib.Decide.{dec_lt}
use Rattle.race_board.specs.Keys.{parent_key}
use Rattle.node_boards.specs.Seats.{SameTickets, OneMore, OneLess}
use Rattle.node_boards.specs.PlainSeats.{ticket, IsOf, IsHeld, ClearIfOf, KeepsTicket, KeepsClear, NoneOf, IsAt, Apart}
use Rattle.node_boards.specs.declared.plain_rows.Held.{Held}
use Rattle.node_boards.proofs.Lookups.{Writes, writes_set, each_place, at_place, one_more, one_less, none_less, same}

held_of : (n p : ℕ) (t : Option Held) → IsOf n p t → IsHeld n t
held_of n p None is = is
held_of n p (Some h) is = is.0

one_number : (m q n r : ℕ) (t : Option Held) → IsOf m q t → IsOf n r t → m ≡ n
one_number m q n r None is was = absurd is
one_number m q n r (Some h) is was = sym is.0 ∙ was.0

pub clear_unless : (n : ℕ) (t : Option Held) → ¬ IsHeld n t → ClearIfOf n t
clear_unless n None other = tt
clear_unless n (Some h) other = λ same. absurd (other same)

-- nor past the last place
pub none_held : (l : List (Option Held)) (n : ℕ) → NoneOf l n → (i : ℕ) → ¬ IsHeld n (ticket l i)
none_held l n none i is = elim (dec_lt i (length l)) [
  | yes within ↦ none i within is
  | no past ↦ let P : Option Held → Type 0 = λ t. IsHeld n t in subst P (get_or_past l i None (omega arith)) is
]

pub none_has : (l : List (Option Held)) (n : ℕ) → NoneOf l n → (q : ℕ) → ¬ KeepsTicket l n q
none_has l n none q (i, is) = none_held l n none i (held_of n q (ticket l i) is)

-- a free place is taken, for a number that has no ticket
module _ (l : List (Option Held)) (i : ℕ) (h : Held) (within : i < length l) (free : ticket l i ≡ None) (none : NoneOf l h.number) where
  write : Writes (λ j. get_or l j None) (λ j. get_or (set l i (Some h)) j None) i (Some h)
  write = writes_set l i (Some h) None within

  pub more_held : OneMore (KeepsTicket l) (KeepsTicket (set l i (Some h))) h.number (parent_key h.parent)
  more_held = one_more write IsOf h.number (parent_key h.parent)
      (λ m q is. let P : Option Held → Type 0 = λ t. IsOf m q t in subst P free is)
      (refl, refl)
      (λ m q (a, b). (sym a, sym b))
      (none_has l h.number none)

  pub apart_more : Apart l → Apart (set l i (Some h))
  apart_more apart j k n a b =
      let alone : (k : ℕ) → h.number ≡ n → ¬ IsHeld n (ticket l k) = λ k e is. none_held l h.number none k (subst (λ (m : ℕ). IsHeld m (ticket l k)) (sym e) is) in
      elim (at_place write (IsHeld n) j a) [
        | inl (e, is) ↦ elim (at_place write (IsHeld n) k b) [
          | inl (f, is') ↦ e ∙ sym f
          | inr (m, was) ↦ absurd (alone k is was)
        ]
        | inr (m, was) ↦ elim (at_place write (IsHeld n) k b) [
          | inl (f, is) ↦ absurd (alone j is was)
          | inr (m', was') ↦ apart j k n was was'
        ]
      ]

  pub clear_more : h.is_clear ≡ true → KeepsClear (set l i (Some h)) h.number
  clear_more is = each_place write (ClearIfOf h.number) (λ same. is) (λ j n. clear_unless h.number (ticket l j) (none_held l h.number none j))

-- a place is written, which held a ticket
module _ (l : List (Option Held)) (n i : ℕ) (h : Held) (at : IsAt l n i h) (apart : Apart l) where
  held_here : IsHeld n (ticket l i)
  held_here = let P : Option Held → Type 0 = λ t. IsHeld n t in subst P (sym at.1) at.2

  only_here : (j q : ℕ) → IsOf n q (ticket l j) → j ≡ i
  only_here j q is = apart j i n (held_of n q (ticket l j) is) held_here

  -- the place holds no other number than before
  pub apart_within : (x : Option Held) → ((m : ℕ) → IsHeld m x → h.number ≡ m) → Apart (set l i x)
  apart_within x alike j k m a b =
      let was : (j : ℕ) → IsHeld m (ticket (set l i x) j) → IsHeld m (ticket l j) = λ j is. elim (at_place (writes_set l i x None at.0) (IsHeld m) j is) [
        | inl (e, is) ↦ let P : Option Held → Type 0 = λ t. IsHeld m t in subst P (sym (ap (ticket l) e ∙ at.1)) (alike m is)
        | inr (other, was) ↦ was
      ] in apart j k m (was j a) (was k b)

  pub less_held : OneLess (KeepsTicket l) (KeepsTicket (set l i None)) n
  less_held = one_less (writes_set l i None None at.0) IsOf n (parent_key h.parent)
      (let P : Option Held → Type 0 = λ t. IsOf n (parent_key h.parent) t in subst P (sym at.1) (at.2, refl))
      (λ m q is. is)
      (λ m q r t is was. one_number m q n r t is was)
      only_here

  -- its check was clear
  module _ (k : Held) (number : k.number ≡ h.number) (parent : k.parent ≡ h.parent) (is_clear : k.is_clear ≡ true) where
    pub same_held : SameTickets (KeepsTicket l) (KeepsTicket (set l i (Some k)))
    same_held = same (writes_set l i (Some k) None at.0) IsOf (λ m q. (
      (λ (a, b). let P : Option Held → Type 0 = λ t. IsOf m q t in subst P (sym at.1) (sym number ∙ a, ap parent_key (sym parent) ∙ b)),
      (λ is. let P : Option Held → Type 0 = λ t. IsOf m q t in let (a, b) = subst P at.1 is in (number ∙ a, ap parent_key parent ∙ b)),
    ))

    pub now_clear : KeepsClear (set l i (Some k)) n
    now_clear = each_place (writes_set l i (Some k) None at.0) (ClearIfOf n) (λ same. is_clear)
        (λ j other. clear_unless n (ticket l j) (λ is. other (apart j i n is held_here)))
