-- The mark in a word.
use Rattle.std.proofs.Common.{rules, ◌∙◌, ◌≡◌, ◌≢◌, ℕ, Option, Some, None, cond, sym, ap, eq-eqb, ne_eqb}
use mathlib.Core.Logic.{dite}
use native.Mathlib.Decide.{ℕ_discrete}
use Rattle.race_board.specs.Words.{cancel}
use Rattle.race_board.specs.Keys.{mark_in}

pub no_mark_in : (w : ℕ) → cancel w ≡ 0 → mark_in w ≡ None
no_mark_in w e = ap (λ b. let m : Option ℕ = cond b None (Some (cancel w)) in m) (eq-eqb (cancel w) 0 e)

pub some_mark_in : (w : ℕ) → cancel w ≢ 0 → mark_in w ≡ Some (cancel w)
some_mark_in w n = ap (λ b. let m : Option ℕ = cond b None (Some (cancel w)) in m) (ne_eqb (cancel w) 0 n)

pub cleared_mark : (w : ℕ) → mark_in w ≡ None → cancel w ≡ 0
cleared_mark w e = dite (ℕ_discrete (cancel w) 0) (λ f. f) (λ f. let g : Some (cancel w) ≡ None = sym (some_mark_in w f) ∙ e in grind rules)

pub cancelled_mark : (w c : ℕ) → mark_in w ≡ Some c → (cancel w ≡ c) × (c ≢ 0)
cancelled_mark w c e = dite (ℕ_discrete (cancel w) 0)
    (λ f. let g : None ≡ Some c = sym (no_mark_in w f) ∙ e in grind rules)
    (λ f. let g : Some (cancel w) ≡ Some c = sym (some_mark_in w f) ∙ e in let h : cancel w ≡ c = grind rules in (h, λ k. f (h ∙ k)))
