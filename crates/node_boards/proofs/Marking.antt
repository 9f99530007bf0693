-- What a plain control seat has marked after a mark and after a list.
use Rattle.std.proofs.Common.{◌≡◌, ◌≢◌, ℕ, ◌<◌, ◌⊎◌, inl, inr, List, [], length, take, get_or, refl, sym, ap, ◌∙◌, subst, arith, Option, None, Some, Contains, MatchOption}
use Rattle.std.proofs.lemmas.List.{get_or-set_same}
use native.Mathlib.Decide.{dec_lt}
use Rattle.race_board.specs.Keys.{task_key}
use Rattle.task_table.specs.declared.ended.MarkAnswer.TheVariants.{Marked}
use Rattle.node_boards.specs.Plain.{Rows, ban, Marks}
use Rattle.node_boards.specs.PlainLists.{Lists, Passed, handed_at, handed_below, last, last_of}
use Rattle.node_boards.specs.PlainSeats.{KeepsMark, IsBan}
use Rattle.node_boards.specs.declared.plain_rows.Ban.{Ban}
use Rattle.node_boards.specs.declared.plain_rows.Placed.{Placed}
use Rattle.node_boards.proofs.Passing.{handed_from, handed_to}

pub marked_now : (t u : Rows) (kept now : List (Option ℕ)) (n c : ℕ) → Marks t u kept now n c Marked → KeepsMark now n
marked_now t u kept now n c (i, live, at, unmarked, wrote, within, is) = (i, ap (λ l. last l i) is ∙ get_or-set_same kept i (Some n) None within)

-- a place that is not free has a ban
pub some_ban : (b : Option Placed) → b ≢ None → (p c : ℕ) × IsBan p c b
some_ban None taken = absurd (taken refl)
some_ban (Some b) taken = (task_key b.parent, b.cancel, (refl, refl))

one_of : (got before : Option ℕ) (n : ℕ) → last_of got before ≡ Some n → (before ≡ Some n) ⊎ (got ≡ Some n)
one_of None before n is = inl is
one_of (Some m) before n is = inr is

module _ (b : Ban) (t u : Rows) (kept now : List (Option ℕ)) (passed : Passed b t kept (length kept) u now) where
  known_of : (n : ℕ) → Contains (handed_below b t kept (length kept)) n → KeepsMark now n
  known_of n there = let (k, l, is) = handed_from b t kept (length kept) n there in
      (k, passed.kept_below k l ∙ ap (λ g. last_of g (last kept k)) is)

  only_of : (n : ℕ) → KeepsMark now n → KeepsMark kept n ⊎ Contains (handed_below b t kept (length kept)) n
  only_of n (k, is) = elim (dec_lt k (length kept)) [
    | yes l ↦ elim (one_of (handed_at b t kept k) (last kept k) n (sym (passed.kept_below k l) ∙ is)) [
      | inl was ↦ inl (k, was)
      | inr now' ↦ inr (handed_to b t kept (length kept) k n l now')
    ]
    | no m ↦ inl (k, sym (passed.same_kept k (λ l. omega arith)) ∙ is)
  ]

module _ (t u : Rows) (kept now : List (Option ℕ)) (count : ℕ) (found : List ℕ) where
  -- of the ban at a place
  ListsOf : Option Ban → Type 0
  ListsOf at = MatchOption at
      ((count ≡ 0) × (u ≡ t) × (now ≡ kept))
      (λ b. (take count found ≡ handed_below b t kept (length kept)) × Passed b t kept (length kept) u now)

  listed_known_of : (at : Option Ban) → ListsOf at → (n : ℕ) → Contains (take count found) n → KeepsMark now n
  unfolding ListsOf
  listed_known_of None lists n there = let (k, l, is) = subst (λ (m : ℕ). Contains (take m found) n) lists.0 there in absurd (omega (arith, l))
  listed_known_of (Some b) lists n there = known_of b t u kept now lists.1 n (subst (λ (l : List ℕ). Contains l n) lists.0 there)

  listed_only_of : (at : Option Ban) → ListsOf at → (n : ℕ) → KeepsMark now n → KeepsMark kept n ⊎ Contains (take count found) n
  unfolding ListsOf
  listed_only_of None lists n is = inl (subst (λ (l : List (Option ℕ)). KeepsMark l n) lists.2 is)
  listed_only_of (Some b) lists n is = elim (only_of b t u kept now lists.1 n is) [
    | inl was ↦ inl was
    | inr there ↦ inr (subst (λ (l : List ℕ). Contains l n) (sym lists.0) there)
  ]

  module _ (j : ℕ) (lists : Lists t u kept now j count found) where
    -- each number that is handed over is known as marked
    pub listed_known : (n : ℕ) → Contains (take count found) n → KeepsMark now n
    unfolding ListsOf
    listed_known = listed_known_of (ban t j) lists

    -- and no other is, but those that were before
    pub listed_only : (n : ℕ) → KeepsMark now n → KeepsMark kept n ⊎ Contains (take count found) n
    unfolding ListsOf
    listed_only = listed_only_of (ban t j) lists
