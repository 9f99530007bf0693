-- The scan of a list passes one slot more.
use Rattle.std.proofs.Common.{◌≡◌, ◌≢◌, ℕ, zero, suc, ◌+◌, ◌<◌, ◌≤◌, ◌⊎◌, ◌++◌, ◌∷◌, [], inl, inr, List, length, take, get_or, set, refl, sym, ap, ◌∙◌, subst, arith, add-one, Option, None, Some, Contains, length-set}
use Rattle.std.proofs.lemmas.List.{get_or_past, get_or-set_same, get_or-set_other, append-nil, take_more_set}
use Rattle.std.proofs.lemmas.List.Elements.{Contains-append_left, Contains-append_right, Contains-append_cases}
use mathlib.Core.Logic.{dite}
use native.Mathlib.Decide.{ℕ_discrete, dec_lt}
use Rattle.node_boards.specs.Plain.{Rows, slot, with_slot, child_in, struck}
use Rattle.node_boards.specs.PlainLists.{Passed, handed_of, handed_at, handed_below, last, last_of, as_list}
use Rattle.node_boards.specs.declared.plain_rows.Live.{Live}
use Rattle.node_boards.specs.declared.plain_rows.Ban.{Ban}

-- also at a slot that there is not
struck_slot : (b : Ban) (u : Rows) (i : ℕ) → slot (with_slot u i (struck b (slot u i))) i ≡ struck b (slot u i)
struck_slot b u i = elim (dec_lt i (length u.slots)) [
  | yes within ↦ get_or-set_same u.slots i (struck b (slot u i)) None within
  | no past ↦
      let none : slot u i ≡ None = get_or_past u.slots i None (omega arith) in
      let still : slot (with_slot u i (struck b (slot u i))) i ≡ None = get_or_past (set u.slots i (struck b (slot u i))) i None (omega (arith, length-set u.slots i (struck b (slot u i)))) in
      still ∙ sym (ap (struck b) none)
]

module _ (b : Ban) (t u u' : Rows) (marked kept kept' : List (Option ℕ)) (i : ℕ) (got : Option ℕ) (before : Passed b t marked i u kept) (wrote : u' ≡ with_slot u i (struck b (slot u i))) (told : got ≡ handed_of (child_in b (slot u i)) (last kept i)) where
  pub now_handed : got ≡ handed_at b t marked i
  now_handed = told
      ∙ ap (λ s. handed_of (child_in b s) (last kept i)) (before.same_slots i (λ l. omega arith))
      ∙ ap (handed_of (child_in b (slot t i))) (before.same_kept i (λ l. omega arith))

  slots_here : slot u' i ≡ struck b (slot t i)
  slots_here = ap (λ r. slot r i) wrote ∙ struck_slot b u i ∙ ap (struck b) (before.same_slots i (λ l. omega arith))

  slots_else : (k : ℕ) → k ≢ i → slot u' k ≡ slot u k
  slots_else k n = ap (λ r. slot r k) wrote ∙ get_or-set_other u.slots i k (struck b (slot u i)) None n

  module _ (here : last kept' i ≡ last_of got (last kept i)) (else : (k : ℕ) → k ≢ i → last kept' k ≡ last kept k) where
    kept_here : last kept' i ≡ last_of (handed_at b t marked i) (last marked i)
    kept_here = here ∙ ap (λ g. last_of g (last kept i)) now_handed ∙ ap (last_of (handed_at b t marked i)) (before.same_kept i (λ l. omega arith))

    pub passed_more : Passed b t marked (i + 1) u' kept'
    passed_more = record {
      struck_below = λ k l. dite (ℕ_discrete k i)
          (λ e. subst (λ (j : ℕ). slot u' j ≡ struck b (slot t j)) (sym e) slots_here)
          (λ n. slots_else k n ∙ before.struck_below k (omega arith));
      same_slots = λ k l. slots_else k (λ e. l (omega arith)) ∙ before.same_slots k (λ m. l (omega arith));
      kept_below = λ k l. dite (ℕ_discrete k i)
          (λ e. subst (λ (j : ℕ). last kept' j ≡ last_of (handed_at b t marked j) (last marked j)) (sym e) kept_here)
          (λ n. else k n ∙ before.kept_below k (omega arith));
      same_kept = λ k l. else k (λ e. l (omega arith)) ∙ before.same_kept k (λ m. l (omega arith));
      same_bans = ap (λ r. r.bans) wrote ∙ before.same_bans;
    }

only : (got : Option ℕ) (n : ℕ) → Contains (as_list got) n → got ≡ Some n
only None n (k, l, is) = absurd (omega (arith, l))
only (Some m) n (zero, l, is) = ap Some is
only (Some m) n (suc k, l, is) = absurd (omega (arith, l))

module _ (b : Ban) (t : Rows) (marked : List (Option ℕ)) where
  pub handed_more : (i : ℕ) (got : Option ℕ) → got ≡ handed_at b t marked i → handed_below b t marked (i + 1) ≡ handed_below b t marked i ++ as_list got
  handed_more i got is = rw (add-one, is)

  -- who is handed over comes of a slot
  pub handed_from : (i n : ℕ) → Contains (handed_below b t marked i) n → (k : ℕ) × (k < i) × (handed_at b t marked k ≡ Some n)
  handed_from zero n (k, l, is) = absurd (omega (arith, l))
  handed_from (suc i) n there = elim (Contains-append_cases (handed_below b t marked i) (as_list (handed_at b t marked i)) n there) [
    | inl front ↦ let (k, l, is) = handed_from i n front in (k, omega arith, is)
    | inr here ↦ (i, omega arith, only (handed_at b t marked i) n here)
  ]

  -- and who comes of a slot is handed over
  pub handed_to : (i k n : ℕ) → k < i → handed_at b t marked k ≡ Some n → Contains (handed_below b t marked i) n
  handed_to zero k n l is = absurd (omega (arith, l))
  handed_to (suc i) k n l is = dite (ℕ_discrete k i)
      (λ e. Contains-append_right (handed_below b t marked i) (as_list (handed_at b t marked i)) n
      (subst (λ (g : Option ℕ). Contains (as_list g) n) (sym (ap (handed_at b t marked) (sym e) ∙ is)) (0, omega arith, refl)))
      (λ m. Contains-append_left (handed_below b t marked i) (as_list (handed_at b t marked i)) n (handed_to i k n (omega arith) is))
