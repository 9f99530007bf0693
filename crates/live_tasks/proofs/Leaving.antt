-- An answer leaves no node but its own, and that one where no other unanswered ask goes there.
use Rattle.std.proofs.Common.{◌≡◌, ◌≢◌, ℕ, ◌+◌, ◌-◌, ◌<◌, ◌≤◌, ◌⊎◌, inl, inr, Bool, true, false, cond, List, Option, None, Some, length, get_or, set, count_by, refl, sym, ap, subst, ◌∙◌, arith}
use Rattle.std.specs.Prelude.{nat_lt, IsSome, IfSome, IfNone, if◌then◌else◌}
use Rattle.task_ids.specs.Limits.{IsNode}
use Rattle.std.proofs.lemmas.Bool.{cases_eq, cases_lt, eq-eqb, ne_eqb, lt-ltb}
use Rattle.std.proofs.lemmas.List.{get_or_past}
use Rattle.std.proofs.lemmas.List.Sums.{sum_by-set}
use Rattle.child_track.specs.Track.{Track, is_at, is_awaited, unanswered_at, with_answer}
use Rattle.live_tasks.specs.Answering.{left_by, unless_awaited}

one_less : (p : Option ℕ → Bool) (asks : List (Option ℕ)) (place node : ℕ) → place < length asks → get_or asks place None ≡ Some node → p None ≡ false → count_by p (set asks place None) + cond (p (Some node)) 1 0 ≡ count_by p asks
one_less p asks place node within was none =
    let changed = sum_by-set (λ a. cond (p a) 1 0) asks place None None within in
    let at : ◌≡◌ {A = ℕ} (cond (p (get_or asks place None)) 1 0) (cond (p (Some node)) 1 0) = ap (λ (a : Option ℕ). cond (p a) 1 0) was in
    let nothing : ◌≡◌ {A = ℕ} (cond (p None) 1 0) 0 = ap (λ (b : Bool). cond b 1 0) none in
    omega (arith, changed, at, nothing)

nothing_past : (asks : List (Option ℕ)) (place node : ℕ) → get_or asks place None ≡ Some node → length asks ≤ place → ⊥
nothing_past asks place node was past = let none = get_or_past asks place None past in cc

module _ (track : Track) (ask m : ℕ) (was : get_or track.asks (ask - 1) None ≡ Some m) where
  within : ask - 1 < length track.asks
  within = by_case (cases_lt (ask - 1) (length track.asks))
    where
      by_case : (ask - 1 < length track.asks) ⊎ (length track.asks ≤ ask - 1) → ask - 1 < length track.asks
      by_case (inl l) = l
      by_case (inr past) = absurd (nothing_past track.asks (ask - 1) m was past)

  pub own_awaited : is_awaited track m ≡ true
  own_awaited =
      let one : ◌≡◌ {A = ℕ} (cond (is_at m (Some m)) 1 0) 1 = ap (λ (b : Bool). cond b 1 0) (eq-eqb m m refl) in
      let less = one_less (is_at m) track.asks (ask - 1) m within was refl in
      lt-ltb 0 (unanswered_at m track) (omega (arith, one, less))

  other_same : (n : ℕ) → n ≢ m → is_awaited (with_answer track ask) n ≡ is_awaited track n
  other_same n other =
      let zero : ◌≡◌ {A = ℕ} (cond (is_at n (Some m)) 1 0) 0 = ap (λ (b : Bool). cond b 1 0) (ne_eqb m n (λ e. other (sym e))) in
      let less = one_less (is_at n) track.asks (ask - 1) m within was refl in
      let same : count_by (is_at n) (set track.asks (ask - 1) None) ≡ count_by (is_at n) track.asks = omega (arith, zero, less) in
      ap (nat_lt 0) same

  -- it is still awaited from the node
  pub left_none : is_awaited (with_answer track ask) m ≡ true → None ≡ left_by track ask
  left_none awaited = sym (ap (unless_awaited (with_answer track ask)) was ∙ ap (λ (b : Bool). if b then None else Some m) awaited)

  -- the node from which nothing is awaited now is this one
  pub left_some : (n : ℕ) → is_awaited track n ≡ true → is_awaited (with_answer track ask) n ≡ false → Some n ≡ left_by track ask
  left_some n before after = by_case (cases_eq n m)
    where
      this : is_awaited (with_answer track ask) m ≡ false → Some m ≡ left_by track ask
      this gone = sym (ap (unless_awaited (with_answer track ask)) was ∙ ap (λ (b : Bool). if b then None else Some m) gone)

      by_case : (n ≡ m) ⊎ (n ≢ m) → Some n ≡ left_by track ask
      by_case (inl e) = ap Some e ∙ this (subst (λ k. is_awaited (with_answer track ask) k ≡ false) e after)
      by_case (inr other) = absurd (let same = other_same n other in cc)

-- what two sets of nodes show of it
pub left_by_sets : (track : Track) (ask : ℕ) (before after : ℕ → Bool) (told : Option ℕ)
    → ((n : ℕ) → before n ≡ is_awaited track n) → ((n : ℕ) → after n ≡ is_awaited (with_answer track ask) n)
    → ((i : ℕ) → IfSome (get_or track.asks i None) IsNode) → IsSome (get_or track.asks (ask - 1) None)
    → IfSome told (λ n. (before n ≡ true) × (after n ≡ false)) → IfNone told ((n : ℕ) → IsNode n → before n ≡ true → after n ≡ true) → told ≡ left_by track ask
left_by_sets track ask before after told was now nodes some found none = by_node (get_or track.asks (ask - 1) None) refl some
  where
    node_of : (m : ℕ) → get_or track.asks (ask - 1) None ≡ Some m → IsNode m
    node_of m e = subst (λ o. IfSome o IsNode) e (nodes (ask - 1))

    by_told : (m : ℕ) → get_or track.asks (ask - 1) None ≡ Some m → (o : Option ℕ) → IfSome o (λ n. (before n ≡ true) × (after n ≡ false)) → IfNone o ((n : ℕ) → IsNode n → before n ≡ true → after n ≡ true) → o ≡ left_by track ask
    by_told m e None f n = left_none track ask m e (sym (now m) ∙ n m (node_of m e) (was m ∙ own_awaited track ask m e))
    by_told m e (Some k) f n = left_some track ask m e k (sym (was k) ∙ f.0) (sym (now k) ∙ f.1)

    by_node : (o : Option ℕ) → get_or track.asks (ask - 1) None ≡ o → IsSome o → told ≡ left_by track ask
    by_node None e some = absurd (cc)
    by_node (Some m) e some = by_told m e told found none
