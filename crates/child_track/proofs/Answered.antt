-- An answered ask takes one from its node's count, and one from the count of all.
use Rattle.std.proofs.Common.{◌≡◌, Bool, ℕ, ◌+◌, ◌-◌, ◌<◌, List, Option, None, Some, false, cond, count_by, is_some, All, IfSome, arith, refl, ap, sym, length, get_or, set, inl, inr, length-set, get_or-set_same, get_or-set_other}
use Rattle.std.proofs.lemmas.List.Sums.{sum_by-set}
use Rattle.std.proofs.lemmas.Bool.{cases_eq, eq-eqb, ne_eqb}
use Rattle.task_ids.specs.Limits.{IsNode}
use Rattle.child_track.specs.Track.{is_at}
use Rattle.child_track.specs.TrackFields.{CountsAreRight}

count_by-set_none : (p : Option ℕ → Bool) (asks : List (Option ℕ)) (place node : ℕ) → place < length asks → get_or asks place None ≡ Some node → p None ≡ false → count_by p (set asks place None) + cond (p (Some node)) 1 0 ≡ count_by p asks
count_by-set_none p asks place node within was none =
    let changed = sum_by-set (λ a. cond (p a) 1 0) asks place None None within in
    let at : ◌≡◌ {A = ℕ} (cond (p (get_or asks place None)) 1 0) (cond (p (Some node)) 1 0) = ap (λ (a : Option ℕ). cond (p a) 1 0) was in
    let nothing : ◌≡◌ {A = ℕ} (cond (p None) 1 0) 0 = ap (λ (b : Bool). cond b 1 0) none in
    omega (arith, changed, at, nothing)

module _ (asks : List (Option ℕ)) (waiting : List ℕ) (open_asks place node : ℕ) (right : CountsAreRight asks waiting open_asks) (within : place < length asks) (was : get_or asks place None ≡ Some node) (room : node < length waiting) where
  of_nodes_after : All (λ ask. IfSome ask IsNode) (set asks place None)
  of_nodes_after k d inside =
      elim (cases_eq k place) [
        | inl same ↦ (let nothing : get_or (set asks place None) place d ≡ None = get_or-set_same asks place None d within in rw (same, nothing) tt)
        | inr other ↦ (let kept : get_or (set asks place None) k d ≡ get_or asks k d = get_or-set_other asks place k None d other in rw kept (right.of_nodes k d (omega (arith, length-set asks place None))))
      ]

  at_each_after : (m : ℕ) → m < 16 → get_or (set waiting node (get_or waiting node 0 - 1)) m 0 ≡ count_by (is_at m) (set asks place None)
  at_each_after m below =
      let before = right.at_each m below in
      let taken = count_by-set_none (is_at m) asks place node within was refl in
      elim (cases_eq node m) [
        | inl same ↦ (let less : get_or (set waiting node (get_or waiting node 0 - 1)) node 0 ≡ get_or waiting node 0 - 1 = get_or-set_same waiting node (get_or waiting node 0 - 1) 0 room in
            let at_m : get_or (set waiting node (get_or waiting node 0 - 1)) m 0 ≡ get_or waiting m 0 - 1 = rw (← same) less in
            let one : ◌≡◌ {A = ℕ} (cond (is_at m (Some node)) 1 0) 1 = ap (λ (b : Bool). cond b 1 0) (eq-eqb node m same) in
            omega (arith, at_m, one, taken, before))
        | inr other ↦ (let kept : get_or (set waiting node (get_or waiting node 0 - 1)) m 0 ≡ get_or waiting m 0 = get_or-set_other waiting node m (get_or waiting node 0 - 1) 0 (λ e. other (sym e)) in
            let zero : ◌≡◌ {A = ℕ} (cond (is_at m (Some node)) 1 0) 0 = ap (λ (b : Bool). cond b 1 0) (ne_eqb node m other) in
            omega (arith, kept, zero, taken, before))
      ]

  pub CountsAreRight-answered : CountsAreRight (set asks place None) (set waiting node (get_or waiting node 0 - 1)) (open_asks - 1)
  CountsAreRight-answered = record {
    few = omega (arith, right.few, length-set asks place None);
    of_nodes = of_nodes_after;
    at_each = at_each_after;
    in_all = (let taken = count_by-set_none is_some asks place node within was refl in omega (arith, right.in_all));
  }
