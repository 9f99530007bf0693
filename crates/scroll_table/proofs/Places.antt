-- Each task of a row has a place of its own, also after one more and one less.
use Rattle.std.proofs.Common.{◌≡◌, ◌≢◌, ℕ, zero, suc, ◌+◌, ◌-◌, ◌<◌, ◌≤◌, ◌==◌, List, [], ◌∷◌, ◌++◌, length, slice_get, get_or, Option, None, Some, option_map, Bool, true, false, cond, ◌⊎◌, inl, inr, Ordering, Less, Equal, Greater, refl, sym, ap, subst, arith, ◌∙◌, ne_eqb, eq-eqb}
use Rattle.std.specs.Ordering.{is_eq}
use Rattle.std.specs.Cmp.{Equal-is, eq_by_cmp_equiv}
use Rattle.std.specs.BTreeMap.{BTreeMap, get, is_at}
use Rattle.std.proofs.lemmas.Bool.{both_ways, cases_eq}
use Rattle.std.proofs.lemmas.Option.{slice_get_within, slice_get-get_or}
use Rattle.task_ids.specs.declared.task_id.TaskId.{TaskId}
use Rattle.task_ids.specs.TaskIdOrder.{task_id_cmp}
use Rattle.task_ids.proofs.TaskIdKeys.{exact_ids, ids_total}

-- ---- tasks that are one

pub same_at : (a b : TaskId) → is_at (task_id_cmp a) b ≡ true → a ≡ b
same_at a b e = exact_ids a b ((Equal-is (task_id_cmp a b)).0 e)

pub self_at : (a : TaskId) → is_at (task_id_cmp a) a ≡ true
self_at a = (eq_by_cmp_equiv ids_total).refl a

no_self : (a b : TaskId) → is_at (task_id_cmp a) b ≡ false → a ≡ b → ⊥
no_self a b un e = both_ways (is_at (task_id_cmp a) b) un (subst (λ t. is_at (task_id_cmp a) t ≡ true) e (self_at a))

-- ---- numbers that are one

pub at_same : {X : Type 0} (p s : ℕ) (x y : X) → p ≡ s → cond (p == s) x y ≡ x
at_same p s x y e = ap (λ b. cond b x y) (eq-eqb p s e)

pub at_other : {X : Type 0} (p s : ℕ) (x y : X) → (p ≡ s → ⊥) → cond (p == s) x y ≡ y
at_other p s x y ne = ap (λ b. cond b x y) (ne_eqb p s ne)

-- ---- places

-- two tasks have two places
apart : (ids : List TaskId) (id q : TaskId) (p s : ℕ) → slice_get ids p ≡ Some id → slice_get ids s ≡ Some q → is_at (task_id_cmp id) q ≡ false → s ≡ p → ⊥
apart ids id q p s hp hs un e = no_self id q un (some_one id q (sym hp ∙ ap (slice_get ids) (sym e) ∙ hs))
  where
    some_one : (a b : TaskId) → Some a ≡ Some b → a ≡ b
    some_one a b e = cc

one_place : (p s : ℕ) → Some p ≡ Some s → p ≡ s
one_place p s e = cc

-- another moment at the place of a task
module _ (places : ℕ) (old new : ℕ → Option ℕ) (ids : List TaskId) (slots : BTreeMap TaskId ℕ) (id : TaskId) (p : ℕ) (moment : Option ℕ)
    (here : (q : TaskId) (s : ℕ) → get task_id_cmp slots q ≡ Some s → slice_get ids s ≡ Some q) (room : length ids ≤ places)
    (there : get task_id_cmp slots id ≡ Some p)
    (is : (q : ℕ) → q < places → new q ≡ cond (q == p) moment (old q)) where
  pub set_kept : (q : TaskId) → option_map new (get task_id_cmp slots q) ≡ cond (is_at (task_id_cmp id) q) (option_map (λ _. moment) (option_map old (get task_id_cmp slots q))) (option_map old (get task_id_cmp slots q))
  set_kept q = go (is_at (task_id_cmp id) q) (get task_id_cmp slots q) refl refl
    where
      go : (b : Bool) (o : Option ℕ) → is_at (task_id_cmp id) q ≡ b → get task_id_cmp slots q ≡ o → option_map new o ≡ cond b (option_map (λ _. moment) (option_map old o)) (option_map old o)
      go true None e at = refl
      go false None e at = refl
      go true (Some s) e at =
          let within = slice_get_within ids s q (here q s at) in
          ap Some (is s (omega arith) ∙ at_same s p moment (old s) (one_place s p (sym at ∙ ap (get task_id_cmp slots) (sym (same_at id q e)) ∙ there)))
      go false (Some s) e at =
          let within = slice_get_within ids s q (here q s at) in
          ap Some (is s (omega arith) ∙ at_other s p moment (old s) (apart ids id q p s (here id p there) (here q s at) e))

-- ---- one more

pushed_here : (ids : List TaskId) (x : TaskId) → slice_get (ids ++ x ∷ []) (length ids) ≡ Some x
pushed_here [] x = refl
pushed_here (y ∷ ids) x = pushed_here ids x

pushed_old : (ids : List TaskId) (x q : TaskId) (s : ℕ) → slice_get ids s ≡ Some q → slice_get (ids ++ x ∷ []) s ≡ Some q
pushed_old [] x q s e = absurd (cc)
pushed_old (y ∷ ids) x q zero e = e
pushed_old (y ∷ ids) x q (suc s) e = pushed_old ids x q s e

pushed : (ids : List TaskId) (x q : TaskId) (s : ℕ) → slice_get (ids ++ x ∷ []) s ≡ Some q → (slice_get ids s ≡ Some q) ⊎ ((s ≡ length ids) × (x ≡ q))
pushed [] x q zero e = inr (refl, cc)
pushed [] x q (suc s) e = absurd (cc)
pushed (y ∷ ids) x q zero e = inl e
pushed (y ∷ ids) x q (suc s) e = later (pushed ids x q s e)
  where
    later : (slice_get ids s ≡ Some q) ⊎ ((s ≡ length ids) × (x ≡ q)) → (slice_get ids s ≡ Some q) ⊎ ((suc s ≡ suc (length ids)) × (x ≡ q))
    later (inl f) = inl f
    later (inr f) = inr (ap suc f.0, f.1)

module _ (ids : List TaskId) (slots more : BTreeMap TaskId ℕ) (id : TaskId)
    (here : (q : TaskId) (s : ℕ) → get task_id_cmp slots q ≡ Some s → slice_get ids s ≡ Some q)
    (back : (q : TaskId) (s : ℕ) → slice_get ids s ≡ Some q → get task_id_cmp slots q ≡ Some s)
    (fresh : get task_id_cmp slots id ≡ None) (place : ℕ) (last : place ≡ length ids)
    (put : (q : TaskId) → get task_id_cmp more q ≡ cond (is_at (task_id_cmp id) q) (Some place) (get task_id_cmp slots q)) where
  pub put_here : (q : TaskId) (s : ℕ) → get task_id_cmp more q ≡ Some s → slice_get (ids ++ id ∷ []) s ≡ Some q
  put_here q s e = go (is_at (task_id_cmp id) q) refl (sym (put q) ∙ e)
    where
      go : (b : Bool) → is_at (task_id_cmp id) q ≡ b → cond b (Some place) (get task_id_cmp slots q) ≡ Some s → slice_get (ids ++ id ∷ []) s ≡ Some q
      go true is at = ap (slice_get (ids ++ id ∷ [])) (sym (one_place place s at) ∙ last) ∙ pushed_here ids id ∙ ap Some (same_at id q is)
      go false is at = pushed_old ids id q s (here q s at)

  pub put_back : (q : TaskId) (s : ℕ) → slice_get (ids ++ id ∷ []) s ≡ Some q → get task_id_cmp more q ≡ Some s
  put_back q s e = put q ∙ go (is_at (task_id_cmp id) q) refl (pushed ids id q s e)
    where
      go : (b : Bool) → is_at (task_id_cmp id) q ≡ b → (slice_get ids s ≡ Some q) ⊎ ((s ≡ length ids) × (id ≡ q)) → cond b (Some place) (get task_id_cmp slots q) ≡ Some s
      go true is (inl old) = none_there (sym fresh ∙ ap (get task_id_cmp slots) (same_at id q is) ∙ back q s old)
        where
          none_there : None ≡ Some s → Some place ≡ Some s
          none_there f = absurd (cc)
      go false is (inl old) = back q s old
      go true is (inr new) = ap Some (last ∙ sym new.0)
      go false is (inr new) = absurd (no_self id q is new.1)

-- ---- one less

-- the place of what was last is that of what is gone
abbrev place_after : ℕ → ℕ → Bool → Option ℕ → Option ℕ
place_after place last true o = None
place_after place last false None = None
place_after place last false (Some s) = Some (cond (s == last) place s)

module _ (ids less : List TaskId) (slots without : BTreeMap TaskId ℕ) (id : TaskId) (place : ℕ)
    (here : (q : TaskId) (s : ℕ) → get task_id_cmp slots q ≡ Some s → slice_get ids s ≡ Some q)
    (back : (q : TaskId) (s : ℕ) → slice_get ids s ≡ Some q → get task_id_cmp slots q ≡ Some s)
    (there : get task_id_cmp slots id ≡ Some place)
    (gone : (q : TaskId) → get task_id_cmp without q ≡ cond (is_at (task_id_cmp id) q) None (get task_id_cmp slots q)) where
  -- it was the last
  pub gone_last : (last : ℕ) → place ≡ last → (q : TaskId) → get task_id_cmp without q ≡ place_after place last (is_at (task_id_cmp id) q) (get task_id_cmp slots q)
  gone_last last same q = gone q ∙ go (is_at (task_id_cmp id) q) (get task_id_cmp slots q) refl refl
    where
      go : (b : Bool) (o : Option ℕ) → is_at (task_id_cmp id) q ≡ b → get task_id_cmp slots q ≡ o → cond b None o ≡ place_after place last b o
      go true o is at = refl
      go false None is at = refl
      go false (Some s) is at = ap Some (sym (at_other s last place s (λ e. apart ids id q place s (here id place there) (here q s at) is (e ∙ sym same))))

  -- another was, and takes its place
  pub gone_before : (last : ℕ) (m : TaskId) (moved : BTreeMap TaskId ℕ) → slice_get ids last ≡ Some m → ((q : TaskId) → get task_id_cmp moved q ≡ cond (is_at (task_id_cmp m) q) (option_map (λ _. place) (get task_id_cmp without q)) (get task_id_cmp without q)) → (q : TaskId) → get task_id_cmp moved q ≡ place_after place last (is_at (task_id_cmp id) q) (get task_id_cmp slots q)
  gone_before last m moved at_last pointed q =
      pointed q ∙ ap (λ o. cond (is_at (task_id_cmp m) q) (option_map (λ _. place) o) o) (gone q)
      ∙ go (is_at (task_id_cmp m) q) (is_at (task_id_cmp id) q) (get task_id_cmp slots q) refl refl
    where
      go : (b d : Bool) (o : Option ℕ) → is_at (task_id_cmp m) q ≡ b → get task_id_cmp slots q ≡ o → cond b (option_map (λ _. place) (cond d None o)) (cond d None o) ≡ place_after place last d o
      go true true o is at = refl
      go false true o is at = refl
      go true false None is at = refl
      go false false None is at = refl
      go true false (Some s) is at = ap Some (sym (at_same s last place s (one_place s last (sym at ∙ back q last (at_last ∙ ap Some (same_at m q is))))))
      go false false (Some s) is at = ap Some (sym (at_other s last place s (λ e. apart ids m q last s at_last (here q s at) is e)))

  module _ (moved : BTreeMap TaskId ℕ) (len : suc (length less) ≡ length ids)
      (taken : place < length less → slice_get less place ≡ slice_get ids (length less))
      (others : (k : ℕ) → (k ≡ place → ⊥) → k < length less → slice_get less k ≡ slice_get ids k)
      (is : (q : TaskId) → get task_id_cmp moved q ≡ place_after place (length less) (is_at (task_id_cmp id) q) (get task_id_cmp slots q)) where
    pub gone_here : (q : TaskId) (s : ℕ) → get task_id_cmp moved q ≡ Some s → slice_get less s ≡ Some q
    gone_here q s e = go (is_at (task_id_cmp id) q) (get task_id_cmp slots q) refl refl (sym (is q) ∙ e)
      where
        go : (b : Bool) (o : Option ℕ) → is_at (task_id_cmp id) q ≡ b → get task_id_cmp slots q ≡ o → place_after place (length less) b o ≡ Some s → slice_get less s ≡ Some q
        go true o un at f = absurd (cc)
        go false None un at f = absurd (cc)
        go false (Some old) un at f = by (cases_eq old (length less))
          where
            within : place < length ids
            within = slice_get_within ids place id (here id place there)

            far : old ≡ place → ⊥
            far g = apart ids id q place old (here id place there) (here q old at) un g

            by : (old ≡ length less) ⊎ (old ≡ length less → ⊥) → slice_get less s ≡ Some q
            by (inl last) =
                let to : place ≡ s = one_place place s (ap Some (sym (at_same old (length less) place old last)) ∙ f) in
                let low : place < length less = lower (cases_eq place (length less)) in
                ap (slice_get less) (sym to) ∙ taken low ∙ ap (slice_get ids) (sym last) ∙ here q old at
              where
                lower : (place ≡ length less) ⊎ (place ≡ length less → ⊥) → place < length less
                lower (inl g) = absurd (far (last ∙ sym g))
                lower (inr g) = omega (arith, within, len)
            by (inr no_last) =
                let stays : old ≡ s = one_place old s (ap Some (sym (at_other old (length less) place old no_last)) ∙ f) in
                let low = slice_get_within ids old q (here q old at) in
                ap (slice_get less) (sym stays) ∙ others old far (omega (arith, low, len)) ∙ here q old at

    pub gone_back : (q : TaskId) (s : ℕ) → slice_get less s ≡ Some q → get task_id_cmp moved q ≡ Some s
    gone_back q s e = is q ∙ go (is_at (task_id_cmp id) q) refl (cases_eq s place)
      where
        low : s < length less
        low = slice_get_within less s q e

        go : (b : Bool) → is_at (task_id_cmp id) q ≡ b → (s ≡ place) ⊎ (s ≡ place → ⊥) → place_after place (length less) b (get task_id_cmp slots q) ≡ Some s
        go true is_it (inl at) =
            let last = back q (length less) (sym (taken (subst (λ k. k < length less) at low)) ∙ ap (slice_get less) (sym at) ∙ e) in
            let same : place ≡ length less = one_place place (length less) (sym there ∙ ap (get task_id_cmp slots) (same_at id q is_it) ∙ last) in
            absurd (omega (arith, same, at, low))
        go true is_it (inr ne) =
            let was = back q s (sym (others s ne low) ∙ e) in
            absurd (ne (one_place s place (sym was ∙ ap (get task_id_cmp slots) (sym (same_at id q is_it)) ∙ there)))
        go false un (inl at) =
            let last = back q (length less) (sym (taken (subst (λ k. k < length less) at low)) ∙ ap (slice_get less) (sym at) ∙ e) in
            ap (place_after place (length less) false) last ∙ ap Some (at_same (length less) (length less) place (length less) refl ∙ sym at)
        go false un (inr ne) =
            let was = back q s (sym (others s ne low) ∙ e) in
            ap (place_after place (length less) false) was ∙ ap Some (at_other s (length less) place s (λ g. absurd (omega (arith, g, low))))

    module _ (places : ℕ) (old new : ℕ → Option ℕ) (room : length ids ≤ places)
        (moments : (k : ℕ) → k < places → new k ≡ cond (k == length less) None (cond (k == place) (old (length less)) (old k))) where
      pub gone_spare : ((k : ℕ) → length ids ≤ k → k < places → old k ≡ None) → (k : ℕ) → length less ≤ k → k < places → new k ≡ None
      gone_spare spare k le within = moments k within ∙ go (cases_eq k (length less))
        where
          below : place < length ids
          below = slice_get_within ids place id (here id place there)

          go : (k ≡ length less) ⊎ (k ≡ length less → ⊥) → cond (k == length less) None (cond (k == place) (old (length less)) (old k)) ≡ None
          go (inl e) = at_same k (length less) None _ e
          go (inr ne) = at_other k (length less) None _ ne ∙ at_other k place _ _ (λ e. absurd (omega (arith, e, below, len, le, ne))) ∙ spare k (omega (arith, len, le, ne)) within

      pub gone_kept : (q : TaskId) → option_map new (get task_id_cmp moved q) ≡ cond (is_at (task_id_cmp id) q) None (option_map old (get task_id_cmp slots q))
      gone_kept q = ap (option_map new) (is q) ∙ go (is_at (task_id_cmp id) q) (get task_id_cmp slots q) refl refl
        where
          go : (b : Bool) (o : Option ℕ) → is_at (task_id_cmp id) q ≡ b → get task_id_cmp slots q ≡ o → option_map new (place_after place (length less) b o) ≡ cond b None (option_map old o)
          go true o un at = refl
          go false None un at = refl
          go false (Some s) un at = ap Some (by (cases_eq s (length less)))
            where
              below : place < length ids
              below = slice_get_within ids place id (here id place there)

              low : s < length ids
              low = slice_get_within ids s q (here q s at)

              far : s ≡ place → ⊥
              far g = apart ids id q place s (here id place there) (here q s at) un g

              by : (s ≡ length less) ⊎ (s ≡ length less → ⊥) → new (cond (s == length less) place s) ≡ old s
              by (inl e) =
                  ap new (at_same s (length less) place s e)
                  ∙ moments place (omega (arith, below, room))
                  ∙ at_other place (length less) None _ (λ g. far (e ∙ sym g))
                  ∙ at_same place place _ _ refl
                  ∙ ap old (sym e)
              by (inr ne) =
                  ap new (at_other s (length less) place s ne)
                  ∙ moments s (omega (arith, low, room))
                  ∙ at_other s (length less) None _ ne
                  ∙ at_other s place _ _ far

-- what a swap with the last leaves, place by place
module _ (ids less : List TaskId) (place count : ℕ) (all : count ≡ length ids) (len : suc (length less) ≡ length ids) (d : TaskId) where
  pub taken_by_last : ((d : TaskId) → place + 1 < count → get_or less place d ≡ get_or ids (count - 1) d) → place < length less → slice_get less place ≡ slice_get ids (length less)
  taken_by_last by low =
      let last : count - 1 ≡ length less = omega (arith, all, len) in
      slice_get-get_or less place d low ∙ ap Some (by d (omega (arith, len, all, low)) ∙ ap (λ k. get_or ids k d) last)
      ∙ sym (slice_get-get_or ids (length less) d (omega (arith, len)))

  pub others_stay : ((k : ℕ) (d : TaskId) → k ≢ place → k + 1 < count → get_or less k d ≡ get_or ids k d) → (k : ℕ) → (k ≡ place → ⊥) → k < length less → slice_get less k ≡ slice_get ids k
  others_stay by k ne low =
      slice_get-get_or less k d low ∙ ap Some (by k d ne (omega (arith, len, all, low))) ∙ sym (slice_get-get_or ids k d (omega (arith, len, low)))

-- by the place that was last
pub moved_moments : (places from last place : ℕ) (old new : ℕ → Option ℕ) → from ≡ last → ((k : ℕ) → k < places → new k ≡ cond (k == from) None (cond (k == place) (old from) (old k))) → (k : ℕ) → k < places → new k ≡ cond (k == last) None (cond (k == place) (old last) (old k))
moved_moments places from last place old new e = subst (λ n. (k : ℕ) → k < places → new k ≡ cond (k == n) None (cond (k == place) (old n) (old k))) e

-- ---- a moment that has come

pub no_place : {X : Type 0} (f : ℕ → X) (o : Option ℕ) → option_map f o ≡ None → o ≡ None
no_place f None e = refl
no_place f (Some s) e = absurd (cc)
