-- Places that compare alike are one, and what a table has at each key after one changed.
use Rattle.std.proofs.Common.{rules, ◌≡◌, ◌≢◌, ℕ, ◌⊎◌, ◌↔◌, ◌∙◌, inl, inr, Bool, true, false, Option, None, refl, sym, subst}
use Rattle.std.specs.Ordering.{nat_cmp}
use Rattle.std.specs.Cmp.{IsTotalOrder, eq_by_cmp_equiv}
use Rattle.std.specs.BTreeMap.{BTreeMap, get, is_at, Updates}
use Rattle.std.proofs.lemmas.Bool.{both_ways, cases_eq}
use Rattle.std.proofs.lemmas.Map.Lookups.{CmpEqualImpliesEq, exact_pairs, exact_unsigned}
use Rattle.std.proofs.lemmas.Map.Views.{tells_apart}
use Rattle.node_link.specs.declared.body.Place.{Place}
use Rattle.node_link.specs.contracts.body.PlacePartialEq.TheImpl as place_eq
use Rattle.node_link.specs.contracts.body.PlaceOrd.TheImpl.Laws as place_laws
use Rattle.live_tasks.specs.Order.{action_cmp, place_cmp}
use Rattle.live_tasks.specs.Live.{ChangesAt}

-- each two keys are one, or they are not
pub by_key : {K X : Type 0} → ((a b : K) → (a ≡ b) ⊎ (a ≢ b)) → (P : K → Option X → Type 0) (old new : K → Option X) (k : K) (x : Option X) → ChangesAt old new k x → P k x → ((q : K) → q ≢ k → P q (old q)) → (q : K) → P q (new q)
by_key decide P old new k x change here others q = by_case (decide q k)
  where
    by_case : (q ≡ k) ⊎ (q ≢ k) → P q (new q)
    by_case (inl e) = subst (λ j. P j (new j)) (sym e) (subst (P k) (sym change.0) here)
    by_case (inr ne) = subst (P q) (sym (change.1 q ne)) (others q ne)

pub by_number : {X : Type 0} (P : ℕ → Option X → Type 0) (old new : ℕ → Option X) (n : ℕ) (x : Option X) → ChangesAt old new n x → P n x → ((m : ℕ) → m ≢ n → P m (old m)) → (m : ℕ) → P m (new m)
by_number P old new n x change here others m = by_key cases_eq P old new n x change here others m

-- ---- places

places_total : IsTotalOrder place_cmp
places_total = place_laws.total-law

exact_actions : CmpEqualImpliesEq action_cmp
exact_actions a b h = search rules

exact_places : CmpEqualImpliesEq place_cmp
exact_places a b h =
    let same = exact_pairs nat_cmp _ exact_unsigned (exact_pairs nat_cmp _ exact_unsigned (exact_pairs nat_cmp _ exact_unsigned (exact_pairs action_cmp nat_cmp exact_actions exact_unsigned))) (a.command, (a.search, (a.slice, (a.action, a.shard)))) (b.command, (b.search, (b.slice, (b.action, b.shard)))) h in
    λ i. record { command = (same i).0; search = (same i).1.0; slice = (same i).1.1.0; action = (same i).1.1.1.0; shard = (same i).1.1.1.1 }

pub same_place : (a b : Place) → is_at (place_cmp a) b ≡ true → a ≡ b
same_place a b e = tells_apart exact_places a b e

pub self_place : (a : Place) → is_at (place_cmp a) a ≡ true
self_place a = (eq_by_cmp_equiv places_total).refl a

no_self : (a b : Place) → is_at (place_cmp a) b ≡ false → a ≢ b
no_self a b un e = both_ways (is_at (place_cmp a) b) un (subst (λ p. is_at (place_cmp a) p ≡ true) e (self_place a))

-- `==` of places
abbrev pub place_same : Place → Place → Bool
place_same = (place_eq.ghosts).eq

pub same_by_eq : (a b : Place) → (place_same a b ≡ true) ↔ (a ≡ b)
same_by_eq a b = ((λ e. same_place a b (sym (place_laws.matches_eq-law a b) ∙ e)), (λ e. place_laws.matches_eq-law a b ∙ subst (λ p. is_at (place_cmp a) p ≡ true) e (self_place a)))

pub places_eq : (a b : Place) → (a ≡ b) ⊎ (a ≢ b)
places_eq a b = by_test (is_at (place_cmp a) b) refl
  where
    by_test : (t : Bool) → is_at (place_cmp a) b ≡ t → (a ≡ b) ⊎ (a ≢ b)
    by_test true e = inl (same_place a b e)
    by_test false e = inr (no_self a b e)

-- what one update leaves at each key
pub number_updated : {X : Type 0} (old new : BTreeMap ℕ X) (k : ℕ) (w : Option X) → Updates nat_cmp old new k w → ChangesAt (get nat_cmp old) (get nat_cmp new) k w
number_updated old new k w u = (u.1, λ q other. u.2 q (unequal q other))
  where
    unequal : (q : ℕ) → q ≢ k → is_at (nat_cmp k) q ≡ false
    unequal q other = by_test (is_at (nat_cmp k) q) refl
      where
        by_test : (t : Bool) → is_at (nat_cmp k) q ≡ t → is_at (nat_cmp k) q ≡ false
        by_test false e = e
        by_test true e = absurd (other (sym (tells_apart exact_unsigned k q e)))

pub place_updated : {X : Type 0} (old new : BTreeMap Place X) (k : Place) (w : Option X) → Updates place_cmp old new k w → ChangesAt (get place_cmp old) (get place_cmp new) k w
place_updated old new k w u = (u.1, λ q other. u.2 q (unequal q other))
  where
    unequal : (q : Place) → q ≢ k → is_at (place_cmp k) q ≡ false
    unequal q other = by_test (is_at (place_cmp k) q) refl
      where
        by_test : (t : Bool) → is_at (place_cmp k) q ≡ t → is_at (place_cmp k) q ≡ false
        by_test false e = e
        by_test true e = absurd (other (sym (same_place k q e)))

-- a key that was new is taken out again
pub taken_back : {K X : Type 0} → ((a b : K) → (a ≡ b) ⊎ (a ≢ b)) → (old mid new : K → Option X) (k : K) (x : Option X) → old k ≡ None → ChangesAt old mid k x → ChangesAt mid new k None → (q : K) → new q ≡ old q
taken_back decide old mid new k x free put took q = by_key decide (λ j o. o ≡ old j) mid new k None took (sym free) (λ j other. put.1 j other) q
