-- Each move keeps the rule of an inbox.
use Rattle.std.proofs.Common.{◌≡◌, ◌≢◌, ◌⊎◌, ℕ, zero, suc, ◌+◌, ◌<◌, ◌==◌, Bool, true, false, true≢false, List, [], ◌∷◌, ◌++◌, length, set, sym, refl, inl, inr, ap, ◌∙◌, subst, ⊎_elim, append_assoc, append-nil, eq-eqb, ne_eqb, arith}
use mathlib.Core.Option.{some, some-ne-none, some-injective}
use lib.ListN.{get_elem?}
use Rattle.crossbeam_channel.specs.Fifo.{Pushes, Pops, Forks, Merges, Learns}
use Rattle.node_link.specs.declared.rule.Tagged.{Tagged}
use Rattle.node_link.specs.declared.rule.View.{View}
use Rattle.node_link.specs.Rule.{kept, of, hub, sender, nobody, one_more, beside, with_put, with_got, FitsSender, FitsReceiver, Delivers, Nothing, Whole}

abbrev pick : Bool → ℕ → ℕ → ℕ
pick true a b = a
pick false a b = b

off : false ≡ true → ⊥
off e = true≢false (sym e)

-- the place of each sender's pass, with one more sender
abbrev seated : ℕ → ℕ → (ℕ → ℕ) → ℕ → ℕ
seated p place seat q = pick (q == p) place (seat q)

seated_here : (p place : ℕ) (seat : ℕ → ℕ) (q : ℕ) → q ≡ p → seated p place seat q ≡ place
seated_here p place seat q e = ap (λ b. pick b place (seat q)) (eq-eqb q p e)

seated_else : (p place : ℕ) (seat : ℕ → ℕ) (q : ℕ) → q ≢ p → seated p place seat q ≡ seat q
seated_else p place seat q n = ap (λ b. pick b place (seat q)) (ne_eqb q p n)

-- where one element changes, what holds of each other one holds on
changed : {A : Type 0} (F : ℕ → A → Type 0) (l : List A) (i : ℕ) (a : A) → ((j : ℕ) (u : A) → j ≢ i → get_elem? l j ≡ some u → F j u) → F i a → (j : ℕ) (u : A) → get_elem? (set l i a) j ≡ some u → F j u
changed F [] i a others mine j u e = absurd (some-ne-none u (sym e))
changed F (x ∷ xs) zero a others mine zero u e = subst (F zero) (some-injective a u e) mine
changed F (x ∷ xs) zero a others mine (suc j) u e = others (suc j) u (λ h. omega arith) e
changed F (x ∷ xs) (suc i) a others mine zero u e = others zero u (λ h. omega arith) e
changed F (x ∷ xs) (suc i) a others mine (suc j) u e = changed (λ k. F (suc k)) xs i a (λ k v n is. others (suc k) v (λ h. n (omega arith)) is) mine j u e

module _ {L : Type 0} where
  kept_append : (b : Bool) (x : L) (xs ys : List L) → kept b x (xs ++ ys) ≡ kept b x xs ++ ys
  kept_append true x xs ys = refl
  kept_append false x xs ys = refl

  pub of-append : (p : ℕ) (xs ys : List (Tagged L)) → of p (xs ++ ys) ≡ of p xs ++ of p ys
  of-append p [] ys = refl
  of-append p (x ∷ xs) ys = ap (kept (x.from == p) x.letter) (of-append p xs ys) ∙ kept_append (x.from == p) x.letter (of p xs) (of p ys)

  -- what the rule says of one pass
  abbrev Fits : ℕ → (ℕ → ℕ) → ℕ → List (Tagged L) → List (Tagged L) → ℕ → View L → Type 0
  Fits reader seat made got all pass v = FitsSender seat made all pass v × FitsReceiver reader made got pass v

  -- a letter of sender p is one more of p, and none of another
  of_one : (p : ℕ) (x : Tagged L) → x.from ≡ p → of p (x ∷ []) ≡ x.letter ∷ []
  of_one p x e = ap (λ b. kept b x.letter []) (eq-eqb x.from p e)

  of_none : (p : ℕ) (x : Tagged L) → x.from ≢ p → of p (x ∷ []) ≡ []
  of_none p x n = ap (λ b. kept b x.letter []) (ne_eqb x.from p n)

  pub sends : (n pass : ℕ) (v : View L) (x : Tagged L) → v.sends ≡ true → x.from ≡ v.from → Pushes Delivers n pass v x (λ w. w ≡ with_put v x)
  unfolding Delivers
  sends n pass v x may from items views _ h at =
      let w = with_put v x in
      let mine = h.5 pass v at in
      let me = mine.0 may in
      let all : List (Tagged L) = h.3 ++ (items ++ x ∷ []) in
      let longer : (p : ℕ) → of p all ≡ of p (h.3 ++ items) ++ of p (x ∷ []) = λ p. ap (of p) (sym (append_assoc h.3 items (x ∷ []))) ∙ of-append p (h.3 ++ items) (x ∷ []) in
      let other : (p : ℕ) → p ≢ v.from → of p all ≡ of p (h.3 ++ items) = λ p ne. longer p ∙ (ap (λ l. of p (h.3 ++ items) ++ l) (of_none p x (λ e. ne (sym e ∙ from))) ∙ append-nil (of p (h.3 ++ items))) in
      let own : of v.from all ≡ of v.from (h.3 ++ items) ++ x.letter ∷ [] = longer v.from ∙ ap (λ l. of v.from (h.3 ++ items) ++ l) (of_one v.from x from) in (
        w,
        (
          h.0,
          h.1,
          h.2,
          h.3,
          (λ p le. other p (λ e. let lt = me.1 in omega arith) ∙ h.4 p le),
          changed (Fits h.0 h.1 h.2 h.3 all) views pass w
              (λ j u apart e. ((λ s. let they = (h.5 j u e).0 s in (they.0, they.1, they.2 ∙ sym (other u.from (λ same. apart (sym they.0 ∙ ap h.1 same ∙ me.0))))), (h.5 j u e).1))
              ((λ _. (me.0, me.1, ap (λ l. l ++ x.letter ∷ []) me.2 ∙ sym own)), mine.1),
        ),
        refl,
      )

  pub gets : (pass : ℕ) (v : View L) → v.gets ≡ true → Pops Delivers pass v (λ x w. w ≡ with_got v x)
  unfolding Delivers
  gets pass v may x items views h at =
      let w = with_got v x in
      let mine = h.5 pass v at in
      let me = mine.1 may in
      let got : List (Tagged L) = h.3 ++ x ∷ [] in
      let all : List (Tagged L) = got ++ items in
      let same : all ≡ h.3 ++ (x ∷ items) = append_assoc h.3 (x ∷ []) items in (
        w,
        (
          h.0,
          h.1,
          h.2,
          got,
          (λ p le. ap (of p) same ∙ h.4 p le),
          changed (Fits h.0 h.1 h.2 got all) views pass w
              (λ j u apart e. ((λ s. let they = (h.5 j u e).0 s in (they.0, they.1, they.2 ∙ ap (of u.from) (sym same))), (λ g. absurd (apart (((h.5 j u e).1 g).0 ∙ sym me.0)))))
              ((λ s. let they = mine.0 s in (they.0, they.1, they.2 ∙ ap (of v.from) (sym same))), (λ _. (me.0, me.1, ap (λ l. l ++ x ∷ []) me.2))),
        ),
        refl,
      )

  at_new : (l : List (View L)) (a b : View L) (j : ℕ) → get_elem? (l ++ a ∷ []) j ≡ some b → (get_elem? l j ≡ some b) ⊎ ((j ≡ length l) × (a ≡ b))
  at_new [] a b zero e = inr (refl, some-injective a b e)
  at_new [] a b (suc j) e = absurd (some-ne-none b (sym e))
  at_new (x ∷ xs) a b zero e = inl e
  at_new (x ∷ xs) a b (suc j) e = ⊎_elim (λ t. inl t) (λ t. inr (ap suc t.0, t.1)) (at_new xs a b j e)

  pub forks : (pass : ℕ) (v : View L) → v.gets ≡ true → Forks Delivers pass v (one_more v) (sender v.made [])
  unfolding Delivers
  forks pass v may items views h at =
      let left = one_more v in
      let right : View L = sender v.made [] in
      let mine = h.5 pass v at in
      let me = mine.1 may in
      let there = length (set views pass left) in
      let seat = seated h.2 there h.1 in
      let more = h.2 + 1 in
      let all = h.3 ++ items in
      let old_seat : (q : ℕ) → q < h.2 → seat q ≡ h.1 q = λ q lt. seated_else h.2 there h.1 q (λ e. omega arith) in
      let sends_on : (j : ℕ) (u : View L) → FitsSender h.1 h.2 all j u → FitsSender seat more all j u = λ j u f s. let they = f s in (old_seat u.from they.1 ∙ they.0, (let lt = they.1 in omega arith), they.2) in (
        h.0,
        seat,
        more,
        h.3,
        (λ p le. h.4 p (omega arith)),
        λ j u e. ⊎_elim
            (λ was. changed (Fits h.0 seat more h.3 all) views pass left
            (λ i y apart e'. (sends_on i y (h.5 i y e').0, (λ g. absurd (apart (((h.5 i y e').1 g).0 ∙ sym me.0)))))
            (sends_on pass left mine.0, (λ _. (me.0, ap (λ n. n + 1) me.1, me.2)))
            j u was)
            (λ (new : (j ≡ there) × (right ≡ u)). subst (λ (y : ℕ × View L). Fits h.0 seat more h.3 all y.0 y.1) (λ i. (sym new.0 i, new.1 i))
            ((λ _. (seated_here h.2 there h.1 v.made me.1, (let m = me.1 in omega arith), sym (h.4 v.made (let m = me.1 in omega arith)))), (λ g. absurd (off g))))
            (at_new (set views pass left) right u j e),
      )

  pub merges : (pass : ℕ) (v : View L) (other : ℕ) (w : View L) → v.gets ≡ true → w.sends ≡ true → Merges Delivers pass v other w (beside v w) nobody
  unfolding Delivers
  merges pass v other w may ends items views h at apart there =
      let now = beside v w in
      let me = (h.5 pass v at).1 may in
      let was : get_elem? views other ≡ some w = changed (λ k u. k ≢ pass → get_elem? views k ≡ some u) views pass now (λ k u ne is _. is) (λ ne. absurd (ne refl)) other w there apart in
      let they = (h.5 other w was).0 ends in
      let seat = seated w.from pass h.1 in
      let all = h.3 ++ items in
      let P : ℕ → View L → Type 0 = λ j u. j ≢ other → Fits h.0 seat h.2 h.3 all j u in
      let step : (j : ℕ) (u : View L) → get_elem? (set views pass now) j ≡ some u → P j u =
      changed P views pass now
      (λ j u far e not. ((λ s. let f = (h.5 j u e).0 s in (seated_else w.from pass h.1 u.from (λ same. not (sym f.0 ∙ ap h.1 same ∙ they.0)) ∙ f.0, f.1, f.2)), (h.5 j u e).1))
      (λ _. ((λ _. (seated_here w.from pass h.1 w.from refl, they.1, they.2)), (λ _. me))) in (
        h.0,
        seat,
        h.2,
        h.3,
        h.4,
        changed (Fits h.0 seat h.2 h.3 all) (set views pass now) other nobody (λ j u far e. step j u e far) ((λ s. absurd (off s)), (λ g. absurd (off g))),
      )

  pub nothing : (pass : ℕ) (v : View L) → Learns Delivers pass v (Nothing v)
  nothing pass v items views h at = tt

  nil_of : (xs ys : List L) → xs ++ ys ≡ [] → xs ≡ []
  nil_of [] ys e = refl
  nil_of (x ∷ xs) ys e = absurd (cc)

  pub whole : (pass : ℕ) (v : View L) → v.gets ≡ true → v.sends ≡ true → Learns Delivers pass v (Whole v)
  unfolding Delivers
  whole pass v may ends items views h at =
      let me = (h.5 pass v at).1 may in
      let they = (h.5 pass v at).0 ends in (
        they.2 ∙ of-append v.from h.3 items ∙ ap (λ l. of v.from l ++ of v.from items) (sym me.2),
        λ p le. ap (of p) me.2 ∙ nil_of (of p h.3) (of p items) (sym (of-append p h.3 items) ∙ h.4 p (let m = me.1 in omega arith)),
      )

pub begins : (L : Type 0) → Delivers {L = L} [] (hub 0 [] ∷ [])
unfolding Delivers
begins L = (0, (λ _. 0), 0, [], (λ _ _. refl), one)
  where
    one : (pass : ℕ) (v : View L) → get_elem? (hub 0 [] ∷ []) pass ≡ some v → Fits 0 (λ _. 0) 0 [] [] pass v
    one zero v e = subst (Fits 0 (λ _. 0) 0 [] [] 0) (some-injective _ _ e) ((λ s. absurd (off s)), (λ _. (refl, refl, refl)))
    one (suc pass) v e = absurd (some-ne-none v (sym e))
