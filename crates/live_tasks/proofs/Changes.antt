-- One live task changes, comes or goes: each task is kept under its number and found by its place.
use Rattle.std.proofs.Common.{◌≡◌, ◌≢◌, ℕ, ◌↔◌, Option, None, Some, refl, sym, subst, ◌∙◌}
use Rattle.std.specs.Prelude.{IfSome}
use Rattle.node_link.specs.declared.body.Place.{Place}
use Rattle.live_tasks.specs.declared.entry.Entry.{Entry}
use Rattle.live_tasks.specs.Live.{ChangesAt}
use Rattle.live_tasks.specs.Ties.{AreTasks, IsEntry, HasPlace}
use Rattle.live_tasks.proofs.Keys.{by_key, by_number, places_eq}

one_number : (n m : ℕ) → ◌≡◌ {A = Option ℕ} (Some n) (Some m) → n ≡ m
one_number n m e = cc

no_number : (m : ℕ) → ◌≡◌ {A = Option ℕ} None (Some m) → ⊥
no_number m e = cc

module _ (node n : ℕ) (at now : ℕ → Option Entry) (number numbers : Place → Option ℕ) (tasks : AreTasks node at number) where
  -- one changes, and keeps its place
  module _ (e f : Entry) (was : at n ≡ Some e) (change : ChangesAt at now n (Some f)) (same : (p : Place) → numbers p ≡ number p) (place : f.place ≡ e.place) where
    here_still : (p : Place) → (number p ≡ Some n) ↔ HasPlace p (Some e) → (numbers p ≡ Some n) ↔ HasPlace p (Some f)
    here_still p h = ((λ a. place ∙ h.0 (sym (same p) ∙ a)), (λ b. same p ∙ h.1 (sym place ∙ b)))

    pub tasks_changed : IsEntry node n f → AreTasks node now numbers
    tasks_changed is = record {
      entries = by_number (λ m o. IfSome o (IsEntry node m)) at now n (Some f) change is (λ m other. tasks.entries m);
      places = λ p m. by_number (λ m o. (numbers p ≡ Some m) ↔ HasPlace p o) at now n (Some f) change
          (here_still p (subst (λ o. (number p ≡ Some n) ↔ HasPlace p o) was (tasks.places p n)))
          (λ m other. subst (λ o. (o ≡ Some m) ↔ HasPlace p (at m)) (sym (same p)) (tasks.places p m)) m;
    }

  -- one comes, at a place that was free
  module _ (e : Entry) (fresh : at n ≡ None) (free : number e.place ≡ None) (more : ChangesAt at now n (Some e)) (put : ChangesAt number numbers e.place (Some n)) where
    new_here : (m : ℕ) → (Some n ≡ Some m) ↔ HasPlace e.place (now m)
    new_here = by_number (λ m o. (Some n ≡ Some m) ↔ HasPlace e.place o) at now n (Some e) more
        ((λ s. refl), (λ s. refl))
        (λ m other. ((λ s. absurd (other (sym (one_number n m s)))), (λ h. absurd (no_number m (sym free ∙ (tasks.places e.place m).1 h)))))

    new_apart : (q : Place) → q ≢ e.place → (m : ℕ) → (number q ≡ Some m) ↔ HasPlace q (now m)
    new_apart q apart = by_number (λ m o. (number q ≡ Some m) ↔ HasPlace q o) at now n (Some e) more
        ((λ s. absurd (subst (HasPlace q) fresh ((tasks.places q n).0 s))), (λ same. absurd (apart (sym same))))
        (λ m other. tasks.places q m)

    pub tasks_more : IsEntry node n e → AreTasks node now numbers
    tasks_more is = record {
      entries = by_number (λ m o. IfSome o (IsEntry node m)) at now n (Some e) more is (λ m other. tasks.entries m);
      places = λ p. by_key places_eq (λ q o. (m : ℕ) → (o ≡ Some m) ↔ HasPlace q (now m)) number numbers e.place (Some n) put new_here new_apart p;
    }

  -- one goes, and its place is free
  module _ (e : Entry) (was : at n ≡ Some e) (less : ChangesAt at now n None) (left : ChangesAt number numbers e.place None) where
    at_place : number e.place ≡ Some n
    at_place = (tasks.places e.place n).1 (subst (HasPlace e.place) (sym was) refl)

    none_here : (m : ℕ) → (◌≡◌ {A = Option ℕ} None (Some m)) ↔ HasPlace e.place (now m)
    none_here = by_number (λ m o. (◌≡◌ {A = Option ℕ} None (Some m)) ↔ HasPlace e.place o) at now n None less
        ((λ s. absurd (no_number n s)), (λ h. absurd h))
        (λ m other. ((λ s. absurd (no_number m s)), (λ h. absurd (other (one_number m n (sym ((tasks.places e.place m).1 h) ∙ at_place))))))

    rest_apart : (q : Place) → q ≢ e.place → (m : ℕ) → (number q ≡ Some m) ↔ HasPlace q (now m)
    rest_apart q apart = by_number (λ m o. (number q ≡ Some m) ↔ HasPlace q o) at now n None less
        ((λ s. absurd (apart (sym (subst (HasPlace q) was ((tasks.places q n).0 s))))), (λ h. absurd h))
        (λ m other. tasks.places q m)

    pub tasks_less : AreTasks node now numbers
    tasks_less = record {
      entries = by_number (λ m o. IfSome o (IsEntry node m)) at now n None less tt (λ m other. tasks.entries m);
      places = λ p. by_key places_eq (λ q o. (m : ℕ) → (o ≡ Some m) ↔ HasPlace q (now m)) number numbers e.place None left none_here rest_apart p;
    }
