-- Keys are passed over before they are merged, or after it, alike.
use Rattle.std.specs.Prelude.{◌≡◌, List, [], ◌∷◌, ◌++◌, Bool, true, cond, filter, refl}
use Rattle.std.proofs.Common.{sym, ◌∙◌, ap}
use Rattle.std.proofs.lemmas.List.Elements.{filter-append}
use Rattle.std.specs.List.{flat_map, AllByRecursion}
use Rattle.task_events.specs.declared.request.HitKey.{HitKey}
use Rattle.task_events.specs.HitOrder.{placed, in_hit_order}
use Rattle.search_phase.proofs.Sorting.{by_test}
use Rattle.search_phase.proofs.HitKeys.{stands_first}
use Rattle.search_phase.proofs.Ordered.{IsInOrder, all_behind, placed_first, in_hit_order-in_order}

all-filter : {X : Type 0} (P : X → Type 0) (p : X → Bool) (xs : List X) → AllByRecursion P xs → AllByRecursion P (filter p xs)
all-filter P p [] all = tt
all-filter P p (x ∷ xs) all =
    by_test (p x)
    (λ yes. rw yes (all.0, all-filter P p xs all.1))
    (λ no. rw no (all-filter P p xs all.1))

module _ (p : HitKey → Bool) where
  -- a key that is put among keys in order is put so among those of them that pass, if it passes
  filter-placed : (key : HitKey) (keys : List HitKey) → IsInOrder keys → filter p (placed key keys) ≡ cond (p key) (placed key (filter p keys)) (filter p keys)
  filter-placed key [] sorted = refl
  filter-placed key (next ∷ later) sorted =
      by_test (stands_first key next)
      (λ first.
      let behind : AllByRecursion (λ other. stands_first key other ≡ true) (next ∷ later) = (first, all_behind key next first later sorted.0) in
      let leads : placed key (filter p (next ∷ later)) ≡ key ∷ filter p (next ∷ later) = placed_first key (filter p (next ∷ later)) (all-filter (λ other. stands_first key other ≡ true) p (next ∷ later) behind) in
      let put : placed key (next ∷ later) ≡ key ∷ next ∷ later = rw first refl in
      ap (filter p) put ∙ ap (λ l. cond (p key) l (filter p (next ∷ later))) (sym leads))
      (λ behind.
      let rest : filter p (placed key later) ≡ cond (p key) (placed key (filter p later)) (filter p later) = filter-placed key later sorted.1 in
      by_test (p next)
      (λ yes. by_test (p key)
      (λ passes. rw (behind, yes, passes, behind) (ap (λ l. next ∷ l) (rw passes at rest)))
      (λ fails. rw (behind, yes, fails) (ap (λ l. next ∷ l) (rw fails at rest))))
      (λ no. rw (behind, no) rest))

  pub filter-in_hit_order : (keys : List HitKey) → filter p (in_hit_order keys) ≡ in_hit_order (filter p keys)
  filter-in_hit_order [] = refl
  filter-in_hit_order (key ∷ keys) =
      let rest : filter p (in_hit_order keys) ≡ in_hit_order (filter p keys) = filter-in_hit_order keys in
      filter-placed key (in_hit_order keys) (in_hit_order-in_order keys)
      ∙ by_test (p key)
      (λ passes. rw passes (ap (placed key) rest))
      (λ fails. rw fails rest)

pub filter-flat_map : {S X : Type 0} (p : X → Bool) (f : S → List X) (ss : List S) → filter p (flat_map f ss) ≡ flat_map (λ s. filter p (f s)) ss
filter-flat_map p f [] = refl
filter-flat_map p f (s ∷ ss) = filter-append p (f s) (flat_map f ss) ∙ ap (λ l. filter p (f s) ++ l) (filter-flat_map p f ss)
