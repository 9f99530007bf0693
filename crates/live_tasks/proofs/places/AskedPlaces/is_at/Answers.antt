-- The ask's place, where it has one, is compared.
use Rattle.std.proofs.Common.{◌≡◌, ◌↔◌, ◌<◌, ◌≤◌, ℕ, Bool, false, List, length, get_or, Option, Some, sym, ap, subst, ◌∙◌, arith}
use Rattle.std.specs.Prelude.{IsTrue, slice_get}
use Rattle.std.proofs.lemmas.Option.{slice_get_within, slice_get-get_or}
use Rattle.node_link.specs.declared.body.Place.{Place}
use Rattle.live_tasks.proofs.Keys.{place_same, same_by_eq}
use Rattle.live_tasks.proofs.places.AskedPlaces.is_at.Goals as goal

one_place : (a b : Place) → ◌≡◌ {A = Option Place} (Some a) (Some b) → a ≡ b
one_place a b e = cc

is_here : (places : List Place) (i : ℕ) (asked place : Place) (r : Bool) → slice_get places i ≡ Some asked → r ≡ place_same asked place → IsTrue r ↔ (slice_get places i ≡ Some place)
is_here places i asked place r at is = ((λ t. at ∙ ap Some ((same_by_eq asked place).0 (sym is ∙ t))), (λ e. is ∙ (same_by_eq asked place).1 (one_place asked place (sym at ∙ e))))

here_of : (xs places : List Place) (i k : ℕ) (asked place : Place) (r : Bool) → xs ≡ places → i ≡ k → i < length xs → asked ≡ get_or xs i asked → r ≡ place_same asked place → IsTrue r ↔ (slice_get places k ≡ Some place)
here_of xs places i k asked place r same number within at is =
    subst (λ l. IsTrue r ↔ (slice_get l k ≡ Some place)) same (subst (λ j. IsTrue r ↔ (slice_get xs j ≡ Some place)) number (is_here xs i asked place r (slice_get-get_or xs i asked within ∙ ap Some (sym at)) is))

past : (xs : List Place) (i : ℕ) (place : Place) → length xs ≤ i → slice_get xs i ≡ Some place → IsTrue false
past xs i place over e = absurd (let within = slice_get_within xs i place e in omega arith)

past_of : (xs places : List Place) (i k : ℕ) (place : Place) → xs ≡ places → i ≡ k → length xs ≤ i → IsTrue false ↔ (slice_get places k ≡ Some place)
past_of xs places i k place same number over =
    subst (λ l. IsTrue false ↔ (slice_get l k ≡ Some place)) same (subst (λ j. IsTrue false ↔ (slice_get xs j ≡ Some place)) number ((λ t. absurd (cc)), past xs i place over))

pub returns-in-Some : goal.returns-in-Some
returns-in-Some c =
    let l = c.in-Some.ensures.lookup in
    here_of _ _ _ _ _ _ _ (c.deref.ensures.value ∙ c.self.view_is) c.saturating_sub.ensures l.3.0 l.1 c.eq.ensures

pub returns-in-None : goal.returns-in-None
returns-in-None c = past_of _ _ _ _ _ (c.deref.ensures.value ∙ c.self.view_is) c.saturating_sub.ensures c.in-None.ensures.lookup.3
