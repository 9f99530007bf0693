-- Tables of nodes, by their places.
use Rattle.std.proofs.Common.{◌≡◌, ◌≢◌, ◌⊎◌, ℕ, ◌-◌, ◌≤◌, List, Option, Some, None, refl, sym, inl, inr, arith, subst}
use Rattle.std.specs.Prelude.{slice_get, slice_set}
use Rattle.std.proofs.lemmas.Bool.{cases_eq}
use Rattle.world_moves.proofs.ByPlace.{set_same, set_other}

-- a node of the cluster has its place in a list of which each place within has something
pub at_node : {X : Type 0} (xs : List X) (nodes n : ℕ) → ((place : ℕ) → slice_get xs place ≡ None → nodes ≤ place) → 1 ≤ n → n ≤ nodes → (x : X) × (slice_get xs (n - 1) ≡ Some x)
at_node {X = X} xs nodes n beyond low high = by_place (slice_get xs (n - 1)) refl
  where
    by_place : (o : Option X) → slice_get xs (n - 1) ≡ o → (x : X) × (slice_get xs (n - 1) ≡ Some x)
    by_place (Some x) e = (x, e)
    by_place None e = absurd (let past = beyond (n - 1) e in omega arith)

-- what is said of each place stays so where one is set to what it is to be
pub set_at : {X : Type 0} (P Q : ℕ → Option X → Type 0) (xs : List X) (i : ℕ) (x v : X) → slice_get xs i ≡ Some x → ((place : ℕ) → P place (slice_get xs place)) → Q i (Some v)
    → ((place : ℕ) → place ≢ i → P place (slice_get xs place) → Q place (slice_get xs place)) → (place : ℕ) → Q place (slice_get (slice_set xs i v) place)
set_at {X = X} P Q xs i x v here said this others place = by_case (cases_eq i place)
  where
    by_case : (i ≡ place) ⊎ (i ≢ place) → Q place (slice_get (slice_set xs i v) place)
    by_case (inl same) = subst (λ p. Q p (slice_get (slice_set xs i v) p)) same (subst (Q i) (sym (set_same xs i x v here)) this)
    by_case (inr apart) = subst (Q place) (sym (set_other xs i place v apart)) (others place (λ e. apart (sym e)) (said place))
