use Rattle.std.proofs.Common.{◌≡◌, ◌∙◌, ℕ, ◌-◌, ◌≤◌, suc, zero, List, Option, Some, None, Bor, refl, arith, ap, sym}
use Rattle.std.specs.Prelude.{slice_get}
use Rattle.std.specs.Option.{option_copied}
use Rattle.std.specs.Slice.{IsItemAt}
use Rattle.std.proofs.lemmas.Option.{slice_get-get_or, slice_get_past}
use Rattle.command_roots.specs.Roots.{command_at}
use Rattle.world_steps.proofs.results.command_at.Goals as goal

-- commands are numbered from 1
none_below : (n : ℕ) → (1 ≤ n → ⊥) → n ≡ zero
none_below zero low = refl
none_below (suc n) low = absurd (low (omega arith))

one_above : (n place : ℕ) → 1 ≤ n → place ≡ n - 1 → n ≡ suc place
one_above n place low is = omega (arith, low, is)

-- what a slice lends is what stands there
lent_is : {V : Type 0} (xs : List V) (i : ℕ) (r : Option (Bor V)) → IsItemAt xs i r → option_copied r ≡ slice_get xs i
lent_is xs i None h = sym (slice_get_past xs i h.3)
lent_is xs i (Some x) h = ap Some (h.3.1 x.now) ∙ sym (slice_get-get_or xs i x.now h.3.0)

pub returns-in_err-place : goal.returns-in_err-place
returns-in_err-place c = ap option_copied c.from_residual.ensures ∙ sym (ap (command_at c.args.script.now) (none_below c.args.number c.in_err-place.ensures))

pub returns : goal.returns
returns c =
    let at : (1 ≤ c.args.number) × (c.in_ok-place.place ≡ c.args.number - 1) = c.in_ok-place.ensures in
    lent_is c.as_slice.result.now c.in_ok-place.place c.get.result c.get.ensures.lookup ∙ ap (λ commands. slice_get commands c.in_ok-place.place) c.as_slice.ensures
    ∙ sym (ap (command_at c.args.script.now) (one_above c.args.number c.in_ok-place.place at.0 at.1))
