use Rattle.std.proofs.Common.{rules, ◌≡◌, true, [], ◌∷◌, sym, ap, ◌∙◌}
use Rattle.std.proofs.lemmas.Int.{to_z-of_z}
use Rattle.std.specs.Int.{w64}
use Rattle.std.specs.Prelude.{ℤ}
use mir.Val.{SFits, of_z, to_z}
use Rattle.serde_json.specs.View.{view}
use Rattle.query_match.specs.declared.scalar.Scalar.TheVariants.{Whole}
use Rattle.query_match.specs.Values.{is_key, values_in}
use Rattle.shard_docs.specs.declared.numbers.NumberAt.{NumberAt}
use Rattle.shard_docs.proofs.Gaining.{gains_as}
use Rattle.shard_docs.proofs.OneNumber.{number_in}
use Rattle.shard_docs.proofs.numbers.Numbers.add_member.Goals as goal

pub returns-in-Some : goal.returns-in-Some
returns-in-Some c =
    let key = c.args.key.now in
    let value = c.args.value.now in
    let fits : SFits w64 c.in-Some.number = search rules in
    let passed : ℤ = to_z w64 (of_z w64 c.in-Some.number) in
    let same : passed ≡ c.in-Some.number = to_z-of_z w64 c.in-Some.number fits in
    let this : NumberAt = record { place = c.args.place; number = passed } in
    let plain = sym c.is_key.ensures ∙ c.if-is_key.true in
    let only = number_in (view value) c.in-Some.number c.in-Some.ensures in
    gains_as (λ f n. (f ≡ key) × (n ≡ this)) (λ f n. (f ≡ key) × (is_key f ≡ true) × (n.place ≡ c.args.place) × (values_in (view value) ≡ Whole n.number ∷ [])) c.args.self.now c.add_number.new.self
    (λ f n is. (
      is.0,
      ap is_key is.0 ∙ plain,
      ap (λ (m : NumberAt). m.place) is.1,
      only ∙ ap (λ k. Whole k ∷ []) (sym same) ∙ ap (λ (m : NumberAt). Whole m.number ∷ []) (sym is.1),
    ))
    c.add_number.ensures
