use Rattle.std.proofs.Common.{◌≡◌, ◌<◌, Some, None, length, arith, sym, ap, subst, ◌∙◌, refl, option_map}
use Rattle.std.proofs.lemmas.List.{length-map}
use Rattle.std.specs.HashMap.{get_by_text}
use Rattle.shard_docs.specs.Candidates.{living_row}
use Rattle.shard_docs.proofs.LivingLemmas.{not_living, is_living, no_text}
use Rattle.shard_docs.proofs.ShardParts.{same_writes}
use Rattle.shard_docs.proofs.TableLemmas.{docs_of, place_within}
use Rattle.shard_docs.proofs.shard.Shard.living.Goals as goal

pub returns-in_default : goal.returns-in_default
returns-in_default c =
    let id = c.args.id.now in
    let living = c.self.inside.living in
    sym (subst (λ docs. living_row id docs ≡ None) (same_writes c.self.view_is) (not_living id c.self.inside.rows.rows living c.self.invariant.0.0 (no_text id living (get_by_text living id) refl c.in_default.ensures.cases.0)))

pub returns-in_err-place : goal.returns-in_err-place
returns-in_err-place c =
    let id = c.args.id.now in
    let living = c.self.inside.living in
    let none : get_by_text living id ≡ None = ap (get_by_text living) (sym c.in-Ok.ensures.cases.0) ∙ sym c.in_err-place.ensures.value in
    ap (option_map (λ found. (found.0, found.1.now))) c.from_residual.ensures
    ∙ sym (subst (λ docs. living_row id docs ≡ None) (same_writes c.self.view_is) (not_living id c.self.inside.rows.rows living c.self.invariant.0.0 none))

pub doc-requires : goal.doc-requires
doc-requires c =
    let id = c.args.id.now in
    let rows = c.self.inside.rows.rows in
    let place = c.in_ok-place.field-0.now in
    let at : get_by_text c.self.inside.living id ≡ Some place = ap (get_by_text c.self.inside.living) (sym c.in-Ok.ensures.cases.0) ∙ sym c.in_ok-place.ensures.value in
    let within : place < length (docs_of rows) = place_within id (docs_of rows) place (sym (c.self.invariant.0.0.places id) ∙ at) in
    omega (arith, within, length-map rows (λ row. row.doc))

pub returns : goal.returns
returns c =
    let id = c.args.id.now in
    let rows = c.self.inside.rows.rows in
    let place = c.in_ok-place.field-0.now in
    let at : get_by_text c.self.inside.living id ≡ Some place = ap (get_by_text c.self.inside.living) (sym c.in-Ok.ensures.cases.0) ∙ sym c.in_ok-place.ensures.value in
    sym (subst (λ docs. living_row id docs ≡ Some (place, c.doc.result.now)) (same_writes c.self.view_is)
    (is_living id rows c.self.inside.living place c.doc.result.now c.self.invariant.0.0 at c.doc.ensures))
