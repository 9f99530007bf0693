use Rattle.std.proofs.Common.{rules, ◌≡◌, ℕ, false, List, [], ◌∷◌, ◌++◌, Some, None, ap, sym, subst, ◌∙◌, inr}
use Rattle.std.specs.Option.{option_copied_mut}
use Rattle.std.specs.BTreeMap.{get}
use Rattle.query_match.specs.Values.{value_cmp, value_eq}
use Rattle.query_match.specs.declared.scalar.Scalar.{Scalar}
use Rattle.shard_docs.specs.Places.{places_at, with_place}
use Rattle.shard_docs.proofs.Adding.{May, may_of, some_of}
use Rattle.shard_docs.proofs.Updated.{at_values, other_values, listed}
use Rattle.shard_docs.proofs.index.add_at.Goals as goal

pub returns-in-Some : goal.returns-in-Some
returns-in-Some c =
    let old = c.args.values.now in
    let new = c.get_mut.follows.lender c.push_once.new.places in
    let places = c.in-Some.places.now in
    let more = c.push_once.new.places in
    let read : get value_cmp old c.args.value ≡ Some places = sym c.get_mut.ensures.value ∙ ap option_copied_mut c.in-Some.is in
    let was : places_at old c.args.value ≡ places.items = ap listed read in
    let may = may_of c.args.place places.items more.items c.push_once.result c.push_once.ensures.ok c.push_once.ensures.err in
    let updates = ((c.get_mut.follows.holds more).3 (some_of (get value_cmp old c.args.value) places read)).0 in record {
      added = search rules;
      others = at_values old new c.args.value more updates c.args.place (subst (λ (l : List ℕ). May c.args.place l more.items) (sym was) may);
      kept = other_values old new c.args.value more updates;
    }

pub returns : goal.returns
returns c =
    let was = c.get_mut.follows.lender-at-none in
    let new = c.insert.new.self in
    let stays : was ≡ c.args.values.now = c.get_mut.follows.holds-at-none in
    let none : get value_cmp was c.args.value ≡ None = subst (λ m. get value_cmp m c.args.value ≡ None) (sym stays) (sym c.get_mut.ensures.value ∙ ap option_copied_mut c.in_default.is) in
    let more = c.push.new.self in
    let one : more.items ≡ with_place c.args.place [] = c.in_ok-push.ensures.items ∙ ap (λ l. l ++ c.args.place ∷ []) c.new-places.ensures.items in
    let may : May c.args.place (places_at was c.args.value) more.items = inr (one ∙ ap (with_place c.args.place) (sym (ap listed none))) in
    let updates = c.in_ok-insert.ensures.updates.0 in record {
      added = search rules;
      others = subst (λ m. (v : _) → May c.args.place (places_at m v) (places_at new v)) stays (at_values was new c.args.value more updates c.args.place may);
      kept = subst (λ m. (v : Scalar) → value_eq c.args.value v ≡ false → places_at new v ≡ places_at m v) stays (other_values was new c.args.value more updates);
    }
