use Rattle.std.proofs.Common.{rules, ◌≡◌, ℕ, ◌&&◌, List, [], Some, None, ap, sym, subst, ◌∙◌, cond, string_bytes}
use Rattle.std.specs.Option.{option_copied_mut, option_map_or}
use Rattle.std.specs.BTreeMap.{is_at}
use Rattle.std.specs.HashMap.{get_by_text}
use Rattle.std.specs.Map.{lookup}
use Rattle.std.specs.Str.{bytes_eq}
use Rattle.std.proofs.lemmas.Map.Text.{hash_map_updates_text}
use Rattle.query_match.specs.Values.{value_cmp, value_eq, same_bytes}
use Rattle.query_match.specs.declared.scalar.Scalar.{Scalar}
use Rattle.shard_docs.specs.declared.index.Index.{Index}
use Rattle.shard_docs.specs.Places.{places_at, places_of, MayAdd, KeepsUnless}
use Rattle.shard_docs.proofs.Adding.{May, some_of}
use Rattle.shard_docs.proofs.Updated.{at_fields, other_fields}
use Rattle.shard_docs.proofs.index.Index.add_value.Goals as goal

pub returns-in-Some : goal.returns-in-Some
returns-in-Some c =
    let old = c.args.self.now in
    let field = c.args.field.now in
    let values = c.in-Some.values.now in
    let more = c.add_at.new.values in
    let new : Index = record { alloc = old.alloc; fields = c.get_mut.follows.lender more } in
    let read : get_by_text old.fields field ≡ Some values = sym c.get_mut.ensures.value ∙ ap option_copied_mut c.in-Some.is in
    let was : (v : Scalar) → places_of old field v ≡ places_at values v = λ v. ap (λ o. option_map_or (λ those. places_at those v) o []) read in
    let updates = hash_map_updates_text field old.fields (c.get_mut.follows.lender more) (Some more) ((c.get_mut.follows.holds more).3 (some_of (get_by_text old.fields field) values read)) in record {
      added = search rules;
      others = at_fields old new field more updates c.args.place (λ v. subst (λ (l : List ℕ). May c.args.place l (places_at more v)) (sym (was v)) (c.add_at.ensures.others v));
      kept = other_fields old new field more updates c.args.value (λ v apart. c.add_at.ensures.kept v apart ∙ sym (was v));
    }

pub returns : goal.returns
returns c =
    let was = c.get_mut.follows.lender-at-none in
    let stays : was ≡ c.args.self.now.fields = c.get_mut.follows.holds-at-none in
    let field = c.args.field.now in
    let old = record c.args.self.now { fields = was } in
    let new = record c.args.self.now { fields = c.insert.new.self } in
    let none : get_by_text was field ≡ None = subst (λ m. get_by_text m field ≡ None) (sym stays) (sym c.get_mut.ensures.value ∙ ap option_copied_mut c.in_default.is) in
    let more = c.add_at-2.new.values in
    let empty : (v : Scalar) → places_at c.new-values.result v ≡ places_of old field v = λ v.
    ap (λ es. option_map_or (λ places. places.items) (lookup (is_at (value_cmp v)) es) []) c.new-values.ensures.empty ∙ sym (ap (λ o. option_map_or (λ those. places_at those v) o []) none) in
    let updates = subst (λ (i : List ℕ). (q : List ℕ) → get_by_text c.insert.new.self q ≡ cond (bytes_eq i q) (Some more) (get_by_text was q)) c.in_ok-from_str.ensures.ok
    (hash_map_updates_text (string_bytes c.in_ok-from_str.field-0) was c.insert.new.self (Some more) c.in_ok-insert.ensures.updates) in record {
      added = search rules;
      others = subst (λ m. MayAdd c.args.place (record c.args.self.now { fields = m }) new) stays
          (at_fields old new field more updates c.args.place (λ v. subst (λ (l : List ℕ). May c.args.place l (places_at more v)) (empty v) (c.add_at-2.ensures.others v)));
      kept = subst (λ m. KeepsUnless (λ f v. same_bytes f field && value_eq c.args.value v) (record c.args.self.now { fields = m }) new) stays
          (other_fields old new field more updates c.args.value (λ v apart. c.add_at-2.ensures.kept v apart ∙ empty v));
    }
