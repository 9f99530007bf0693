use Rattle.std.proofs.Common.{◌≡◌, ℕ, List, [], ◌∷◌, ◌++◌, Some, None, sym, ap, subst, ◌∙◌, refl, cond, string_bytes}
use Rattle.std.proofs.lemmas.List.{append-nil}
use Rattle.std.specs.Option.{option_copied_mut}
use Rattle.std.specs.HashMap.{get_by_text}
use Rattle.std.specs.Str.{bytes_eq}
use Rattle.std.proofs.lemmas.Map.Text.{hash_map_updates_text}
use Rattle.shard_docs.specs.declared.numbers.NumberAt.{NumberAt}
use Rattle.shard_docs.specs.declared.numbers.Numbers.{Numbers}
use Rattle.shard_docs.specs.Numbers.{numbers_of, GainsOnly}
use Rattle.shard_docs.proofs.Adding.{some_of}
use Rattle.shard_docs.proofs.Gaining.{listed, gains_at}
use Rattle.shard_docs.proofs.numbers.Numbers.add_number.Goals as goal

-- what is added
abbrev This : List ℕ → NumberAt → List ℕ → NumberAt → Type 0
This field number f n = (f ≡ field) × (n ≡ number)

pub returns-in_err-push : goal.returns-in_err-push
returns-in_err-push c =
    let old = c.args.self.now in
    let field = c.args.field.now in
    let numbers = c.in-Some.numbers.now in
    let more = c.push.new.self in
    let new : Numbers = record { alloc = old.alloc; fields = c.get_mut.follows.lender more } in
    let read : get_by_text old.fields field ≡ Some numbers = sym c.get_mut.ensures.value ∙ ap option_copied_mut c.in-Some.is in
    let updates = hash_map_updates_text field old.fields (c.get_mut.follows.lender more) (Some more) ((c.get_mut.follows.holds more).3 (some_of (get_by_text old.fields field) numbers read)) in
    gains_at (This field c.args.number) old new field more [] updates (c.in_err-push.ensures.items ∙ sym (ap listed read) ∙ sym (append-nil (numbers_of old field))) tt

pub returns-in-Some : goal.returns-in-Some
returns-in-Some c =
    let old = c.args.self.now in
    let field = c.args.field.now in
    let numbers = c.in-Some.numbers.now in
    let more = c.push.new.self in
    let new : Numbers = record { alloc = old.alloc; fields = c.get_mut.follows.lender more } in
    let read : get_by_text old.fields field ≡ Some numbers = sym c.get_mut.ensures.value ∙ ap option_copied_mut c.in-Some.is in
    let updates = hash_map_updates_text field old.fields (c.get_mut.follows.lender more) (Some more) ((c.get_mut.follows.holds more).3 (some_of (get_by_text old.fields field) numbers read)) in
    gains_at (This field c.args.number) old new field more (c.args.number ∷ []) updates (c.in_ok-push.ensures.items ∙ ap (λ l. l ++ c.args.number ∷ []) (sym (ap listed read))) ((refl, refl), tt)

pub returns : goal.returns
returns c =
    let was = c.get_mut.follows.lender-at-none in
    let stays : was ≡ c.args.self.now.fields = c.get_mut.follows.holds-at-none in
    let field = c.args.field.now in
    let old : Numbers = record c.args.self.now { fields = was } in
    let new : Numbers = record c.args.self.now { fields = c.insert.new.self } in
    let none : get_by_text was field ≡ None = subst (λ m. get_by_text m field ≡ None) (sym stays) (sym c.get_mut.ensures.value ∙ ap option_copied_mut c.in_default.is) in
    let more = c.push-2.new.self in
    let one : more.items ≡ numbers_of old field ++ c.args.number ∷ [] = c.in_ok-push-2.ensures.items ∙ ap (λ l. l ++ c.args.number ∷ []) (c.new-numbers.ensures.items ∙ sym (ap listed none)) in
    let updates = subst (λ (i : List ℕ). (q : List ℕ) → get_by_text c.insert.new.self q ≡ cond (bytes_eq i q) (Some more) (get_by_text was q)) c.in_ok-from_str.ensures.ok
    (hash_map_updates_text (string_bytes c.in_ok-from_str.field-0) was c.insert.new.self (Some more) c.in_ok-insert.ensures.updates) in
    subst (λ m. GainsOnly (This field c.args.number) (record c.args.self.now { fields = m }) new) stays
    (gains_at (This field c.args.number) old new field more (c.args.number ∷ []) updates one ((refl, refl), tt))
