-- Numbers gain some at one field, and then at others.
use Rattle.std.proofs.Common.{◌≡◌, ℕ, cond, List, [], ◌∷◌, ◌++◌, Option, Some, sym, ap, subst, ◌∙◌, ⊎_elim}
use Rattle.std.proofs.lemmas.Bool.{cases_Bool}
use Rattle.std.proofs.lemmas.List.{append-nil, append_assoc}
use Rattle.std.proofs.lemmas.Slice.Eq.{bytes_eq-Decides}
use Rattle.std.specs.List.{AllByRecursion}
use Rattle.std.specs.Global.{Vec}
use Rattle.std.specs.HashMap.{get_by_text}
use Rattle.std.specs.Option.{option_map_or}
use Rattle.std.specs.Str.{bytes_eq}
use Rattle.task_ids.proofs.Each.{all_joined}
use Rattle.serde_json.specs.Data.{Data}
use Rattle.query_match.specs.declared.scalar.Scalar.TheVariants.{Whole}
use Rattle.query_match.specs.Values.{field_values}
use Rattle.shard_docs.specs.declared.numbers.NumberAt.{NumberAt}
use Rattle.shard_docs.specs.declared.numbers.Numbers.{Numbers}
use Rattle.shard_docs.specs.Numbers.{numbers_of, GainsOnly}

abbrev pub listed : Option (Vec NumberAt) → List NumberAt
listed o = option_map_or (λ those. those.items) o []

module _ (P : List ℕ → NumberAt → Type 0) where
  pub gains_none : (old : Numbers) → GainsOnly P old old
  gains_none old f = ([], sym (append-nil (numbers_of old f)), tt)

  pub gains_both : (a b c : Numbers) → GainsOnly P a b → GainsOnly P b c → GainsOnly P a c
  gains_both a b c first then f =
      let x = first f in
      let y = then f in
      (x.0 ++ y.0, y.1 ∙ ap (λ l. l ++ y.0) x.1 ∙ append_assoc (numbers_of a f) x.0 y.0, all_joined (P f) x.0 y.0 x.2 y.2)

  -- one field has another list, which is the old one and more
  pub gains_at : (old new : Numbers) (field : List ℕ) (numbers : Vec NumberAt) (more : List NumberAt)
      → ((f : List ℕ) → get_by_text new.fields f ≡ cond (bytes_eq field f) (Some numbers) (get_by_text old.fields f))
      → numbers.items ≡ numbers_of old field ++ more → AllByRecursion (P field) more → GainsOnly P old new
  gains_at old new field numbers more updates is all f =
      ⊎_elim
      (λ here.
      let same : field ≡ f = (bytes_eq-Decides field f).0 here in
      let now : numbers_of new f ≡ numbers.items = ap listed (updates f ∙ ap (λ b. cond b (Some numbers) (get_by_text old.fields f)) here) in
      (more, now ∙ is ∙ ap (λ g. numbers_of old g ++ more) same, subst (λ (g : List ℕ). AllByRecursion (P g) more) same all))
      (λ other. ([], ap listed (updates f ∙ ap (λ b. cond b (Some numbers) (get_by_text old.fields f)) other) ∙ sym (append-nil (numbers_of old f)), tt))
      (cases_Bool (bytes_eq field f))

pub gains_as : (P Q : List ℕ → NumberAt → Type 0) (old new : Numbers) → ((f : List ℕ) (n : NumberAt) → P f n → Q f n) → GainsOnly P old new → GainsOnly Q old new
gains_as P Q old new said gains f = let g = gains f in (g.0, g.1, all_as f g.0 g.2)
  where
    all_as : (f : List ℕ) (xs : List NumberAt) → AllByRecursion (P f) xs → AllByRecursion (Q f) xs
    all_as f [] all = tt
    all_as f (x ∷ xs) all = (said f x all.0, all_as f xs all.1)

-- what a document tells of the row of a place
abbrev pub OfSource : ℕ → Data → List ℕ → NumberAt → Type 0
OfSource place source f n = (n.place ≡ place) × (field_values f source ≡ Whole n.number ∷ [])
