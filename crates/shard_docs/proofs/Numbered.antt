-- Numbers that are told of rows: one that is told stays true, and those of one more row are added.
use Rattle.std.proofs.Common.{◌≡◌, ℕ, ℤ, ◌≤◌, Bool, true, false, not, ◌||◌, cond, ltb, List, [], ◌∷◌, ◌++◌, length, map, Option, Some, None, refl, sym, ap, subst, ◌∙◌, ⊎_elim, true≢false}
use Rattle.std.proofs.lemmas.Bool.{cases_Bool}
use Rattle.std.proofs.lemmas.Bool.Decides.{Decides-int_eq}
use Rattle.std.specs.List.{AllByRecursion, slice_get}
use Rattle.std.specs.Option.{option_map_or}
use Rattle.std.specs.Prelude.{IfSome}
use Rattle.task_ids.proofs.Each.{all_joined}
use Rattle.task_ids.specs.declared.doc.Doc.{Doc}
use Rattle.query_match.specs.declared.scalar.Scalar.{Scalar}
use Rattle.query_match.specs.declared.scalar.Scalar.TheVariants.{Whole, Text, Bool as Truth}
use Rattle.query_match.specs.Values.{field_values}
use Rattle.shard_docs.specs.declared.numbers.NumberAt.{NumberAt}
use Rattle.shard_docs.specs.declared.numbers.Numbers.{Numbers}
use Rattle.shard_docs.specs.Deaths.{is_alive_before}
use Rattle.shard_docs.specs.Numbers.{HasNumber, IsNumberAt, numbers_of, GainsOnly, is_only, has_number, is_number_of, AreNumbersOf}
use Rattle.shard_docs.specs.SeenRows.{SeenRow, SeenRows, new_row, doc_alive}
use Rattle.shard_docs.specs.Tables.{deaths}
use Rattle.shard_docs.proofs.Exact.{MayHave, all_still, still_at_row}
use Rattle.shard_docs.proofs.Indexed.{with_row, at_new}
use Rattle.shard_docs.proofs.KeptLemmas.{still_dead}
use Rattle.shard_docs.proofs.RowLemmas.{row_seen}
use Rattle.shard_docs.proofs.TableLemmas.{docs_of}

-- ---- the one value

pub only_this : (n : ℤ) (vs : List Scalar) → vs ≡ Whole n ∷ [] → is_only n vs ≡ true
only_this n vs is = ap (is_only n) is ∙ (Decides-int_eq n n).1 refl

pub this_only : (n : ℤ) (vs : List Scalar) → is_only n vs ≡ true → vs ≡ Whole n ∷ []
this_only n [] h = cc
this_only n (Whole m ∷ []) h = ap (λ k. Whole k ∷ []) ((Decides-int_eq m n).0 h)
this_only n (Whole m ∷ v ∷ vs) h = cc
this_only n (Text t ∷ vs) h = cc
this_only n (Truth b ∷ vs) h = cc

-- ---- some are told still

pub numbers_still : (s t : SeenRows) (numbers : Numbers) → ((f : List ℕ) (n : NumberAt) → is_number_of f s n ≡ true → is_number_of f t n ≡ true) → AreNumbersOf s numbers → AreNumbersOf t numbers
numbers_still s t numbers still are f = all_still (λ n. is_number_of f s n) (λ n. is_number_of f t n) (still f) (numbers_of numbers f) (are f)

-- ---- more are told

all_of : {X : Type 0} (P : X → Type 0) (has : X → Bool) → ((x : X) → P x → has x ≡ true) → (xs : List X) → AllByRecursion P xs → AllByRecursion (λ x. has x ≡ true) xs
all_of P has true_of [] all = tt
all_of P has true_of (x ∷ xs) all = (true_of x all.0, all_of P has true_of xs all.1)

pub gained : (P : List ℕ → NumberAt → Type 0) (s t : SeenRows) (old new : Numbers) → GainsOnly P old new → ((f : List ℕ) (n : NumberAt) → is_number_of f s n ≡ true → is_number_of f t n ≡ true)
    → ((f : List ℕ) (n : NumberAt) → P f n → is_number_of f t n ≡ true) → AreNumbersOf s old → AreNumbersOf t new
gained P s t old new gains still true_of are f =
    let g = gains f in
    let test : NumberAt → Bool = λ n. is_number_of f t n in
    subst (AllByRecursion (λ n. test n ≡ true)) (sym g.1)
    (all_joined (λ n. test n ≡ true) (numbers_of old f) g.0 (all_still (λ n. is_number_of f s n) test (still f) (numbers_of old f) (are f)) (all_of (P f) test (true_of f) g.0 g.2))

-- what the row of a place tells
abbrev pub OfRow : ℕ → Doc → List ℕ → NumberAt → Type 0
OfRow place doc f n = (n.place ≡ place) × HasNumber f n.number doc

pub one_more_row : (s : SeenRows) (doc : Doc) (room place : ℕ) (old new : Numbers) → place ≡ length s.rows → GainsOnly (OfRow place doc) old new → AreNumbersOf s old → AreNumbersOf (with_row s doc room) new
one_more_row s doc room place old new at gains are =
    gained (OfRow place doc) s (with_row s doc room) old new gains (λ f n. still_at_row (has_number f n.number) s doc room n.place)
    (λ f n of_row.
    ap (λ p. option_map_or (MayHave (has_number f n.number) s.oldest) (slice_get (s.rows ++ new_row doc ∷ []) p) false) (of_row.0 ∙ at)
    ∙ at_new (MayHave (has_number f n.number) s.oldest) s.rows (new_row doc)
    ∙ only_this n.number (field_values f doc.source) of_row.1)
    are

-- ---- what is told at a version that can be read

module _ (f : List ℕ) (version : ℕ) (s : SeenRows) (dies : map (λ row. row.died) s.rows ≡ deaths 0 (docs_of s.rows)) (readable : s.oldest ≤ version) where
  shown : (n : ℤ) (below alive : Bool) (doc : Doc) → ((alive ≡ true) → has_number f n doc ≡ true) → IfSome (cond below (cond alive (Some doc) None) None) (HasNumber f n)
  shown n false alive doc has = tt
  shown n true false doc has = tt
  shown n true true doc has = this_only n (field_values f doc.source) (has refl)

  of_place : (place : ℕ) (n : ℤ) (o : Option SeenRow) → option_map_or (MayHave (has_number f n) s.oldest) o false ≡ true → IfSome (cond (ltb place version) (doc_alive version o) None) (HasNumber f n)
  of_place place n None may = absurd cc
  of_place place n (Some row) may =
      shown n (ltb place version) (is_alive_before version row.died) row.doc
      (λ alive.
      ⊎_elim
      (λ kept. sym (ap (λ b. not b || has_number f n row.doc) kept) ∙ may)
      (λ gone. absurd (true≢false (sym alive ∙ still_dead s.oldest version row.died readable gone)))
      (cases_Bool (is_alive_before s.oldest row.died)))

  told : (n : NumberAt) → is_number_of f s n ≡ true → IsNumberAt f version (docs_of s.rows) n
  told n may = subst (λ o. IfSome o (HasNumber f n.number)) (sym (row_seen s.rows dies version n.place)) (of_place n.place n.number (slice_get s.rows n.place) may)

  all_told : (ns : List NumberAt) → AllByRecursion (λ n. is_number_of f s n ≡ true) ns → AllByRecursion (IsNumberAt f version (docs_of s.rows)) ns
  all_told [] all = tt
  all_told (n ∷ ns) all = (told n all.0, all_told ns all.1)

  pub told_at : (numbers : Numbers) → AreNumbersOf s numbers → AllByRecursion (IsNumberAt f version (docs_of s.rows)) (numbers_of numbers f)
  told_at numbers are = all_told (numbers_of numbers f) (are f)
