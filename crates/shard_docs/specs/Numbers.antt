-- Numbers that rows have at a field.
use Rattle.std.specs.Prelude.{◌≡◌, ℕ, ℤ, List, [], ◌∷◌, ◌++◌, Bool, true, false, not, ◌||◌, slice_get, IfSome}
use Rattle.std.specs.List.{AllByRecursion}
use Rattle.std.specs.Option.{option_map_or}
use Rattle.std.specs.HashMap.{get_by_text}
use Rattle.std.specs.Ordering.{int_eq}
use Rattle.task_ids.specs.declared.doc.Doc.{Doc}
use Rattle.task_ids.specs.Rows.{row_at}
use Rattle.query_match.specs.declared.scalar.Scalar.{Scalar}
use Rattle.query_match.specs.declared.scalar.Scalar.TheVariants.{Whole, Text, Bool as Truth}
use Rattle.query_match.specs.Values.{field_values}
use Rattle.shard_docs.specs.declared.numbers.NumberAt.{NumberAt}
use Rattle.shard_docs.specs.declared.numbers.Numbers.{Numbers}
use Rattle.shard_docs.specs.Deaths.{is_alive_before}
use Rattle.shard_docs.specs.SeenRows.{SeenRows}

-- a number is the one value that a document has at a field
abbrev pub HasNumber : List ℕ → ℤ → Doc → Type 0
HasNumber f n doc = field_values f doc.source ≡ Whole n ∷ []

-- where a row of its place is alive at a version, the number is its one value at a field
abbrev pub IsNumberAt : List ℕ → ℕ → List Doc → NumberAt → Type 0
IsNumberAt f version writes number = IfSome (row_at version number.place writes) (HasNumber f number.number)

-- ---- those that a shard knows

abbrev pub numbers_of : Numbers → List ℕ → List NumberAt
numbers_of numbers f = option_map_or (λ those. those.items) (get_by_text numbers.fields f) []

-- at each field there may be more, each of which is as is said
abbrev pub GainsOnly : (List ℕ → NumberAt → Type 0) → Numbers → Numbers → Type 0
GainsOnly P old new = (f : List ℕ) → (more : List NumberAt) × (numbers_of new f ≡ numbers_of old f ++ more) × AllByRecursion (P f) more

-- the one value is this number
abbrev pub is_only : ℤ → List Scalar → Bool
is_only n [] = false
is_only n (Whole m ∷ []) = int_eq m n
is_only n (Whole m ∷ v ∷ vs) = false
is_only n (Text t ∷ vs) = false
is_only n (Truth b ∷ vs) = false

abbrev pub has_number : List ℕ → ℤ → Doc → Bool
has_number f n doc = is_only n (field_values f doc.source)

-- there is a row of its place, and the number is its one value unless it is forgotten
abbrev pub is_number_of : List ℕ → SeenRows → NumberAt → Bool
is_number_of f s number = option_map_or (λ row. not (is_alive_before s.oldest row.died) || has_number f number.number row.doc) (slice_get s.rows number.place) false

abbrev pub AreNumbersOf : SeenRows → Numbers → Type 0
AreNumbersOf s numbers = (f : List ℕ) → AllByRecursion (λ number. is_number_of f s number ≡ true) (numbers_of numbers f)
