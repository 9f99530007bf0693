-- The key of a document for a sort, and the order of keys.
use Rattle.std.specs.Prelude.{List, Bool, true, false, Option, Some, None, map, fold, if◌then◌else◌}
use Rattle.std.specs.declared.cmp.Ordering.{Ordering}
use Rattle.std.specs.declared.cmp.Ordering.TheVariants.{Less, Equal, Greater}
use Rattle.std.specs.Ordering.{is_lt, is_gt}
use Rattle.std.specs.Cmp.Lexicographic.{slice_cmp}
use Rattle.serde_json.specs.Data.{Data}
use Rattle.query_match.specs.declared.scalar.Scalar.{Scalar}
use Rattle.query_match.specs.declared.sort.SortBy.{SortBy}
use Rattle.query_match.specs.declared.sort.KeyPart.{KeyPart}
use Rattle.query_match.specs.declared.sort.KeyPart.TheVariants.{Ascending, Descending, Missing}
use Rattle.query_match.specs.Values.{value_cmp, field_values}

-- ascending by the least value, descending by the greatest; a document without a value stands last either way
abbrev pub part_cmp : KeyPart → KeyPart → Ordering
part_cmp (Ascending v) (Ascending w) = value_cmp v w
part_cmp (Ascending v) (Descending w) = Less
part_cmp (Ascending v) Missing = Less
part_cmp (Descending v) (Ascending w) = Greater
part_cmp (Descending v) (Descending w) = value_cmp w v
part_cmp (Descending v) Missing = Less
part_cmp Missing (Ascending w) = Greater
part_cmp Missing (Descending w) = Greater
part_cmp Missing Missing = Equal

-- a tie goes by the next entry of the sort
abbrev pub key_cmp : List KeyPart → List KeyPart → Ordering
key_cmp = slice_cmp part_cmp

abbrev pub goes_before : Bool → Scalar → Scalar → Bool
goes_before false v w = is_lt (value_cmp v w)
goes_before true v w = is_gt (value_cmp v w)

abbrev pub better : Bool → Option Scalar → Scalar → Option Scalar
better descending None v = Some v
better descending (Some w) v = if goes_before descending v w then Some v else Some w

-- the least of the values, or descending the greatest
abbrev pub best_of : Bool → List Scalar → Option Scalar
best_of descending vs = fold (better descending) None vs

abbrev pub part_of : Bool → Option Scalar → KeyPart
part_of descending None = Missing
part_of false (Some v) = Ascending v
part_of true (Some v) = Descending v

abbrev pub part_at : Data → SortBy → KeyPart
part_at source by = part_of by.descending (best_of by.descending (field_values by.field source))

abbrev pub key_of : List SortBy → Data → List KeyPart
key_of sort source = map (part_at source) sort
