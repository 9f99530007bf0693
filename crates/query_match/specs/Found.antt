-- The value that was found.
use Rattle.query_match.specs.declared.found.Found.{Found}
use Rattle.query_match.specs.declared.found.Found.TheVariants as cases
use Rattle.query_match.specs.declared.scalar.Scalar.{Scalar}
use Rattle.query_match.specs.declared.scalar.Scalar.TheVariants.{Whole, Text, Bool as Truth}

abbrev pub found_view : Found → Scalar
found_view (cases.Whole n) = Whole n
found_view (cases.Text t) = Text t.now
found_view (cases.Bool b) = Truth b
