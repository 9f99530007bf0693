-- What is lent is there where it is copied.
use Rattle.std.proofs.Common.{◌≡◌, Option, Some, None, Bor, refl}
use Rattle.std.specs.Option.{option_copied}
use Rattle.std.specs.Prelude.{is_some}

pub copied_alike : {A : Type 0} (o : Option (Bor A)) → is_some (option_copied o) ≡ is_some o
copied_alike None = refl
copied_alike (Some a) = refl
