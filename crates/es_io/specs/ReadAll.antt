-- What each answer of `read_all` that is an error says.
use Rattle.std.specs.Prelude.{ℕ, Ok, Err}
use Rattle.std.specs.declared.result.Result.{Result}
use Rattle.es_io.specs.declared.whole.ReadAll.{ReadAll}
use Rattle.es_io.specs.declared.whole.ReadAll.TheVariants.{ReadFault, TooLong, Memory}

-- the fact for an answer `ReadFault`
abbrev pub OnReadFault : {T : Type 0} → Result T ReadAll → Type 0 → Type 0
OnReadFault (Err ReadFault) P = P
OnReadFault (Err (TooLong n)) P = Unit {0}
OnReadFault (Err Memory) P = Unit {0}
OnReadFault (Ok x) P = Unit {0}

-- the fact for an answer `TooLong`, of the number that it carries
abbrev pub IfTooLong : {T : Type 0} → Result T ReadAll → (ℕ → Type 0) → Type 0
IfTooLong (Err ReadFault) P = Unit {0}
IfTooLong (Err (TooLong n)) P = P n
IfTooLong (Err Memory) P = Unit {0}
IfTooLong (Ok x) P = Unit {0}
