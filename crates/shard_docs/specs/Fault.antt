-- Refusals: a line of the input, and the cause for which it is refused.
use Rattle.std.specs.Prelude.{◌≡◌, ◌≤◌, ℕ, Bool, true, false, Result, Ok, Err}
use Rattle.task_ids.specs.declared.cause.Cause.{Cause}
use Rattle.task_ids.specs.declared.cause.Cause.TheVariants.{TooManyLines, LineTooLong, BadUtf8}
use Rattle.shard_docs.specs.declared.fault.CorpusError.{CorpusError}
use Rattle.shard_docs.specs.declared.fault.CorpusError.TheVariants.{Bad, Memory}
use Rattle.shard_docs.specs.declared.fault.LineError.{LineError}
use Rattle.shard_docs.specs.declared.fault.LineError.TheVariants as why

-- the number of a line, from 1, and the cause
abbrev pub Fault : Type 0
Fault = ℕ × Cause

-- what is made of a value; an error stays
abbrev pub and_then : {A B E : Type 0} → Result A E → (A → Result B E) → Result B E
and_then (Ok x) f = f x
and_then (Err e) f = Err e

infixl 10 ◌>>=◌
abbrev pub ◌>>=◌ : {A B E : Type 0} → Result A E → (A → Result B E) → Result B E
found >>= f = and_then found f

-- a cause, told at a line
abbrev pub on_line : {A : Type 0} → ℕ → Result A Cause → Result A Fault
on_line line (Ok x) = Ok x
on_line line (Err cause) = Err (line, cause)

-- what was read of the line of this number
abbrev pub read_at : {X : Type 0} → ℕ → Result X LineError → Result X CorpusError
read_at number (Ok x) = Ok x
read_at number (Err (why.Refused cause)) = Err (Bad number cause)
read_at number (Err why.Memory) = Err (Memory number)

-- an error tells the cause that was found at a line, unless memory ran out
abbrev pub Says : {Y : Type 0} → LineError → Result Y Cause → Type 0
Says (why.Refused cause) found = found ≡ Err cause
Says why.Memory found = Unit {0}

-- what a reader of a line answers: the value or the cause that the definition finds, unless memory ran out
abbrev pub Reads : {X Y : Type 0} → (X → Y) → Result X LineError → Result Y Cause → Type 0
Reads view (Ok x) found = found ≡ Ok (view x)
Reads view (Err error) found = Says error found

-- the fact for want of memory at a line
abbrev pub OnMemory : {X : Type 0} → Result X LineError → Type 0 → Type 0
OnMemory (Err why.Memory) P = P
OnMemory (Err (why.Refused cause)) P = Unit {0}
OnMemory (Ok x) P = Unit {0}

-- an error tells the fault that was found, unless memory ran out
abbrev pub Tells : {Y : Type 0} → CorpusError → Result Y Fault → Type 0
Tells (Bad number cause) found = found ≡ Err (number, cause)
Tells (Memory number) found = Unit {0}

-- what a reader answers: the value or the fault that the definition finds, unless memory ran out
abbrev pub Gives : {X Y : Type 0} → (X → Y) → Result X CorpusError → Result Y Fault → Type 0
Gives view (Ok x) found = found ≡ Ok (view x)
Gives view (Err error) found = Tells error found

-- causes that are seen before anything is made of a line
abbrev pub is_seen_at_once : Cause → Bool
is_seen_at_once TooManyLines = true
is_seen_at_once LineTooLong = true
is_seen_at_once BadUtf8 = true
is_seen_at_once _ = false

-- Memory may run out at this line: no line before it is bad, and it isn't bad itself by a cause that is seen at once.
abbrev pub MayRunOut : {Y : Type 0} → Result Y Fault → ℕ → Type 0
MayRunOut (Ok x) at = Unit {0}
MayRunOut (Err fault) at = (at ≤ fault.0) × (at ≡ fault.0 → is_seen_at_once fault.1 ≡ false)

-- the fact for the line at which memory ran out
abbrev pub WhereShort : {X : Type 0} → Result X CorpusError → (ℕ → Type 0) → Type 0
WhereShort (Err (Memory number)) P = P number
WhereShort (Err (Bad number cause)) P = Unit {0}
WhereShort (Ok x) P = Unit {0}
