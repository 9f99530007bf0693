-- What a reader answers beside the function that it computes.
use Rattle.std.specs.Prelude.{◌≡◌, ℕ, Result, Ok, Err, IsOk}
use Rattle.task_ids.specs.declared.cause.Cause.{Cause}
use Rattle.shard_docs.specs.declared.fault.CorpusError.{CorpusError}
use Rattle.shard_docs.specs.declared.fault.CorpusError.TheVariants as corpus
use Rattle.shard_docs.specs.declared.fault.LineError.{LineError}
use Rattle.shard_docs.specs.declared.fault.LineError.TheVariants as why
use Rattle.shard_docs.specs.Fault.{Fault}
use Rattle.script_lang.specs.declared.error.ScriptError.{ScriptError}
use Rattle.script_lang.specs.declared.error.ScriptError.TheVariants.{Bad, Memory}

-- a line that is refused in a corpus is refused in a script
abbrev pub same_error : CorpusError → ScriptError
same_error (corpus.Bad line cause) = Bad line cause
same_error (corpus.Memory line) = Memory line

-- an error tells the cause that was found, and want of memory is told only where none was
abbrev pub Says : {Y : Type 0} → LineError → Result Y Cause → Type 0
Says (why.Refused cause) found = found ≡ Err cause
Says why.Memory found = IsOk found

-- what a reader of a command answers: the value or the cause that the definition finds, whatever memory there is for the cause
abbrev pub Reads : {X Y : Type 0} → (X → Y) → Result X LineError → Result Y Cause → Type 0
Reads view (Ok x) found = found ≡ Ok (view x)
Reads view (Err error) found = Says error found

-- an error tells the fault that was found, a line and its cause, unless memory ran out
abbrev pub Tells : {Y : Type 0} → ScriptError → Result Y Fault → Type 0
Tells (Bad line cause) found = found ≡ Err (line, cause)
Tells (Memory line) found = Unit {0}

-- what a reader of lines answers: the value or the fault that the definition finds, unless memory ran out
abbrev pub Gives : {X Y : Type 0} → (X → Y) → Result X ScriptError → Result Y Fault → Type 0
Gives view (Ok x) found = found ≡ Ok (view x)
Gives view (Err error) found = Tells error found

-- the fact for the line at which memory ran out
abbrev pub WhereShort : {X : Type 0} → Result X ScriptError → (ℕ → Type 0) → Type 0
WhereShort (Err (Memory line)) P = P line
WhereShort (Err (Bad line cause)) P = Unit {0}
WhereShort (Ok x) P = Unit {0}
