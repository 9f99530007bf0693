-- What a call of `gen_top` writes.
use Rattle.std.specs.Prelude.{◌≡◌, ◌<◌, ℕ, List, Option, length, take}
use Rattle.es_io.specs.Bytes.{Appends}
use Rattle.script_lang.specs.Generator.{generated}
use Rattle.top_parts.specs.declared.status.Status.{Status}
use Rattle.top_parts.specs.declared.status.Status.TheVariants.{Done, WriteFault, Memory}

-- what was written grew by exactly the input that the number makes, or by a first part of it, or not at all
abbrev pub WritesInput : (number : ℕ) (old new : Option (List ℕ)) → Status → Type 0
WritesInput number old new Done = Appends old new (generated number)
WritesInput number old new WriteFault = (n : ℕ) × (n < length (generated number)) × Appends old new (take n (generated number))
WritesInput number old new Memory = new ≡ old
WritesInput number old new _ = ⊥
