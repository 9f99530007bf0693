-- The cancels of a script are those of its run.
use Rattle.std.proofs.Common.{◌≡◌, ℕ, ◌+◌, List, Some, add-one}
use Rattle.std.specs.Prelude.{IsSome, slice_get}
use Rattle.script_lang.specs.declared.command.Command.{Command}
use Rattle.run_book.specs.Notes.{cancel_in}
use Rattle.run_top.specs.Kept.{IsCancelOf}

pub each_named : (script : List Command) (place : ℕ) (c : Command) → slice_get script place ≡ Some c → IsSome (cancel_in c) → IsCancelOf script (place + 1)
each_named script place c there some = rw (add-one, there) some
