-- The script of some lines, or the first fault: a line, and its first cause.
use Rattle.std.specs.Prelude.{ℕ, ◌+◌, List, [], ◌∷◌, ◌++◌, length, ◌==◌, nat_le, Result, Ok, Err, if◌then◌else◌}
use Rattle.task_ids.specs.declared.cause.Cause.{Cause}
use Rattle.task_ids.specs.declared.cause.Cause.TheVariants.{TooManyLines}
use Rattle.shard_docs.specs.Fault.{Fault, ◌>>=◌, on_line}
use Rattle.shard_docs.specs.Json.{whole_json_of}
use Rattle.script_lang.specs.declared.command.Command.{Command}
use Rattle.script_lang.specs.declared.command.Mode.{Mode}
use Rattle.script_lang.specs.Commands.{command_in}

-- how many commands a script has at most
unfoldable pub max_commands : ℕ
max_commands = 65535

-- the command of a line that is not empty, after other commands
unfoldable pub command_of : Mode → ℕ → List Command → List ℕ → Result Command Cause
command_of mode nodes before line =
    if nat_le max_commands (length before) then Err TooManyLines
    else (do
      value ← whole_json_of line
      command_in mode nodes before value)

-- The commands of some lines, of which the first has this number, after other commands. An empty line is passed over.
unfoldable pub commands_of : Mode → ℕ → ℕ → List Command → List (List ℕ) → Result (List Command) Fault
commands_of mode nodes number before [] = Ok before
commands_of mode nodes number before (line ∷ rest) =
    if length line == 0 then commands_of mode nodes (number + 1) before rest
    else (do
      command ← on_line number (command_of mode nodes before line)
      commands_of mode nodes (number + 1) (before ++ command ∷ []) rest)

-- the script of some lines, of which the first has this number, on a cluster of so many nodes
abbrev pub script_of : Mode → ℕ → ℕ → List (List ℕ) → Result (List Command) Fault
script_of mode nodes number lines = commands_of mode nodes number [] lines
