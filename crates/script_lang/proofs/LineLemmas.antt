-- Reading a script line by line: what is read of the whole is what is read from here on, after the commands so far.
use Rattle.std.proofs.Common.{◌≡◌, ◌<◌, ℕ, ◌+◌, List, [], ◌∷◌, ◌++◌, length, Bool, true, false, cond, eqb, nat_le, IsTrue, Result, Ok, Err, sym, ap, ◌∙◌, subst}
use Rattle.task_ids.specs.declared.cause.Cause.{Cause}
use Rattle.task_ids.specs.declared.cause.Cause.TheVariants.{TooManyLines}
use Rattle.shard_docs.specs.Fault.{Fault, and_then, on_line, MayRunOut}
use Rattle.shard_docs.specs.Json.{is_text, whole_json_of}
use Rattle.shard_docs.proofs.ActionLemmas.{found_on_line}
use Rattle.shard_docs.proofs.TextLines.{text_of_whole, through}
use Rattle.script_lang.specs.declared.command.Command.{Command}
use Rattle.script_lang.specs.declared.command.Mode.{Mode}
use Rattle.script_lang.specs.declared.error.ScriptError.{ScriptError}
use Rattle.script_lang.specs.declared.error.ScriptError.TheVariants.{Bad, Memory}
use Rattle.script_lang.specs.Answers.{Tells}
use Rattle.script_lang.specs.Commands.{command_in}
use Rattle.script_lang.specs.Script.{max_commands, command_of, commands_of}
use Rattle.script_lang.proofs.RunningOut.{line_runs_out, read_runs_out}

-- a fault of a first step is one of both
first_tells : {A B : Type 0} (found : Result A Fault) (f : A → Result B Fault) (error : ScriptError) → Tells error found → Tells error (and_then found f)
first_tells (Ok x) f (Bad line cause) told = cc
first_tells (Err e) f (Bad line cause) told = let same : ◌≡◌ {A = Fault} e (line, cause) = cc in ap Err same
first_tells found f (Memory line) told = tt

module _ (mode : Mode) (nodes number : ℕ) (before : List Command) (here : List (List ℕ)) (whole : Result (List Command) Fault) (so_far : commands_of mode nodes number before here ≡ whole) where
  pub read_at_end : here ≡ [] → whole ≡ Ok before
  unfolding commands_of
  read_at_end none = sym so_far ∙ ap (commands_of mode nodes number before) none

  module _ (line : List ℕ) (rest : List (List ℕ)) (split : here ≡ line ∷ rest) where
    from_line : commands_of mode nodes number before (line ∷ rest) ≡ whole
    from_line = ap (commands_of mode nodes number before) (sym split) ∙ so_far

    pub after_empty : eqb (length line) 0 ≡ true → commands_of mode nodes (number + 1) before rest ≡ whole
    unfolding commands_of
    after_empty empty = rw empty at from_line

    module _ (some : eqb (length line) 0 ≡ false) where
      from_command : and_then (on_line number (command_of mode nodes before line)) (λ command. commands_of mode nodes (number + 1) (before ++ command ∷ []) rest) ≡ whole
      unfolding commands_of
      from_command = rw some at from_line

      pub command_fails : (error : ScriptError) → Tells error (on_line number (command_of mode nodes before line)) → Tells error whole
      command_fails error told =
          subst (Tells error) from_command
          (first_tells (on_line number (command_of mode nodes before line)) (λ command. commands_of mode nodes (number + 1) (before ++ command ∷ []) rest) error told)

      -- memory may run out at its line while the command is read, and once it was
      pub short_here : length before < 65535 → IsTrue (is_text line) → MayRunOut whole number
      short_here few text = subst (λ found. MayRunOut found number) from_command (line_runs_out mode nodes number before line rest few text)

      pub short_after : (command : Command) → on_line number (command_of mode nodes before line) ≡ Ok command → MayRunOut whole number
      short_after command is = subst (λ found. MayRunOut found number) from_command (read_runs_out mode nodes number before line rest command is)

      pub goes_on : (command : Command) → on_line number (command_of mode nodes before line) ≡ Ok command → commands_of mode nodes (number + 1) (before ++ command ∷ []) rest ≡ whole
      goes_on command is = sym (ap (λ found. and_then found (λ x. commands_of mode nodes (number + 1) (before ++ x ∷ []) rest)) is) ∙ from_command

-- ---- a line that was read

if_few : {A : Type 0} (many : Bool) (found : Result A Cause) (x : A) → cond many (Err TooManyLines) found ≡ Ok x → found ≡ Ok x
if_few true found x e = cc
if_few false found x e = e

-- a command that is read stands on a line that may be read
pub text_of_command : (mode : Mode) (nodes number : ℕ) (before : List Command) (line : List ℕ) (command : Command) → on_line number (command_of mode nodes before line) ≡ Ok command → IsTrue (is_text line)
unfolding command_of
text_of_command mode nodes number before line command e =
    through (whole_json_of line) (command_in mode nodes before) command
    (if_few (nat_le max_commands (length before)) _ command (found_on_line number (command_of mode nodes before line) command e)) (text_of_whole line)
