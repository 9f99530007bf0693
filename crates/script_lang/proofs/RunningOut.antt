-- Where memory may run out while a script is read.
use Rattle.std.proofs.Common.{◌≡◌, ◌<◌, ℕ, ◌+◌, List, [], ◌∷◌, ◌++◌, length, false, nat_le, Result, Ok, Err, IsTrue, ap, subst, sym, arith}
use Rattle.task_ids.specs.declared.cause.Cause.{Cause}
use Rattle.shard_docs.specs.declared.fault.CorpusError.{CorpusError}
use Rattle.shard_docs.specs.declared.fault.CorpusError.TheVariants as corpus
use Rattle.shard_docs.specs.declared.fault.LineError.{LineError}
use Rattle.shard_docs.specs.declared.fault.LineError.TheVariants as why
use Rattle.shard_docs.specs.Fault.{Fault, and_then, on_line, read_at, Reads, OnMemory, MayRunOut}
use Rattle.shard_docs.specs.Json.{is_text}
use Rattle.shard_docs.proofs.RunningOut.{runs_then, runs_before, runs_here}
use Rattle.script_lang.specs.declared.command.Command.{Command}
use Rattle.script_lang.specs.declared.command.Mode.{Mode}
use Rattle.script_lang.specs.Answers.{Tells, WhereShort, same_error}
use Rattle.script_lang.specs.Script.{max_commands, command_of, commands_of}
use Rattle.script_lang.proofs.LateCauses.{command_not_at_once}
use Rattle.script_lang.proofs.LaterLines.{commands_after}

-- ---- a line that was not read, as a script tells it

module _ {A : Type 0} (number : ℕ) where
  pub tells_at : (answer : Result A LineError) (found : Result A Cause) (error : CorpusError) → Err error ≡ read_at number answer → Reads (λ x. x) answer found → Tells (same_error error) (on_line number found)
  tells_at (Ok x) found error e reads = absurd cc
  tells_at (Err (why.Refused cause)) found error e reads =
      let same : corpus.Bad number cause ≡ error = cc in
      subst (λ told. Tells (same_error told) (on_line number found)) same (ap (on_line number) reads)
  tells_at (Err why.Memory) found error e reads =
      let same : corpus.Memory number ≡ error = cc in
      subst (λ told. Tells (same_error told) (on_line number found)) same tt

  pub short_at : (P : Type 0) (Q : ℕ → Type 0) (answer : Result A LineError) (error : CorpusError) → Err error ≡ read_at number answer → OnMemory answer P → (P → Q number) → WhereShort {X = A} (Err (same_error error)) Q
  short_at P Q (Ok x) error e p then = absurd cc
  short_at P Q (Err (why.Refused cause)) error e p then =
      let same : corpus.Bad number cause ≡ error = cc in
      subst (λ told. WhereShort {X = A} (Err (same_error told)) Q) same tt
  short_at P Q (Err why.Memory) error e p then =
      let same : corpus.Memory number ≡ error = cc in
      subst (λ told. WhereShort {X = A} (Err (same_error told)) Q) same (then p)

-- ---- at the line of a command

room : (n : ℕ) → n < 65535 → nat_le max_commands n ≡ false
unfolding max_commands
room n few = grind (arith, few)

module _ (mode : Mode) (nodes number : ℕ) (before : List Command) (line : List ℕ) (rest : List (List ℕ)) where
  abbrev pub from_here : Result (List Command) Fault
  from_here = and_then (on_line number (command_of mode nodes before line)) (λ command. commands_of mode nodes (number + 1) (before ++ command ∷ []) rest)

  after_here : MayRunOut (on_line number (command_of mode nodes before line)) number → MayRunOut from_here number
  after_here runs =
      runs_then number (on_line number (command_of mode nodes before line)) _ runs
      (λ command. runs_before number (number + 1) (commands_of mode nodes (number + 1) (before ++ command ∷ []) rest) (omega arith) (commands_after mode nodes (number + 1) (before ++ command ∷ []) rest))

  -- while it is read
  pub line_runs_out : length before < 65535 → IsTrue (is_text line) → MayRunOut from_here number
  line_runs_out few text = after_here (runs_here number (command_of mode nodes before line) (command_not_at_once nodes before mode line (room (length before) few) text))

  -- once it was read
  pub read_runs_out : (command : Command) → on_line number (command_of mode nodes before line) ≡ Ok command → MayRunOut from_here number
  read_runs_out command e = after_here (subst (λ found. MayRunOut found number) (sym e) tt)
