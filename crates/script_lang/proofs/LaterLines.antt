-- No fault of a script is told before the line at which it is read on.
use Rattle.std.proofs.Common.{ℕ, ◌+◌, List, [], ◌∷◌, ◌++◌, length, eqb, arith}
use Rattle.shard_docs.proofs.FaultLines.{After, not_before, after_line, either_after}
use Rattle.script_lang.specs.declared.command.Command.{Command}
use Rattle.script_lang.specs.declared.command.Mode.{Mode}
use Rattle.script_lang.specs.Script.{command_of, commands_of}

module _ (mode : Mode) (nodes : ℕ) where
  pub commands_after : (n : ℕ) (before : List Command) (rest : List (List ℕ)) → After n (commands_of mode nodes n before rest)
  unfolding commands_of
  commands_after n before [] = tt
  commands_after n before (line ∷ rest) =
      either_after n (eqb (length line) 0) _ _ (not_before n (n + 1) _ (omega arith) (commands_after (n + 1) before rest))
      (after_line n (command_of mode nodes before line) _ (λ command. not_before n (n + 1) _ (omega arith) (commands_after (n + 1) (before ++ command ∷ []) rest)))
