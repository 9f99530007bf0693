use Rattle.std.proofs.Common.{◌∙◌, ap, map, string_bytes, sym}
use Rattle.clap.specs.Faults.{fault_of, is_simple_and_free}
use Rattle.clap.specs.Simple.{is_simple, subcommand_of}
use Rattle.clap.specs.Values.{kind_of}
use Rattle.command_line.proofs.TakenWords.{is_known, is_known_simple, not_taken}
use Rattle.command_line.proofs.words.matches_of.Goals as goal

pub returns-in-Ok-clause-takes : goal.returns-in-Ok-clause-takes
returns-in-Ok-clause-takes c =
    let command = c.in_ok-tasktree.ensures in
    ap (λ app. fault_of app (map string_bytes c.args.words.now)) (sym command) ∙ c.in-Ok.ensures.kinds (ap is_simple_and_free command ∙ is_known)

pub returns-in-Ok-clause-rows : goal.returns-in-Ok-clause-rows
returns-in-Ok-clause-rows c =
    let command = c.in_ok-tasktree.ensures in
    (c.in-Ok.ensures.matches (ap is_simple command ∙ is_known_simple)).1 ∙ ap (λ app. subcommand_of app (map string_bytes c.args.words.now)) command

pub returns : goal.returns
returns c =
    let command = c.in_ok-tasktree.ensures in
    record {
      takes = tt;
      rows = tt;
      usage = λ _ takes. not_taken _ (kind_of c.in-Err.error) (c.in-Err.ensures.kinds (ap is_simple_and_free command ∙ is_known)) (λ memory. c.in_default.not-OutOfMemory (c.kind.ensures ∙ memory))
          (ap (λ app. fault_of app (map string_bytes c.args.words.now)) command ∙ takes);
    }
