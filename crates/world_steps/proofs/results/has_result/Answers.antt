use Rattle.std.proofs.Common.{◌∙◌, ap, sym}
use Rattle.std.specs.Prelude.{is_some}
use Rattle.command_roots.specs.Results.{has_result}
use Rattle.world_moves.proofs.Lent.{copied_alike}
use Rattle.world_steps.proofs.ResultsFollow.{table_has}
use Rattle.world_steps.proofs.results.has_result.Goals as goal

pub returns-in-Some : goal.returns-in-Some
returns-in-Some c = λ script h known.
    c.is_some.ensures ∙ sym (copied_alike c.get.result) ∙ ap is_some (c.get.ensures ∙ table_has script h c.args.results.now known c.in-Some.task)
    ∙ ap (λ o. has_result script o h) (sym c.in-Some.is ∙ c.named.ensures h known.roots)
