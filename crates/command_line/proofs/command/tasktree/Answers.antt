use Rattle.std.proofs.Common.{true, ap, ap₂, ◌∙◌}
use Rattle.std.proofs.lemmas.Result.{IfOk-weaker}
use Rattle.clap.specs.Simple.{app_of_fields, on_top, with_subcommand}
use Rattle.command_line.specs.Command.{tasktree}
use Rattle.command_line.proofs.command.tasktree.Goals as goal

pub returns : goal.returns
unfolding tasktree
returns c =
    let alone = ap app_of_fields c.subcommand_required.ensures ∙ ap (on_top (λ s. record s { subcommand_required = true }))
    (ap app_of_fields c.disable_version_flag.ensures ∙ ap (on_top (λ s. record s { disable_version_flag = true }))
    (ap app_of_fields c.disable_help_subcommand.ensures ∙ ap (on_top (λ s. record s { disable_help_subcommand = true }))
    (ap app_of_fields c.disable_help_flag.ensures ∙ ap (on_top (λ s. record s { disable_help_flag = true }))
    (ap app_of_fields c.no_binary_name.ensures ∙ ap (on_top (λ s. record s { no_binary_name = true })) c.new.ensures.app)))) in
    let sim = c.in_ok-subcommand.ensures.shape c.in_ok-cluster_command.ensures.local ∙ ap₂ with_subcommand alone c.in_ok-cluster_command.ensures.shape in
    let run = c.in_ok-subcommand-2.ensures.shape c.in_ok-run_command.ensures.local ∙ ap₂ with_subcommand sim c.in_ok-run_command.ensures.shape in
    IfOk-weaker c.subcommand-3.result _ _ (λ command added. added.shape c.in_ok-gen_command.ensures.local ∙ ap₂ with_subcommand run c.in_ok-gen_command.ensures.shape) c.subcommand-3.ensures
