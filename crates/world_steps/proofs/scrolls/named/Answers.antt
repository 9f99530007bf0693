use Rattle.std.proofs.Common.{◌∙◌, ap, sym}
use Rattle.command_roots.specs.Roots.{context_named}
use Rattle.world_steps.proofs.scrolls.named.Goals as goal

pub returns-in-Command : goal.returns-in-Command
returns-in-Command c =
    let s = c.args.state.now in
    c.copied.ensures ∙ c.get.ensures.value ∙ c.requires.tied.cancels.roots_are c.in-Command.number ∙ sym (ap (λ x. context_named x s.history) c.in-Command.is)
