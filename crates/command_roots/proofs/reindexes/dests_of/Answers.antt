use Rattle.std.proofs.Common.{ap, ◌∙◌, ◌++◌, [], ◌∷◌, sym}
use Rattle.std.proofs.lemmas.List.{take_all}
use Rattle.command_roots.specs.Known.{dests_of}
use Rattle.command_roots.proofs.DestLemmas.{dests_more}
use Rattle.command_roots.proofs.reindexes.dests_of.Goals as goal

pub loop-command-init : goal.loop-command-init
loop-command-init c = c.new-dests.ensures.items

pub loop-command-preserved : goal.loop-command-preserved
loop-command-preserved c =
    c.in_ok-push_dest.ensures ∙ ap (λ l. l ++ dests_of (c.command-item.result ∷ [])) c.loop-command.invariant
    ∙ sym (dests_more c.args.commands.now c.loop-command.command-index c.command-item.result c.loop-command-test.true c.command-item.is)

pub returns : goal.returns
returns c = c.loop-command.invariant ∙ ap dests_of (take_all c.loop-command.command-index c.args.commands.now c.loop-command-test.false)
