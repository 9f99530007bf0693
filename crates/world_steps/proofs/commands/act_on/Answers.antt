use Rattle.std.proofs.Common.{◌∙◌, ap, arith, sym, subst, Some}
use Rattle.std.specs.Prelude.{IfErr, option_and_then}
use Rattle.script_lang.specs.declared.command.Command.{Command}
use Rattle.command_roots.specs.Roots.{request_in}
use Rattle.world_steps.specs.Scripts.{StopsDoing}
use Rattle.world_steps.proofs.Commanded.{asks_page}
use Rattle.world_steps.proofs.commands.act_on.Goals as goal

pub returns-in-Deliver-clause-stop : goal.returns-in-Deliver-clause-stop
returns-in-Deliver-clause-stop c =
    let s = c.args.state.now in
    subst (λ (command : Command). IfErr c.deliver.result (λ stop. StopsDoing s.cluster s.corpus.now s.script.now c.args.number command s.history c.deliver.new.state.history stop)) (sym c.in-Deliver.is) c.deliver.ensures.stop

pub returns-in-ListStep-clause-stop : goal.returns-in-ListStep-clause-stop
returns-in-ListStep-clause-stop c =
    let s = c.args.state.now in
    subst (λ (command : Command). IfErr c.list.result (λ stop. StopsDoing s.cluster s.corpus.now s.script.now c.args.number command s.history c.list.new.state.history stop)) (sym c.in-ListStep.is) c.list.ensures.stop

pub returns-in-Search-clause-stop : goal.returns-in-Search-clause-stop
returns-in-Search-clause-stop c =
    let s = c.args.state.now in
    subst (λ (command : Command). IfErr c.search.result (λ stop. StopsDoing s.cluster s.corpus.now s.script.now c.args.number command s.history c.search.new.state.history stop)) (sym c.in-Search.is) c.search.ensures.stop

pub returns-in-Scroll-clause-stop : goal.returns-in-Scroll-clause-stop
returns-in-Scroll-clause-stop c =
    let s = c.args.state.now in
    subst (λ (command : Command). IfErr c.scroll.result (λ stop. StopsDoing s.cluster s.corpus.now s.script.now c.args.number command s.history c.scroll.new.state.history stop)) (sym c.in-Scroll.is) c.scroll.ensures.stop

pub returns-in-Reindex-clause-stop : goal.returns-in-Reindex-clause-stop
returns-in-Reindex-clause-stop c =
    let s = c.args.state.now in
    subst (λ (command : Command). IfErr c.reindex.result (λ stop. StopsDoing s.cluster s.corpus.now s.script.now c.args.number command s.history c.reindex.new.state.history stop)) (sym c.in-Reindex.is) c.reindex.ensures.stop

pub returns-in-Tick-clause-stop : goal.returns-in-Tick-clause-stop
returns-in-Tick-clause-stop c =
    let s = c.args.state.now in
    subst (λ (command : Command). IfErr c.tick_and_refresh.result (λ stop. StopsDoing s.cluster s.corpus.now s.script.now c.args.number command s.history c.tick_and_refresh.new.state.history stop)) (sym c.in-Tick.is) c.tick_and_refresh.ensures.stop

pub scroll-requires-clause-asked : goal.scroll-requires-clause-asked
scroll-requires-clause-asked c = λ id named.
    let s = c.args.state.now in
    let there = c.requires.there ∙ ap Some c.in-Scroll.is in
    asks_page s.script.now c.args.number s.history c.in-Scroll.context c.in-Scroll.keep _ there id named

pub reindex-requires-clause-asked : goal.reindex-requires-clause-asked
reindex-requires-clause-asked c =
    let s = c.args.state.now in
    let there = c.requires.there ∙ ap Some c.in-Reindex.is in
    ap (option_and_then (λ command. request_in command s.history)) there

pub tick_and_refresh-requires-clause-low : goal.tick_and_refresh-requires-clause-low
tick_and_refresh-requires-clause-low c =
    let within = rw c.in-Tick.is at c.requires.can in
    omega (arith, within, c.requires.low)

pub tick_and_refresh-requires-clause-high : goal.tick_and_refresh-requires-clause-high
tick_and_refresh-requires-clause-high c = rw c.in-Tick.is at c.requires.can
