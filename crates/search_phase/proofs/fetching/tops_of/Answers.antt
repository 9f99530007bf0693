use Rattle.std.proofs.Common.{sym, ◌∙◌, ap, ◌++◌, [], ◌∷◌, map}
use Rattle.std.specs.Prelude.{option_and_then}
use Rattle.std.proofs.lemmas.List.{take_all}
use Rattle.task_events.specs.Searches.{top_of}
use Rattle.search_phase.specs.FetchPhase.{tops_of}
use Rattle.search_phase.proofs.FetchAnswers.{filter_map_step}
use Rattle.search_phase.proofs.fetching.tops_of.Goals as goal

pub loop-a-init : goal.loop-a-init
loop-a-init c = ap (map (λ top. top.now)) c.new-tops.ensures.items

pub loop-a-preserved : goal.loop-a-preserved
loop-a-preserved c =
    c.in_ok-add_top.ensures ∙ ap (λ l. l ++ tops_of (c.a-item.result ∷ [])) c.loop-a.invariant
    ∙ sym (filter_map_step (λ a. option_and_then top_of a.answer) c.args.asked.now c.loop-a.a-index c.a-item.result c.loop-a-test.true c.a-item.is)

pub returns : goal.returns
returns c = c.loop-a.invariant ∙ ap tops_of (take_all c.loop-a.a-index c.args.asked.now c.loop-a-test.false)
