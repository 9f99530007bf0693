use Rattle.std.proofs.Common.{sym, ◌∙◌}
use Rattle.std.specs.Prelude.{◌==◌}
use Rattle.task_events.specs.declared.request.FetchAsk.{FetchAsk}
use Rattle.search_phase.proofs.Roots.{lookup-zip_at, lookup-zip_none}
use Rattle.search_phase.proofs.answer.answer_to.Goals as goal

pub returns-in-Some : goal.returns-in-Some
returns-in-Some c =
    c.asked_at.ensures
    ∙ sym (lookup-zip_at (λ other. c.args.shard == other) (λ (f : FetchAsk). f.shard) c.args.fetches.now c.args.answers.now c.in-Some.place (sym c.place_of.ensures ∙ c.in-Some.is))

pub returns-in-None : goal.returns-in-None
returns-in-None c =
    sym (lookup-zip_none (λ other. c.args.shard == other) (λ (f : FetchAsk). f.shard) c.args.fetches.now c.args.answers.now (sym c.place_of.ensures ∙ c.in-None.is))
