use Rattle.std.proofs.Common.{sym, ◌∙◌}
use Rattle.search_phase.proofs.FetchAnswers.{are_among_end}
use Rattle.search_phase.proofs.possible.are_among.Goals as goal

pub returns : goal.returns
returns c = sym (c.loop-place.invariant.1 ∙ are_among_end c.args.hits.now c.args.places.now c.loop-place.found c.loop-place.place-index c.loop-place-test.false c.loop-place.invariant.0)
