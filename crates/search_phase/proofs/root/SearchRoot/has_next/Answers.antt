use Rattle.std.proofs.Common.{sym, ◌∙◌, ap, length, is_some}
use Rattle.search_phase.specs.Searching.{Searching, next_request}
use Rattle.search_phase.specs.FetchPhase.{request_by}
use Rattle.search_phase.proofs.Roots.{request_at_place}
use Rattle.search_phase.proofs.root.SearchRoot.has_next.Goals as goal

pub returns : goal.returns
returns c =
    let s : Searching = record { reading = c.self.inside.reading; asked = c.self.inside.asked.items } in
    c.has_request.ensures
    ∙ ap is_some (ap (request_by s.reading c.self.inside.fetching) (ap length c.as_slice-place.ensures.value)
    ∙ sym (request_at_place s c.self.inside.fetching _ c.self.invariant (length s.asked)) ∙ ap next_request c.self.view_is)
