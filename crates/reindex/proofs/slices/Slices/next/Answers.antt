use Rattle.std.proofs.Common.{◌∙◌, ap}
use Rattle.task_events.specs.declared.request.SliceAsk.{SliceAsk}
use Rattle.reindex.specs.Roots.{Cutting}
use Rattle.reindex.proofs.RootLemmas.{cut_asks}
use Rattle.reindex.proofs.slices.Slices.next.Goals as goal

pub returns-then-self : goal.returns-then-self
returns-then-self c =
    let is = c.in_ok-slice.ensures.ok in
    cut_asks c.args.self.now c.in_ok-slice.slice
    (ap (λ (a : SliceAsk). a.reindex) is ∙ c.in_ok-reindex.ensures ∙ ap (λ (s : Cutting). s.ask) c.self.view_is)
    (ap (λ (a : SliceAsk). a.slice) is ∙ ap (λ (s : Cutting). s.made) c.self.view_is)
