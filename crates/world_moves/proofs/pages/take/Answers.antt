use Rattle.std.proofs.Common.{◌∙◌, Some, ap, sym}
use Rattle.task_events.specs.declared.request.Request.TheVariants.{Scroll}
use Rattle.task_events.specs.Contexts.{after_taking}
use Rattle.world_moves.specs.Paging.{context_in}
use Rattle.world_moves.proofs.pages.take.Goals as goal

pub take_asked-requires : goal.take_asked-requires
take_asked-requires c = record { usable = rw c.get.ensures (rw c.in-Scroll.is at c.requires.usable) }

pub returns-in-Scroll-clause-taken : goal.returns-in-Scroll-clause-taken
returns-in-Scroll-clause-taken c q =
    let was = context_in c.args.contexts.now.items q in
    c.take_asked.ensures.taken q ∙ ap (λ ask. after_taking c.args.now c.args.user (Some (Scroll ask)) q was) c.get.ensures
    ∙ ap (λ r. after_taking c.args.now c.args.user (Some r) q was) (sym c.in-Scroll.is)
