use Rattle.std.proofs.Common.{◌∙◌, ap, sym, subst}
use Rattle.task_table.specs.Table.{IsLive}
use Rattle.world_moves.proofs.ends.end_in.Goals as goal

pub end-ended-requires-clause-live : goal.end-ended-requires-clause-live
end-ended-requires-clause-live c = subst (λ ticket. IsLive c.args.table.now ticket.id) (sym (c.into_parts-ticket.ensures.0 ∙ ap (λ r. r.ticket) c.into_inner.ensures)) c.requires.live
