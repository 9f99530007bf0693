use Rattle.std.proofs.Common.{◌∙◌, ap, sym, subst, Option}
use Rattle.std.specs.Prelude.{IsSome}
use Rattle.task_events.specs.declared.context.Context.{Context}
use Rattle.node_parts.specs.Opening.{opened_by, used_by}
use Rattle.world_moves.specs.Paging.{context_in, after_return}
use Rattle.world_moves.proofs.PagesEnd.{opened_id}
use Rattle.world_moves.proofs.ends.note_end.Goals as goal

pub open-requires-clause-own : goal.open-requires-clause-own
open-requires-clause-own c context e = opened_id c.get-running.result.now.work c.args.task c.args.reply.now c.args.now context (sym c.in-Ok-opened_by.ensures ∙ e)

pub open-requires-clause-fresh : goal.open-requires-clause-fresh
open-requires-clause-fresh c opens =
    let t = c.args.task in
    let its : IsSome (opened_by c.args.running.now.work t c.args.reply.now c.args.now) = subst (λ (o : Option Context). IsSome o) (c.in-Ok-opened_by.ensures ∙ ap (λ r. opened_by r.work t c.args.reply.now c.args.now) c.get-running.ensures) opens in
    c.give_back.ensures.returned t ∙ ap (λ page. after_return c.args.now page c.in-Ok.after t (context_in c.args.contexts.now.items t)) (c.used_by.ensures ∙ ap used_by c.get-running.ensures ∙ c.requires.one its) ∙ c.requires.fresh its
