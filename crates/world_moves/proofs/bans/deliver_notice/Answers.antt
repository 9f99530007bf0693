use Rattle.std.proofs.Common.{◌∙◌, Err, ap, sym, subst}
use Rattle.world_moves.specs.declared.state.State.{State}
use Rattle.world_moves.specs.Moves.{Delivers, StopsDelivery}
use Rattle.world_moves.proofs.Outcomes.{delivery_stops}
use Rattle.world_moves.proofs.bans.deliver_notice.Goals.{in-Ban, in-Ack, in-Unban}
use Rattle.world_moves.proofs.bans.deliver_notice.Goals as goal

pub returns-in-Ok-clause-delivered : goal.returns-in-Ok-clause-delivered
returns-in-Ok-clause-delivered c =
    let s = c.args.state.now in
    elim c.match-notice.branch [
      | in-Ban w ↦ (let came = rw (sym w.delivered-is ∙ c.in-Ok.is) at w.deliver_ban-delivered.ensures.delivered in subst (λ (x : State). Delivers s.cluster s.history c.args.nth x.history) (sym w.state-is) came)
      | in-Ack w ↦ (let came = rw (sym w.delivered-is ∙ c.in-Ok.is) at w.deliver_ack-delivered.ensures.delivered in subst (λ (x : State). Delivers s.cluster s.history c.args.nth x.history) (sym w.state-is) came)
      | in-Unban w ↦ (let came = rw (sym w.delivered-is ∙ c.in-Ok.is) at w.deliver_unban-delivered.ensures.delivered in subst (λ (x : State). Delivers s.cluster s.history c.args.nth x.history) (sym w.state-is) came)
    ]

pub returns-in-Err-clause-stop : goal.returns-in-Err-clause-stop
returns-in-Err-clause-stop c =
    let s = c.args.state.now in
    let Stops = λ (x : State). StopsDelivery s.cluster s.history c.args.nth x.history c.in-Err.stop in
    elim c.match-notice.branch [
      | in-Ban w ↦ (let is = sym w.delivered-is ∙ c.in-Err.is in subst Stops (sym w.state-is) (delivery_stops s.cluster s.history c.args.nth _ c.in-Err.stop (λ e. w.deliver_ban-delivered.ensures.full (is ∙ ap Err e)) (λ e. w.deliver_ban-delivered.ensures.numbers (is ∙ ap Err e))))
      | in-Ack w ↦ (let is = sym w.delivered-is ∙ c.in-Err.is in subst Stops (sym w.state-is) (delivery_stops s.cluster s.history c.args.nth _ c.in-Err.stop (λ e. w.deliver_ack-delivered.ensures.full (is ∙ ap Err e)) (λ e. w.deliver_ack-delivered.ensures.numbers (is ∙ ap Err e))))
      | in-Unban w ↦ (let is = sym w.delivered-is ∙ c.in-Err.is in subst Stops (sym w.state-is) (delivery_stops s.cluster s.history c.args.nth _ c.in-Err.stop (λ e. w.deliver_unban-delivered.ensures.full (is ∙ ap Err e)) (λ e. w.deliver_unban-delivered.ensures.numbers (is ∙ ap Err e))))
    ]
