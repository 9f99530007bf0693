use Rattle.std.proofs.Common.{◌≡◌, ℕ, Some, refl, sym, ap, subst, ◌∙◌}
use Rattle.std.specs.Prelude.{IsSome, option_and_then}
use Rattle.task_ids.specs.declared.task_id.TaskId.{TaskId}
use Rattle.task_events.specs.declared.request.Request.{Request}
use Rattle.task_events.specs.declared.event.Event.{Event}
use Rattle.task_events.specs.declared.event.Event.TheVariants.{Ask}
use Rattle.world_moves.specs.Flights.{request_in}
use Rattle.world_moves.proofs.ByPlace.{event_from_oldest}
use Rattle.world_moves.proofs.requests.request_at.Goals as goal

-- only an ask has a request
is_ask : (e : Event) → IsSome (request_in e) → ((p : TaskId) (k n : ℕ) (r : Request) → e ≡ Ask p k n r → ⊥) → ⊥
is_ask (Ask p k n r) s apart = apart p k n r refl
is_ask _ s apart = absurd (cc)

pub unreachable-requires : goal.unreachable-requires
unreachable-requires c =
    let none = subst (λ o. IsSome (option_and_then request_in o)) (event_from_oldest c.args.at c.args.history.now ∙ sym c.in_default.ensures) c.requires in
    absurd (cc)

pub unreachable-requires-in_default-event : goal.unreachable-requires-in_default-event
unreachable-requires-in_default-event c =
    is_ask c.in-Some.event.now (subst (λ o. IsSome (option_and_then request_in o)) (event_from_oldest c.args.at c.args.history.now ∙ sym c.in-Some.ensures) c.requires) c.in_default-event.not-Ask

pub returns : goal.returns
returns c = ap (option_and_then request_in) (event_from_oldest c.args.at c.args.history.now ∙ sym c.in-Some.ensures ∙ ap Some c.in-Ask.is)
