use Rattle.std.proofs.Common.{◌≡◌, ◌∙◌, List, Some, None, Err, refl, subst, sym, ap}
use Rattle.std.specs.Prelude.{slice_get}
use Rattle.task_events.specs.declared.stop.Stop.TheVariants.{HistoryFull, NumbersSpent}
use Rattle.task_events.specs.Messages.{Message, in_flight}
use Rattle.task_events.specs.Messages.Message.{Request}
use Rattle.world_moves.specs.Flights.{message_of, node_asked}
use Rattle.world_moves.specs.Moves.{Delivers, DeliveryLacksNumber, IsPartly, LacksNumber}
use Rattle.world_moves.proofs.ByPlace.{pair_at}
use Rattle.world_moves.proofs.NextNumbers.{entry_there, lacks_at, no_request, other_cut, request_cut, request_there}
use Rattle.world_moves.proofs.Outcomes.{stops}
use Rattle.world_moves.proofs.RequestsInFlight.{arrives}
use Rattle.world_moves.proofs.requests.check_delivery.Goals as goal

pub check_room-requires-clause-low : goal.check_room-requires-clause-low
check_room-requires-clause-low c =
    let s = c.args.state.now in
    let r = request_there (slice_get s.flight c.args.nth) c.in-Some.node (sym c.node_at.ensures ∙ c.in-Some.is) in
    (arrives s.cluster s.corpus.now s.script.now s.history _ _ s.flight c.requires.tied.ties c.args.nth r.0 c.in-Some.node r.1 r.2 r.3).low

pub check_room-requires-clause-high : goal.check_room-requires-clause-high
check_room-requires-clause-high c =
    let s = c.args.state.now in
    let r = request_there (slice_get s.flight c.args.nth) c.in-Some.node (sym c.node_at.ensures ∙ c.in-Some.is) in
    (arrives s.cluster s.corpus.now s.script.now s.history _ _ s.flight c.requires.tied.ties c.args.nth r.0 c.in-Some.node r.1 r.2 r.3).high

pub returns-in-Some-clause-spent : goal.returns-in-Some-clause-spent
returns-in-Some-clause-spent c =
    let s = c.args.state.now in
    let r = request_there (slice_get s.flight c.args.nth) c.in-Some.node (sym c.node_at.ensures ∙ c.in-Some.is) in
    let a = arrives s.cluster s.corpus.now s.script.now s.history _ _ s.flight c.requires.tied.ties c.args.nth r.0 c.in-Some.node r.1 r.2 r.3 in (
      λ spent. (_, a.here, c.check_room.ensures.spent.0 spent),
      λ lacks.
          let same : Some lacks.0 ≡ Some (Request r.0.parent r.0.ask c.in-Some.node a.asked) = sym lacks.1 ∙ a.here in
          let is : lacks.0 ≡ Request r.0.parent r.0.ask c.in-Some.node a.asked = cc in
          c.check_room.ensures.spent.1 (subst (LacksNumber s.cluster s.history) is lacks.2),
    )

pub returns-in-Some-clause-stop : goal.returns-in-Some-clause-stop
returns-in-Some-clause-stop c =
    let s = c.args.state.now in
    let r = request_there (slice_get s.flight c.args.nth) c.in-Some.node (sym c.node_at.ensures ∙ c.in-Some.is) in
    let a = arrives s.cluster s.corpus.now s.script.now s.history _ _ s.flight c.requires.tied.ties c.args.nth r.0 c.in-Some.node r.1 r.2 r.3 in
    stops c.check_room.result (IsPartly (λ x y. Delivers s.cluster x c.args.nth y) s.history) (DeliveryLacksNumber s.cluster s.history c.args.nth × (s.history ≡ s.history)) s.history
    (λ full. request_cut s.cluster s.history c.args.nth r.0 c.in-Some.node r.1 a (λ lacks. absurd (let spent = sym full ∙ c.check_room.ensures.spent.1 lacks in cc)) (c.check_room.ensures.full full))
    (λ spent. ((_, a.here, c.check_room.ensures.spent.0 spent), refl))

pub returns-then-len-eq-MAX_EVENTS-clause-spent : goal.returns-then-len-eq-MAX_EVENTS-clause-spent
returns-then-len-eq-MAX_EVENTS-clause-spent c =
    let s = c.args.state.now in
    let e = entry_there s.flight c.args.nth c.requires.there in
    let p = pair_at (message_of s.history) s.flight (in_flight s.history) c.args.nth e.0 c.requires.tied.ties.sent e.1 in
    let none = ap node_asked (sym e.1) ∙ sym c.node_at.ensures ∙ c.in_default.is in (
      λ x. absurd (cc),
      λ lacks. absurd (
          let r = lacks_at s.cluster s.history lacks.0 lacks.2 in
          no_request s.history e.0 none r.0 r.1 r.2 r.3 (p.2 ∙ sym p.1 ∙ lacks.1 ∙ ap Some r.4)),
    )

pub returns-then-len-eq-MAX_EVENTS-clause-stop : goal.returns-then-len-eq-MAX_EVENTS-clause-stop
returns-then-len-eq-MAX_EVENTS-clause-stop c =
    let s = c.args.state.now in
    let e = entry_there s.flight c.args.nth c.requires.there in
    let p = pair_at (message_of s.history) s.flight (in_flight s.history) c.args.nth e.0 c.requires.tied.ties.sent e.1 in
    let none = ap node_asked (sym e.1) ∙ sym c.node_at.ensures ∙ c.in_default.is in
    let full = sym c.len.ensures ∙ c.if-len-eq-MAX_EVENTS.true in
    other_cut s.cluster s.history c.args.nth p.0 p.1 (λ q k n r is. no_request s.history e.0 none q k n r (p.2 ∙ ap Some is)) full

pub returns-clause-spent : goal.returns-clause-spent
returns-clause-spent c =
    let s = c.args.state.now in
    let e = entry_there s.flight c.args.nth c.requires.there in
    let p = pair_at (message_of s.history) s.flight (in_flight s.history) c.args.nth e.0 c.requires.tied.ties.sent e.1 in
    let none = ap node_asked (sym e.1) ∙ sym c.node_at.ensures ∙ c.in_default.is in (
      λ x. absurd (cc),
      λ lacks. absurd (
          let r = lacks_at s.cluster s.history lacks.0 lacks.2 in
          no_request s.history e.0 none r.0 r.1 r.2 r.3 (p.2 ∙ sym p.1 ∙ lacks.1 ∙ ap Some r.4)),
    )
