use Rattle.std.proofs.Common.{◌≡◌, Some, true, false, sym, ap, ◌∙◌}
use Rattle.std.specs.Prelude.{is_some, option_and_then}
use Rattle.world_moves.specs.Flights.{event_at, reply_in}
use Rattle.world_moves.proofs.ByPlace.{event_from_oldest}
use Rattle.world_moves.proofs.answers.reply_at.Goals as goal

pub reply_sent-requires : goal.reply_sent-requires
reply_sent-requires c = ap (λ o. is_some (option_and_then reply_in o)) (c.in-Some.ensures ∙ sym (event_from_oldest c.args.at c.args.history.now)) ∙ c.requires

pub unreachable-requires : goal.unreachable-requires
unreachable-requires c =
    let e : false ≡ true = ap (λ o. is_some (option_and_then reply_in o)) (c.in-None.ensures ∙ sym (event_from_oldest c.args.at c.args.history.now)) ∙ c.requires in
    cc

pub returns-clause-reply : goal.returns-clause-reply
returns-clause-reply c =
    let found : event_at c.args.at c.args.history.now ≡ Some c.in-Some.event.now = event_from_oldest c.args.at c.args.history.now ∙ sym c.in-Some.ensures in
    rw found c.reply_sent.ensures.reply
