use Rattle.std.proofs.Common.{List}
use Rattle.task_events.specs.declared.event.Event.{Event}
use Rattle.task_events.specs.Messages.{is_request, is_answer, is_ban, is_ack, is_unban}
use Rattle.task_events.specs.Messages.Message.{Request, Answer, Ban, Ack, Unban}
use Rattle.task_events.specs.Laws.{OnceInFlight, DeliversAnyMessage}
use Rattle.task_laws.proofs.Same.{same_pair_refl}
use Rattle.task_laws.proofs.Asks.{ask_facts}
use Rattle.task_laws.proofs.Bans.{ban_facts}
use Rattle.task_laws.proofs.Once.{once_each}
use Rattle.task_laws.proofs.Places.{at_place}
use Rattle.task_laws.proofs.once_in_flight.Goals as goal

delivered : (h : List Event) → OnceInFlight h → DeliversAnyMessage h
delivered h o = record {
  request = λ i p k n r e. at_place (is_request p k) h i (Request p k n r) (o.request p k) e (same_pair_refl p k);
  answer = λ i p k r e. at_place (is_answer p k) h i (Answer p k r) (o.answer p k) e (same_pair_refl p k);
  ban = λ i p c n e. at_place (is_ban n p) h i (Ban p c n) (o.ban n p) e (same_pair_refl p n);
  ack = λ i p n e. at_place (is_ack n p) h i (Ack p n) (o.ack n p) e (same_pair_refl p n);
  unban = λ i p n e. at_place (is_unban n p) h i (Unban p n) (o.unban n p) e (same_pair_refl p n);
}

pub returns-clause-once : goal.returns-clause-once
returns-clause-once c = λ cluster h l. once_each h (ask_facts cluster h l) (ban_facts cluster h l)

pub returns-clause-delivered : goal.returns-clause-delivered
returns-clause-delivered c = λ cluster h l. delivered h (once_each h (ask_facts cluster h l) (ban_facts cluster h l))
