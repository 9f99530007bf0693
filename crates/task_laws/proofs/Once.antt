-- No message is in flight twice.
use Rattle.std.proofs.Common.{List, arith}
use Rattle.task_events.specs.declared.event.Event.{Event}
use Rattle.task_events.specs.Laws.{OnceInFlight}
use Rattle.task_laws.proofs.InFlight.{requests_in_flight, answers_in_flight, bans_in_flight, acks_in_flight, unbans_in_flight}
use Rattle.task_laws.proofs.Asks.{AskFacts}
use Rattle.task_laws.proofs.Bans.{BanFacts}

pub once_each : (h : List Event) → AskFacts h → BanFacts h → OnceInFlight h
once_each h f b = record {
  request = λ p k. grind (arith, requests_in_flight p k h, f.place p k);
  answer = λ p k. grind (arith, answers_in_flight p k h, f.place p k);
  ban = λ n p. grind (arith, bans_in_flight n p h, b.course n p, b.once n p);
  ack = λ n p. grind (arith, acks_in_flight n p h, b.course n p, b.once n p);
  unban = λ n p. grind (arith, unbans_in_flight n p h, b.going n p, b.once n p);
}
