use Rattle.std.proofs.Common.{◌≡◌, ◌+◌, ℕ, true, false, cond, List, arith}
use Rattle.task_ids.specs.declared.task_id.TaskId.{TaskId}
use Rattle.task_events.specs.declared.event.Event.{Event}
use Rattle.task_events.specs.Tasks.{has_ended, live_child}
use Rattle.task_events.specs.Asks.{is_unanswered}
use Rattle.task_events.specs.Messages.{is_request, is_answer, number_in_flight}
use Rattle.task_events.specs.Laws.{OnePlace}
use Rattle.task_laws.proofs.InFlight.{requests_in_flight, answers_in_flight}
use Rattle.task_laws.proofs.Asks.{AskFacts, ask_facts}
use Rattle.task_laws.proofs.one_place.Goals as goal

in_place : (h : List Event) → AskFacts h → (p : TaskId) (k : ℕ) → number_in_flight (is_request p k) h + live_child p k h + number_in_flight (is_answer p k) h ≡ cond (is_unanswered p k h) 1 0
in_place h f p k =
    let x = requests_in_flight p k h in
    let y = answers_in_flight p k h in
    let z = f.place p k in
    omega arith

has_none : (h : List Event) → AskFacts h → (p : TaskId) (k : ℕ) → has_ended p h ≡ true → is_unanswered p k h ≡ false
has_none h f p k e = grind (arith, f.live_asker p k, f.live_or_ended p)

law : (h : List Event) → AskFacts h → OnePlace h
law h f = record { place = in_place h f; asker = f.live_asker; ended = has_none h f }

pub returns : goal.returns
returns c = λ cluster h l. law h (ask_facts cluster h l)
