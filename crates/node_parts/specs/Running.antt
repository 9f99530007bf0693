-- A live task that asks for a child, takes an answer, or waits.
use Rattle.std.specs.Prelude.{◌≡◌, ℕ, ◌+◌, List, length, Bool, ◌||◌, ◌==◌, not, is_some, Option, Some, None, if◌then◌else◌, ⊤}
use Rattle.task_ids.specs.declared.doc.Doc.{Doc}
use Rattle.child_track.specs.Track.{with_ask, with_answer, unanswered}
use Rattle.task_events.specs.declared.request.Request.{Request}
use Rattle.task_events.specs.declared.reply.Reply.{Reply}
use Rattle.task_events.specs.declared.step.Do.{Do}
use Rattle.task_events.specs.declared.step.Do.TheVariants.{AskNext}
use Rattle.task_work.specs.Works.{IsWorkOn, next_of, does_wait, work_with_ask, work_with_answer}
use Rattle.node_parts.specs.declared.running.Running.{Running}

-- the task is kept, and its plan says at this moment that it asks for this next
abbrev pub PlansToAsk : Option Running → ℕ → Request → Type 0
PlansToAsk None now request = ⊥
PlansToAsk (Some running) now request = (writes : List Doc) → IsWorkOn running.work writes → next_of running.work writes now ≡ AskNext request

-- The kept task's work does this next at this moment, over any shard that it may work on.
abbrev pub DoesNext : Option Running → ℕ → Do → Type 0
DoesNext None now step = ⊤
DoesNext (Some running) now step = (writes : List Doc) → IsWorkOn running.work writes → next_of running.work writes now ≡ step

-- the number of its next ask
abbrev pub next_number : Running → ℕ
next_number running = length running.track.asks + 1

-- after an ask on this node
abbrev pub running_with_ask : Running → ℕ → Running
running_with_ask running to = record running { track = with_ask running.track to; work = work_with_ask running.work (next_number running) }

-- after the answer to an ask at a moment
abbrev pub running_with_answer : Running → ℕ → Reply → ℕ → Running
running_with_answer running ask reply now = record running { track = with_answer running.track ask; work = work_with_answer running.work ask reply now }

-- It does not wait at this moment: it has not passed; or it is marked and its asks are answered; or its work goes on.
abbrev pub can_act : Running → List Doc → ℕ → Bool
can_act running writes now = running.is_new || (if is_some running.track.closed then unanswered running.track == 0 else not (does_wait (next_of running.work writes now)))
