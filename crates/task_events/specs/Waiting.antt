-- Whether a task waits next, and for which moment.
use Rattle.std.specs.Prelude.{ℕ, Bool, true, false, Option, None}
use Rattle.task_events.specs.declared.step.Do.{Do}
use Rattle.task_events.specs.declared.step.Do.TheVariants.{AskNext, Turn, Wait, Finish}

-- it waits, for an answer or for a moment
abbrev pub does_wait : Do → Bool
does_wait (Wait until) = true
does_wait (AskNext request) = false
does_wait Turn = false
does_wait (Finish reply) = false

-- the moment for which it waits
abbrev pub due_in : Do → Option ℕ
due_in (Wait until) = until
due_in (AskNext request) = None
due_in Turn = None
due_in (Finish reply) = None
