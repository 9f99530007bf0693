-- The events of each command: those between its beginning and the next.
use Rattle.std.specs.Prelude.{ℕ, ◌+◌, Bool, true, false, not, ◌&&◌, ◌==◌, nat_lt, List, [], ◌∷◌, ◌++◌, if◌then◌else◌}
use Rattle.task_events.specs.declared.event.Event.{Event}
use Rattle.task_events.specs.declared.event.Event.TheVariants.{Begin}

abbrev pub is_begin : Event → Bool
is_begin (Begin k) = true
is_begin _ = false

-- how many commands have begun
abbrev pub begun : List Event → ℕ
begun [] = 0
begun (e ∷ h) = if is_begin e then begun h + 1 else begun h

-- The events that came while so many commands had begun, in order. The beginnings themselves are left out.
abbrev pub events_while : (ℕ → Bool) → List Event → List Event
events_while test [] = []
events_while test (e ∷ h) = if not (is_begin e) && test (begun h) then events_while test h ++ e ∷ [] else events_while test h

-- the events of a command, the first of which has the number 1, in order
abbrev pub events_of : ℕ → List Event → List Event
events_of k h = events_while (λ n. n == k) h

-- the events before a command, in order
abbrev pub events_before : ℕ → List Event → List Event
events_before k h = events_while (λ n. nat_lt n k) h

-- the history as it was before a command began
abbrev pub history_before : ℕ → List Event → List Event
history_before k [] = []
history_before k (e ∷ h) = if nat_lt (begun (e ∷ h)) k then e ∷ h else history_before k h
