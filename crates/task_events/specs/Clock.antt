-- The clock.
use Rattle.std.specs.Prelude.{ℕ, ◌+◌, List, [], ◌∷◌}
use Rattle.task_events.specs.declared.event.Event.{Event}
use Rattle.task_events.specs.declared.event.Event.TheVariants.{Tick}

-- the moment: how many milliseconds have gone by
abbrev pub clock : List Event → ℕ
clock [] = 0
clock (Tick ms ∷ h) = clock h + ms
clock (_ ∷ h) = clock h
