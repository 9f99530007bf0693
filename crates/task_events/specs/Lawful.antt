-- The histories in which each event was allowed when it came.
use Rattle.std.specs.Prelude.{ℕ, ◌≡◌, ◌≢◌, true, List, [], ◌∷◌, None, ⊤}
use Rattle.task_ids.specs.declared.task_id.TaskId.{TaskId}
use Rattle.task_ids.specs.declared.cluster.Cluster.{Cluster}
use Rattle.task_events.specs.declared.event.Event.{Event}
use Rattle.task_events.specs.declared.event.Event.TheVariants.{Cancel, Mark}
use Rattle.task_events.specs.Same.{same_pair}
use Rattle.task_events.specs.Bans.{mark_of}
use Rattle.task_events.specs.Allowed.{Allowed}

-- the task that the newest event names is marked, if it names one
abbrev pub AwaitsNoMark : List Event → Type 0
AwaitsNoMark (Cancel c t wait ∷ h) = mark_of t h ≢ None
AwaitsNoMark _ = ⊤

-- else this is its mark
abbrev pub MarksTheNamed : TaskId → ℕ → List Event → Type 0
MarksTheNamed t c (Cancel d u wait ∷ h) = mark_of u h ≡ None → same_pair t c u d ≡ true
MarksTheNamed t c _ = ⊤

-- A cancellation marks the task that it names in one go: its mark is the next event, unless it is marked.
abbrev pub InOneGo : Event → List Event → Type 0
InOneGo (Mark t c) h = MarksTheNamed t c h
InOneGo _ h = AwaitsNoMark h

abbrev pub Lawful : Cluster → List Event → Type 0
Lawful cluster [] = ⊤
Lawful cluster (e ∷ h) = Allowed cluster e h × Lawful cluster h × InOneGo e h
