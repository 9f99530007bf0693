-- A live task after what its core notes of it.
use Rattle.std.specs.Prelude.{ℕ, false, ◌++◌, ◌∷◌, [], Option, None, Some}
use Rattle.child_track.specs.Track.{with_close}
use Rattle.task_events.specs.declared.reply.Reply.{Reply}
use Rattle.task_table.specs.declared.answers.Check.{Check}
use Rattle.task_table.specs.declared.answers.Check.TheVariants as checks
use Rattle.task_table.specs.declared.answers.Track.{Track}
use Rattle.task_table.specs.declared.answers.Track.TheVariants as tracks
use Rattle.task_work.specs.declared.work.Work.{Work}
use Rattle.node_link.specs.declared.body.Place.{Place}
use Rattle.node_parts.specs.Running.{running_with_ask, running_with_answer}
use Rattle.live_tasks.specs.declared.entry.Entry.{Entry}
use Rattle.live_tasks.specs.declared.entry.EndedTask.{EndedTask}

-- it has passed: it is not new any more
abbrev pub passed : Entry → Entry
passed e = record e { running = record e.running { is_new = false } }

-- a cancellation is known, which closes its track unless one did so before
abbrev pub closed : Entry → ℕ → Entry
closed e cancel = record e { running = record e.running { track = with_close e.running.track cancel } }

-- after its check
abbrev pub after_check : Entry → Check → Entry
after_check e checks.Clear = passed e
after_check e (checks.Banned cancel) = e

-- after a track for an ask
abbrev pub after_track : Entry → Track → Entry
after_track e tracks.Cleared = e
after_track e (tracks.Cancelled cancel) = closed e cancel

-- after a look at its mark
abbrev pub after_look : Entry → Option ℕ → Entry
after_look e None = e
after_look e (Some cancel) = closed e cancel

-- after an ask on a node, for the child at a place
abbrev pub after_ask : Entry → ℕ → Place → Entry
after_ask e to place = record e { running = running_with_ask e.running to; asked = e.asked ++ place ∷ [] }

-- after the answer to an ask, at a moment
abbrev pub after_answer : Entry → ℕ → Reply → ℕ → Entry
after_answer e ask reply now = record e { running = running_with_answer e.running ask reply now }

-- after a turn of its work
abbrev pub with_work : Entry → Work → Entry
with_work e work = record e { running = record e.running { work = work } }

-- what it leaves when it ends
abbrev pub ended : Entry → EndedTask
ended e = record { place = e.place; info = e.info; request = e.request; page = e.page; work = e.running.work }
