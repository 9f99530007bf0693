use Rattle.std.proofs.Common.{◌≡◌, ℕ, ◌++◌, length, Some}
use Rattle.std.specs.Prelude.{slice_get}
use Rattle.node_link.specs.declared.ends.Tally.{Tally}
use Rattle.race_board.specs.declared.closing.Closed.{Closed}
use Rattle.run_cluster.specs.declared.notes.NodeNote.{NodeNote}
use Rattle.run_cluster.specs.declared.places.Place.{Place}
use Rattle.run_cluster.specs.Notes.{note_of}
use Rattle.run_cluster.proofs.closing.node_notes.Given as goal

abbrev pub invariant-loop-place : goal.invariant-loop-place
invariant-loop-place l =
    goal.iterator-loop-place.can_next l.place-iterator × goal.iterator-loop-place.is_finite l.place-iterator
    × (l.yielded ++ l.place-iterator.rest.items ≡ l.fn.places.items)
    × (l.before ≡ length l.yielded)
    × (length l.notes.items ≡ l.before)
    × ((k : ℕ) (note : NodeNote) → slice_get l.notes.items k ≡ Some note → (place : Place Closed Tally) × (slice_get l.fn.places.items k ≡ Some place) × (note ≡ note_of k place))
