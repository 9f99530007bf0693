use Rattle.std.proofs.Common.{◌≡◌, ℕ, ◌+◌, List, [], ◌∷◌, ◌++◌, length, length-append, sym, ap, ◌∙◌, subst, append_assoc, Some}
use Rattle.std.specs.Prelude.{slice_get}
use Rattle.node_link.specs.declared.ends.Tally.{Tally}
use Rattle.node_link.proofs.Counts.{each_more, no_more}
use Rattle.race_board.specs.declared.closing.Closed.{Closed}
use Rattle.run_inboxes.proofs.Pairs.{there}
use Rattle.run_cluster.specs.declared.notes.NodeNote.{NodeNote}
use Rattle.run_cluster.specs.declared.places.Place.{Place}
use Rattle.run_cluster.specs.Notes.{note_of}
use Rattle.run_cluster.proofs.closing.node_notes.Goals as goal

-- the note is that of the place at its number
abbrev IsOf : List (Place Closed Tally) → ℕ → NodeNote → Type 0
IsOf places k note = (place : Place Closed Tally) × (slice_get places k ≡ Some place) × (note ≡ note_of k place)

pub loop-place-preserved : goal.loop-place-preserved
loop-place-preserved c =
    let i = c.loop-place.invariant in
    let x = c.in-Some.place in
    let before = c.loop-place.yielded in
    let n = c.loop-place.before in
    let places = c.args.places.items in
    let rest = c.next.new.self.rest.items in
    let notes = c.loop-place.notes.items in
    let goes = ap (λ (l : List _). before ++ l) (sym c.in-Some.ensures.steps.0) ∙ i.2 in
    let same = i.3 in
    let note : NodeNote = record { node = n + 1; closed = x.board; control = x.control; datas = c.from_vec.result } in
    let made : note ≡ note_of n x = ap (λ (told : List Tally). record { node = n + 1; closed = x.board; control = x.control; datas = told }) c.from_vec.ensures in
    let one : IsOf places n note = (x, subst (λ (m : ℕ). slice_get places m ≡ Some x) (sym same) (there before rest places x goes), made) in
    let items = c.in_ok-push.ensures.items in (
      tt,
      tt,
      append_assoc before (x ∷ []) rest ∙ goes,
      ap (λ (m : ℕ). m + 1) same ∙ sym (length-append before (x ∷ [])),
      ap length items ∙ length-append notes (note ∷ []) ∙ ap (λ (m : ℕ). m + 1) i.4,
      subst (λ (l : List NodeNote). (k : ℕ) (m : NodeNote) → slice_get l k ≡ Some m → IsOf places k m) (sym items)
          (each_more (IsOf places) notes note i.5 (subst (λ (m : ℕ). IsOf places m note) (sym i.4) one)),
    )

pub returns : goal.returns
returns c =
    let i = c.loop-place.invariant in
    let rest = c.loop-place.place-iterator.rest in
    let all = no_more c.loop-place.yielded rest.items c.args.places.items i.2 (sym rest.ok.0 ∙ c.in-None.ensures.steps.0) in
    record { count = i.4 ∙ i.3 ∙ ap length all; each = i.5 }
