-- First parts of a turn of work that writes.
use Rattle.std.proofs.Common.{◌≡◌, ◌<◌, ℕ, ◌+◌, ◌++◌, ◌∷◌, List, [], length, take, get_or, ap, sym, refl, ◌∙◌, append_assoc}
use Rattle.std.specs.Prelude.{drop}
use Rattle.std.proofs.lemmas.List.{take-append-drop}
use Rattle.std.proofs.lemmas.List.{take_more}
use Rattle.std.specs.Option.{option_map_or}
use Rattle.task_ids.specs.declared.task_id.TaskId.{TaskId}
use Rattle.task_ids.specs.declared.cluster.Cluster.{Cluster}
use Rattle.task_ids.specs.declared.corpus.Corpus.{Corpus}
use Rattle.task_events.specs.declared.event.Event.{Event}
use Rattle.task_events.specs.declared.event.Event.TheVariants.{Work}
use Rattle.task_events.specs.declared.history.TheConstants.{MAX_EVENTS}
use Rattle.task_events.specs.declared.request.WriteNote.{WriteNote}
use Rattle.task_events.specs.Requests.{Scripted, request_of}
use Rattle.task_events.specs.Steps.{after_turn, turns_of}
use Rattle.task_events.specs.Written.{corpus_at, turn_notes, write_of, with_notes}
use Rattle.world_moves.specs.Moves.{IsPartOf, IsCutShort}

-- the writes come after what was there
pub grown_by : (notes : List WriteNote) (g : List Event) → (later : List Event) × (with_notes notes g ≡ later ++ g)
grown_by [] g = ([], refl)
grown_by (note ∷ notes) g =
    let rest = grown_by notes (write_of note ∷ g) in
    (rest.0 ++ write_of note ∷ [], rest.1 ∙ sym (append_assoc rest.0 (write_of note ∷ []) g))

-- nothing has come yet
pub none_yet : (e : Event) (notes : List WriteNote) (h new : List Event) → new ≡ h → IsPartOf h new (with_notes notes (e ∷ h))
none_yet e notes h new same =
    let rest = grown_by notes (e ∷ h) in
    (rest.0 ++ e ∷ [], [], rest.1 ∙ sym (append_assoc rest.0 (e ∷ []) h) ∙ ap (λ past. (rest.0 ++ e ∷ []) ++ past) (sym same), same)

-- and the first event does not fit
pub none_fits : (e : Event) (notes : List WriteNote) (h new : List Event) → length h ≡ MAX_EVENTS → new ≡ h → IsCutShort (λ past. IsPartOf h past (with_notes notes (e ∷ h))) new
none_fits e notes h new full same =
    let rest = grown_by notes (e ∷ h) in
    (ap length same ∙ full, e, (rest.0, e ∷ [], rest.1 ∙ ap (λ past. rest.0 ++ e ∷ past) (sym same), ap (λ past. e ∷ past) same))

-- so of a turn nothing has come yet
module _ (cluster : Cluster) (corpus : Corpus) (said : Scripted) (t : TaskId) (h : List Event) where
  -- what it writes
  abbrev notes_then : List WriteNote
  notes_then = option_map_or (λ request. turn_notes cluster (corpus_at corpus said h) request (turns_of t h)) (request_of said t h) []

  pub turn_unbegun : IsPartOf h h (after_turn cluster corpus said t h)
  turn_unbegun = none_yet (Work t) notes_then h h refl

  -- and where the history is full it does not begin
  pub turn_misses : length h ≡ MAX_EVENTS → IsCutShort (λ past. IsPartOf h past (after_turn cluster corpus said t h)) h
  turn_misses full = none_fits (Work t) notes_then h h full refl

-- some writes, and then some more
split_notes : (some more : List WriteNote) (g : List Event) → with_notes (some ++ more) g ≡ with_notes more (with_notes some g)
split_notes [] more g = refl
split_notes (note ∷ some) more g = split_notes some more (write_of note ∷ g)

-- one write more
pub next_note : (notes : List WriteNote) (i : ℕ) (note : WriteNote) (g new now : List Event) → i < length notes → note ≡ get_or notes i note → now ≡ with_notes (take i notes) g → new ≡ write_of note ∷ now → new ≡ with_notes (take (i + 1) notes) g
next_note notes i note g new now below is so_far came =
    came ∙ ap (λ past. write_of note ∷ past) so_far ∙ sym (split_notes (take i notes) (note ∷ []) g) ∙ ap (λ some. with_notes some g) (sym (take_more notes i note below ∙ ap (λ n. take i notes ++ n ∷ []) (sym is)))

-- the first so many
pub first_notes : (e : Event) (notes : List WriteNote) (i : ℕ) (h new : List Event) → new ≡ with_notes (take i notes) (e ∷ h) → IsPartOf h new (with_notes notes (e ∷ h))
first_notes e notes i h new is =
    let later = grown_by (drop i notes) (with_notes (take i notes) (e ∷ h)) in
    let earlier = grown_by (take i notes) (e ∷ h) in (
      later.0,
      earlier.0 ++ e ∷ [],
      ap (λ all. with_notes all (e ∷ h)) (sym (take-append-drop i notes)) ∙ split_notes (take i notes) (drop i notes) (e ∷ h) ∙ later.1 ∙ ap (λ past. later.0 ++ past) (sym is),
      is ∙ earlier.1 ∙ sym (append_assoc earlier.0 (e ∷ []) h),
    )

-- and the next one does not fit
pub next_misses : (e : Event) (notes : List WriteNote) (i : ℕ) (note : WriteNote) (h now new : List Event) → i < length notes → note ≡ get_or notes i note → now ≡ with_notes (take i notes) (e ∷ h) → length now ≡ MAX_EVENTS → new ≡ now
    → IsCutShort (λ past. IsPartOf h past (with_notes notes (e ∷ h))) new
next_misses e notes i note h now new below is so_far full same =
    (ap length same ∙ full, write_of note, first_notes e notes (i + 1) h (write_of note ∷ new) (next_note notes i note (e ∷ h) (write_of note ∷ new) now below is so_far (ap (λ past. write_of note ∷ past) same)))
