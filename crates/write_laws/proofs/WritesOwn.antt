-- In a run each document is written to the index that the task whose turn it is was asked to write to.
use Rattle.std.proofs.Common.{◌≡◌, ℕ, false, List, [], ◌∷◌, Option, Some, None, refl, sym, ap, subst, ◌∙◌}
use Rattle.std.specs.List.{AllByRecursion}
use Rattle.std.specs.Option.{option_map_or}
use Rattle.std.specs.Prelude.{option_and_then, ⊤}
use Rattle.task_ids.specs.declared.cluster.Cluster.{Cluster}
use Rattle.task_ids.specs.declared.corpus.Corpus.{Corpus}
use Rattle.task_ids.specs.declared.doc.Doc.{Doc}
use Rattle.task_ids.specs.declared.task_id.TaskId.{TaskId}
use Rattle.task_events.specs.declared.event.Event.{Event}
use Rattle.task_events.specs.declared.event.Event.TheVariants.{Work, Write}
use Rattle.task_events.specs.declared.request.Request.{Request}
use Rattle.task_events.specs.declared.request.Request.TheVariants.{Search, Query, Fetch, Scroll, Reindex, Slice, Bulk, BulkShard}
use Rattle.task_events.specs.declared.request.WriteNote.{WriteNote}
use Rattle.task_events.specs.Cancels.{turn_of}
use Rattle.task_events.specs.Requests.{Scripted, request_of}
use Rattle.task_events.specs.Steps.{after_turn, turns_of}
use Rattle.task_events.specs.Written.{corpus_at, docs_of_turn, notes_of, turn_notes, with_notes, write_of}
use Rattle.script_lang.specs.declared.command.Script.{Script}
use Rattle.command_roots.specs.Roots.{scripted}
use Rattle.world_steps.specs.Scripts.{IsRunSoFar}
use Rattle.write_laws.specs.Destinations.{dest_asked, dest_in}
use Rattle.write_laws.proofs.EachRun.{each_run, is_own}
use Rattle.write_laws.proofs.StepCases.{is_write, step_no_write}
use Rattle.write_laws.proofs.StepsKeep.{none_at}

-- each write is to the index of whose turn it is
abbrev pub WritesOwn : Scripted → List Event → Type 0
WritesOwn said [] = ⊤
WritesOwn said (Write index shard outcome id ∷ h) = ((w : TaskId) → turn_of h ≡ Some w → dest_asked said w h ≡ Some index) × WritesOwn said h
WritesOwn said (_ ∷ h) = WritesOwn said h

-- these notes are for this index
abbrev AreFor : List ℕ → List WriteNote → Type 0
AreFor index notes = AllByRecursion (λ (note : WriteNote). note.index ≡ index) notes

noted_for : (index : List ℕ) (shard : ℕ) (writes docs : List Doc) → AreFor index (notes_of index shard writes docs)
noted_for index shard writes [] = tt
noted_for index shard writes (doc ∷ docs) = (refl, noted_for index shard _ docs)

module _ (said : Scripted) (t : TaskId) where
  notes_own : (index : List ℕ) (notes : List WriteNote) (g : List Event) → turn_of g ≡ Some t → dest_asked said t g ≡ Some index → AreFor index notes → WritesOwn said g → WritesOwn said (with_notes notes g)
  notes_own index [] g turn told all own = own
  notes_own index (note ∷ notes) g turn told all own = notes_own index notes (write_of note ∷ g) turn told all.1 (there, own)
    where
      there : (w : TaskId) → turn_of g ≡ Some w → dest_asked said w g ≡ Some note.index
      there w e =
          let now : Some t ≡ Some w = sym turn ∙ e in
          let same : t ≡ w = cc in
          ap (λ x. dest_asked said x g) (sym same) ∙ told ∙ ap Some (sym all.0)

  no_notes : (notes : List WriteNote) (g : List Event) → notes ≡ [] → WritesOwn said g → WritesOwn said (with_notes notes g)
  no_notes notes g none own = subst (λ x. WritesOwn said (with_notes x g)) (sym none) own

  by_request : (cluster : Cluster) (corpus : Corpus) (turns : ℕ) (h : List Event) (o : Option Request) → request_of said t h ≡ o → WritesOwn said h → WritesOwn said (with_notes (option_map_or (λ request. turn_notes cluster corpus request turns) o []) (Work t ∷ h))
  by_request cluster corpus turns h None asked own = own
  by_request cluster corpus turns h (Some (Search ask)) asked own = own
  by_request cluster corpus turns h (Some (Scroll ask)) asked own = own
  by_request cluster corpus turns h (Some (Reindex ask)) asked own = own
  by_request cluster corpus turns h (Some (Slice ask)) asked own = own
  by_request cluster corpus turns h (Some (Bulk ask)) asked own = own
  by_request cluster corpus turns h (Some (Query ask)) asked own = no_notes _ (Work t ∷ h) (none_at said t (Some (ask.index, ask.shard)) _ turns) own
  by_request cluster corpus turns h (Some (Fetch ask)) asked own = no_notes _ (Work t ∷ h) (none_at said t (Some (ask.index, ask.shard)) _ turns) own
  by_request cluster corpus turns h (Some (BulkShard ask)) asked own = notes_own ask.dest (turn_notes cluster corpus (BulkShard ask) turns) (Work t ∷ h) refl (ap (option_and_then dest_in) asked) (noted_for ask.dest ask.shard _ (docs_of_turn ask.docs turns)) own

  turn_own : (cluster : Cluster) (corpus : Corpus) (h : List Event) → WritesOwn said h → WritesOwn said (after_turn cluster corpus said t h)
  turn_own cluster corpus h own = by_request cluster (corpus_at corpus said h) (turns_of t h) h (request_of said t h) refl own

module _ (said : Scripted) where
  own_before : (e : Event) (h : List Event) → WritesOwn said (e ∷ h) → WritesOwn said h
  own_before (Write index shard outcome id) h own = own.1
  own_before _ h own = own

  else_own : (e : Event) (h : List Event) → is_write e ≡ false → WritesOwn said h → WritesOwn said (e ∷ h)
  else_own (Write index shard outcome id) h other own = absurd (cc)
  else_own _ h other own = own

  not_own : (e : Event) → is_own e ≡ false → is_write e ≡ false
  not_own (Write index shard outcome id) quiet = absurd (cc)
  not_own _ quiet = refl

pub run_writes_own : (cluster : Cluster) (corpus : Corpus) (script : Script) (h : List Event) → IsRunSoFar cluster corpus script h → WritesOwn (scripted script) h
run_writes_own cluster corpus script =
    each_run (WritesOwn (scripted script)) (WritesOwn (scripted script)) (λ h own. own) (own_before (scripted script)) (λ e h quiet. else_own (scripted script) e h (not_own (scripted script) e quiet)) cluster corpus script tt
    (λ t h e next alone. else_own (scripted script) e h (step_no_write cluster corpus (scripted script) h t e next))
    (λ t u h next. turn_own (scripted script) u cluster corpus h)
