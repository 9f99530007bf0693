-- In a run the steps of tasks are those that their plans say, and each turn of work has written its documents before anything else happens.
use Rattle.std.proofs.Common.{◌≡◌, ◌+◌, ◌-◌, ℕ, zero, suc, false, List, [], ◌∷◌, ◌++◌, length, Option, Some, None, refl, sym, ap, ◌∙◌, arith}
use Rattle.std.specs.Option.{option_map_or}
use Rattle.std.specs.Prelude.{⊤}
use Rattle.task_ids.specs.declared.cluster.Cluster.{Cluster}
use Rattle.task_ids.specs.declared.corpus.Corpus.{Corpus}
use Rattle.task_ids.specs.declared.doc.Doc.{Doc}
use Rattle.task_ids.specs.declared.task_id.TaskId.{TaskId}
use Rattle.task_events.specs.declared.event.Event.{Event}
use Rattle.task_events.specs.declared.event.Event.TheVariants.{Ask, Work, Write, End}
use Rattle.task_events.specs.declared.request.Request.{Request}
use Rattle.task_events.specs.declared.request.Request.TheVariants.{Search, Query, Fetch, Scroll, Reindex, Slice, Bulk, BulkShard}
use Rattle.task_events.specs.declared.request.WriteNote.{WriteNote}
use Rattle.task_events.specs.Cancels.{turn_of}
use Rattle.task_events.specs.Requests.{Scripted, request_of}
use Rattle.task_events.specs.Steps.{after_turn, turns_of}
use Rattle.task_events.specs.Written.{corpus_at, docs_of, docs_of_turn, notes_of, turn_notes, with_notes, write_of}
use Rattle.script_lang.specs.declared.command.Script.{Script}
use Rattle.command_roots.specs.Roots.{scripted}
use Rattle.task_laws.proofs.Same.{same_tests}
use Rattle.world_steps.specs.Scripts.{IsRunSoFar}
use Rattle.write_laws.proofs.EachRun.{each_run, is_own, is_work}
use Rattle.write_laws.proofs.StepCases.{IsStep, is_write, step_no_write}
use Rattle.write_laws.proofs.StepsKeep.{no_docs}

-- how many documents were written with the turn that is going on
abbrev pub written_now : List Event → ℕ
written_now (Write index shard outcome id ∷ h) = 1 + written_now h
written_now _ = 0

-- the documents of the newest turn of a task
abbrev pub docs_now : Scripted → TaskId → List Event → List Doc
docs_now said t h = docs_of_turn (docs_of (request_of said t h)) (turns_of t h - 1)

-- the turn that is going on, if any, has written its documents
abbrev pub IsWhole : Scripted → List Event → Type 0
IsWhole said h = (t : TaskId) → turn_of h ≡ Some t → written_now h ≡ length (docs_now said t h)

abbrev pub StepOf : Cluster → Corpus → Scripted → Event → List Event → Type 0
StepOf cluster corpus said (Ask p k n child) h = IsStep cluster corpus said (Ask p k n child) h
StepOf cluster corpus said (Work t) h = IsStep cluster corpus said (Work t) h
StepOf cluster corpus said (End t reply) h = IsStep cluster corpus said (End t reply) h
StepOf cluster corpus said _ h = ⊤

-- what but a write happens after a turn comes after a whole one
abbrev pub AfterWhole : Scripted → Event → List Event → Type 0
AfterWhole said (Write index shard outcome id) h = ⊤
AfterWhole said _ h = IsWhole said h

abbrev pub AllPlanned : Cluster → Corpus → Scripted → List Event → Type 0
AllPlanned cluster corpus said [] = ⊤
AllPlanned cluster corpus said (e ∷ h) = (StepOf cluster corpus said e h × AfterWhole said e h) × AllPlanned cluster corpus said h

-- ---- a turn of work

noted : (index : List ℕ) (shard : ℕ) (writes docs : List Doc) → length (notes_of index shard writes docs) ≡ length docs
noted index shard writes [] = refl
noted index shard writes (doc ∷ docs) = ap suc (noted index shard (writes ++ doc ∷ []) docs)

none_noted : (turns : ℕ) → zero ≡ length (docs_of_turn [] turns)
none_noted turns = ap length (sym (no_docs _ _))

-- a turn notes as many writes as it has documents
turn_noted : (cluster : Cluster) (corpus : Corpus) (o : Option Request) (turns : ℕ) → length (option_map_or (λ request. turn_notes cluster corpus request turns) o []) ≡ length (docs_of_turn (docs_of o) turns)
turn_noted cluster corpus None turns = none_noted turns
turn_noted cluster corpus (Some (Search ask)) turns = none_noted turns
turn_noted cluster corpus (Some (Scroll ask)) turns = none_noted turns
turn_noted cluster corpus (Some (Reindex ask)) turns = none_noted turns
turn_noted cluster corpus (Some (Slice ask)) turns = none_noted turns
turn_noted cluster corpus (Some (Bulk ask)) turns = none_noted turns
turn_noted cluster corpus (Some (Query ask)) turns = noted ask.index ask.shard _ (docs_of_turn [] turns)
turn_noted cluster corpus (Some (Fetch ask)) turns = noted ask.index ask.shard _ (docs_of_turn [] turns)
turn_noted cluster corpus (Some (BulkShard ask)) turns = noted ask.dest ask.shard _ (docs_of_turn ask.docs turns)

notes_written : (notes : List WriteNote) (g : List Event) → written_now (with_notes notes g) ≡ length notes + written_now g
notes_written [] g = omega arith
notes_written (note ∷ notes) g = let rest = notes_written notes (write_of note ∷ g) in omega (arith, rest)

notes_turn : (notes : List WriteNote) (g : List Event) → turn_of (with_notes notes g) ≡ turn_of g
notes_turn [] g = refl
notes_turn (note ∷ notes) g = notes_turn notes (write_of note ∷ g)

notes_docs : (said : Scripted) (t : TaskId) (notes : List WriteNote) (g : List Event) → docs_now said t (with_notes notes g) ≡ docs_now said t g
notes_docs said t [] g = refl
notes_docs said t (note ∷ notes) g = notes_docs said t notes (write_of note ∷ g)

module _ (cluster : Cluster) (corpus : Corpus) (said : Scripted) where
  notes_planned : (notes : List WriteNote) (g : List Event) → AllPlanned cluster corpus said g → AllPlanned cluster corpus said (with_notes notes g)
  notes_planned [] g all = all
  notes_planned (note ∷ notes) g all = notes_planned notes (write_of note ∷ g) ((tt, tt), all)

  abbrev pub Planned : List Event → Type 0
  Planned h = IsWhole said h × AllPlanned cluster corpus said h

  one_planned : (e : Event) (h : List Event) → is_own e ≡ false → Planned h → Planned (e ∷ h)
  one_planned (Ask p k n child) h quiet before = absurd (cc)
  one_planned (Work t) h quiet before = absurd (cc)
  one_planned (Write index shard outcome id) h quiet before = absurd (cc)
  one_planned (End t reply) h quiet before = absurd (cc)
  one_planned _ h quiet before = (λ u turn. absurd (cc), ((tt, before.0), before.1))

  step_planned : (e : Event) (h : List Event) → IsStep cluster corpus said e h → is_write e ≡ false → is_work e ≡ false → Planned h → Planned (e ∷ h)
  step_planned (Ask p k n child) h step apart alone before = (λ u turn. absurd (cc), ((step, before.0), before.1))
  step_planned (End t reply) h step apart alone before = (λ u turn. absurd (cc), ((step, before.0), before.1))
  step_planned (Work t) h step apart alone before = absurd (cc)
  step_planned (Write index shard outcome id) h step apart alone before = absurd (cc)
  step_planned _ h step apart alone before = (λ u turn. absurd (cc), ((tt, before.0), before.1))

  turn_planned : (t : TaskId) (h : List Event) → IsStep cluster corpus said (Work t) h → Planned h → Planned (after_turn cluster corpus said t h)
  turn_planned t h step before = (whole, notes_planned notes (Work t ∷ h) ((step, before.0), before.1))
    where
      notes : List WriteNote
      notes = option_map_or (λ request. turn_notes cluster (corpus_at corpus said h) request (turns_of t h)) (request_of said t h) []

      own : docs_now said t (Work t ∷ h) ≡ docs_of_turn (docs_of (request_of said t h)) (turns_of t h)
      own = ap (docs_of_turn (docs_of (request_of said t h))) (grind (arith, same_tests))

      whole : IsWhole said (with_notes notes (Work t ∷ h))
      whole u turn =
          let now : Some t ≡ Some u = sym (notes_turn notes (Work t ∷ h)) ∙ turn in
          let same : t ≡ u = cc in
          let as_many = notes_written notes (Work t ∷ h) in
          let all : written_now (with_notes notes (Work t ∷ h)) ≡ length notes = omega (arith, as_many) in
          all ∙ turn_noted cluster (corpus_at corpus said h) (request_of said t h) (turns_of t h) ∙ ap length (sym own ∙ sym (notes_docs said t notes (Work t ∷ h)) ∙ ap (λ x. docs_now said x (with_notes notes (Work t ∷ h))) same)

pub run_planned : (cluster : Cluster) (corpus : Corpus) (script : Script) (h : List Event) → IsRunSoFar cluster corpus script h → AllPlanned cluster corpus (scripted script) h
run_planned cluster corpus script =
    each_run (Planned cluster corpus (scripted script)) (AllPlanned cluster corpus (scripted script)) (λ h planned. planned.1) (λ e h planned. planned.1) (one_planned cluster corpus (scripted script)) cluster corpus script (λ t turn. absurd (cc), tt)
    (λ t h e next alone. step_planned cluster corpus (scripted script) e h (t, next) (step_no_write cluster corpus (scripted script) h t e next) alone)
    (λ t u h next. turn_planned cluster corpus (scripted script) u h (t, next))
