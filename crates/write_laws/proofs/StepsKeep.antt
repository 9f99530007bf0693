-- The step of a task keeps to its kind: what it asks for, and what it writes with a turn of work.
use Rattle.std.proofs.Common.{◌≡◌, ◌*◌, ℕ, zero, suc, Bool, true, false, cond, List, [], ◌∷◌, drop, take, Option, Some, None, refl, sym, ap, subst}
use Rattle.std.specs.Option.{option_map_or}
use Rattle.std.specs.Prelude.{option_and_then, option_map}
use Rattle.task_ids.specs.declared.cluster.Cluster.{Cluster}
use Rattle.task_ids.specs.declared.corpus.Corpus.{Corpus}
use Rattle.task_ids.specs.declared.doc.Doc.{Doc}
use Rattle.task_ids.specs.declared.task_id.TaskId.{TaskId}
use Rattle.task_events.specs.declared.event.Event.{Event}
use Rattle.task_events.specs.declared.event.Event.TheVariants.{Work}
use Rattle.task_events.specs.declared.reply.Counts.{Counts}
use Rattle.task_events.specs.declared.request.Request.{Request}
use Rattle.task_events.specs.declared.request.Request.TheVariants.{Search, Query, Fetch, Scroll, Reindex, Slice, Bulk, BulkShard}
use Rattle.task_events.specs.declared.request.WriteNote.{WriteNote}
use Rattle.task_events.specs.declared.step.Do.{Do}
use Rattle.task_events.specs.declared.step.Do.TheVariants.{AskNext, Turn, Wait, Finish}
use Rattle.task_events.specs.Asks.{Pending, unanswered}
use Rattle.task_events.specs.Bans.{ban_over, mark_of}
use Rattle.task_events.specs.Cancels.{turn_of}
use Rattle.task_events.specs.Clock.{clock}
use Rattle.task_events.specs.Looking.{rows_per_turn}
use Rattle.task_events.specs.Requests.{Scripted, request_of}
use Rattle.task_events.specs.Steps.{after_turn, cancelled_step, counted, event_of, first_step, next_step, planned_step, progress_of, step_of_passed, turns_of}
use Rattle.task_events.specs.Tasks.{is_new}
use Rattle.task_events.specs.Written.{corpus_at, docs_of_turn, notes_at, turn_notes, with_notes, write_of}
use Rattle.write_laws.specs.KindsAsked.{KeepsToKind, KeepsToKinds, is_part, may_ask}
use Rattle.write_laws.proofs.AsksByKind.{asks_by_kind, asks_only}

-- ---- a step

module _ (cluster : Cluster) (corpus : Corpus) (said : Scripted) (t : TaskId) (h : List Event) where
  abbrev Keeps : Event → Type 0
  Keeps e = KeepsToKind said e h

  moved : (e d : Event) → Keeps d → Some d ≡ Some e → Keeps e
  moved e d keeps is = let same : d ≡ e = cc in subst Keeps same keeps

  by_first : (ban : Option ℕ) (e : Event) → Some (first_step t ban) ≡ Some e → Keeps e
  by_first None e is = moved e (first_step t None) tt is
  by_first (Some c) e is = moved e (first_step t (Some c)) tt is

  by_mark : (c : ℕ) (counts : Counts) (asks : List Pending) (e : Event) → cancelled_step t c counts asks ≡ Some e → Keeps e
  by_mark c counts [] e is = moved e _ tt is
  by_mark c counts (ask ∷ asks) e is = absurd (cc)

  by_do : (request : Request) → request_of said t h ≡ Some request → (d : Do) → asks_only (may_ask request) d ≡ true → (e : Event) → event_of cluster t h d ≡ Some e → Keeps e
  by_do request asked (AskNext child) may e is = moved e _ (rw asked may) is
  by_do request asked Turn may e is = moved e (Work t) tt is
  by_do request asked (Wait due) may e is = absurd (cc)
  by_do request asked (Finish reply) may e is = moved e _ tt is

  by_plan : (o : Option Request) → request_of said t h ≡ o → (e : Event) → option_and_then (event_of cluster t h) (option_map (λ request. planned_step cluster corpus said t request h) o) ≡ Some e → Keeps e
  by_plan None asked e is = absurd (cc)
  by_plan (Some request) asked e is =
      by_do request asked (planned_step cluster corpus said t request h) (asks_by_kind request cluster (corpus_at corpus said h) t (progress_of cluster corpus said t request h) (clock h)) e is

  by_step : (new : Bool) (mark : Option ℕ) (counts : Counts) (e : Event)
      → cond new (Some (first_step t (ban_over t h))) (step_of_passed cluster t h mark counts (option_map (λ request. planned_step cluster corpus said t request h) (request_of said t h))) ≡ Some e → Keeps e
  by_step true mark counts e is = by_first (ban_over t h) e is
  by_step false (Some c) counts e is = by_mark c counts (unanswered t h) e is
  by_step false None counts e is = by_plan (request_of said t h) refl e is

  pub step_keeps : (e : Event) → next_step cluster corpus said t h ≡ Some e → KeepsToKind said e h
  step_keeps e is = by_step (is_new t h) (mark_of t h) (counted cluster corpus said t h) e is

-- ---- a turn of work

pub no_docs : (n m : ℕ) → take {A = Doc} n (drop m []) ≡ []
no_docs zero m = refl
no_docs (suc n) zero = refl
no_docs (suc n) (suc m) = refl

module _ (said : Scripted) (t : TaskId) where
  -- a part may write
  notes_keep : (notes : List WriteNote) (g : List Event) → turn_of g ≡ Some t → option_map_or is_part (request_of said t g) false ≡ true → KeepsToKinds said g → KeepsToKinds said (with_notes notes g)
  notes_keep [] g turn part keeps = keeps
  notes_keep (note ∷ notes) g turn part keeps = notes_keep notes (write_of note ∷ g) turn part (rw turn part, keeps)

  -- what has no documents writes none
  no_notes : (notes : List WriteNote) (g : List Event) → notes ≡ [] → KeepsToKinds said g → KeepsToKinds said (with_notes notes g)
  no_notes notes g none keeps = subst (λ x. KeepsToKinds said (with_notes x g)) (sym none) keeps

  pub none_at : (place : Option (List ℕ × ℕ)) (writes : List Doc) (turns : ℕ) → notes_at place writes (docs_of_turn [] turns) ≡ []
  none_at None writes turns = refl
  none_at (Some place) writes turns = ap (notes_at (Some place) writes) (no_docs rows_per_turn (turns * rows_per_turn))

  by_request : (cluster : Cluster) (corpus : Corpus) (turns : ℕ) (h : List Event) (o : Option Request) → request_of said t h ≡ o → KeepsToKinds said h
      → KeepsToKinds said (with_notes (option_map_or (λ request. turn_notes cluster corpus request turns) o []) (Work t ∷ h))
  by_request cluster corpus turns h None asked keeps = (tt, keeps)
  by_request cluster corpus turns h (Some (Search ask)) asked keeps = (tt, keeps)
  by_request cluster corpus turns h (Some (Scroll ask)) asked keeps = (tt, keeps)
  by_request cluster corpus turns h (Some (Reindex ask)) asked keeps = (tt, keeps)
  by_request cluster corpus turns h (Some (Slice ask)) asked keeps = (tt, keeps)
  by_request cluster corpus turns h (Some (Bulk ask)) asked keeps = (tt, keeps)
  by_request cluster corpus turns h (Some (Query ask)) asked keeps = no_notes _ (Work t ∷ h) (none_at (Some (ask.index, ask.shard)) _ turns) (tt, keeps)
  by_request cluster corpus turns h (Some (Fetch ask)) asked keeps = no_notes _ (Work t ∷ h) (none_at (Some (ask.index, ask.shard)) _ turns) (tt, keeps)
  by_request cluster corpus turns h (Some (BulkShard ask)) asked keeps = notes_keep (turn_notes cluster corpus (BulkShard ask) turns) (Work t ∷ h) refl (rw asked refl) (tt, keeps)

  pub turn_keeps : (cluster : Cluster) (corpus : Corpus) (h : List Event) → KeepsToKinds said h → KeepsToKinds said (after_turn cluster corpus said t h)
  turn_keeps cluster corpus h keeps = by_request cluster (corpus_at corpus said h) (turns_of t h) h (request_of said t h) refl keeps
