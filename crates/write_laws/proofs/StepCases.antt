-- What leads to the step of a task: its first step, its mark, or its plan.
use Rattle.std.proofs.Common.{◌≡◌, ◌+◌, ℕ, Bool, true, false, cond, List, [], ◌∷◌, Option, Some, None, refl, sym, ap, subst, ◌∙◌}
use Rattle.std.specs.Prelude.{option_and_then, option_map}
use Rattle.task_ids.specs.declared.cluster.Cluster.{Cluster}
use Rattle.task_ids.specs.declared.corpus.Corpus.{Corpus}
use Rattle.task_ids.specs.declared.task_id.TaskId.{TaskId}
use Rattle.task_events.specs.declared.event.Event.{Event}
use Rattle.task_events.specs.declared.event.Event.TheVariants.{Ask, Work, Write, End}
use Rattle.task_events.specs.declared.reply.Counts.{Counts}
use Rattle.task_events.specs.declared.reply.Reply.{Reply}
use Rattle.task_events.specs.declared.reply.Reply.TheVariants.{Cancelled}
use Rattle.task_events.specs.declared.request.Request.{Request}
use Rattle.task_events.specs.declared.step.Do.{Do}
use Rattle.task_events.specs.declared.step.Do.TheVariants.{AskNext, Turn, Wait, Finish}
use Rattle.task_events.specs.Asks.{Pending, last_ask, unanswered}
use Rattle.task_events.specs.Bans.{ban_over, mark_of}
use Rattle.task_events.specs.Kinds.{node_for}
use Rattle.task_events.specs.Requests.{Scripted, request_of}
use Rattle.task_events.specs.Steps.{cancelled_step, counted, event_of, first_step, next_step, planned_step, step_of_passed}
use Rattle.task_events.specs.Tasks.{is_new}

module _ (cluster : Cluster) (corpus : Corpus) (said : Scripted) (t : TaskId) (h : List Event) (P : Event → Type 0) (first : (ban : Option ℕ) → P (first_step t ban)) (marked : (c : ℕ) (counts : Counts) → P (End t (Cancelled t c counts)))
    (planned : (request : Request) (e : Event) → request_of said t h ≡ Some request → event_of cluster t h (planned_step cluster corpus said t request h) ≡ Some e → P e) where
  moved : (e d : Event) → P d → Some d ≡ Some e → P e
  moved e d so is = let same : d ≡ e = cc in subst P same so

  by_mark : (c : ℕ) (counts : Counts) (asks : List Pending) (e : Event) → cancelled_step t c counts asks ≡ Some e → P e
  by_mark c counts [] e is = moved e _ (marked c counts) is
  by_mark c counts (ask ∷ asks) e is = absurd (cc)

  by_plan : (o : Option Request) → request_of said t h ≡ o → (e : Event) → option_and_then (event_of cluster t h) (option_map (λ request. planned_step cluster corpus said t request h) o) ≡ Some e → P e
  by_plan None asked e is = absurd (cc)
  by_plan (Some request) asked e is = planned request e asked is

  by_step : (new : Bool) (mark : Option ℕ) (counts : Counts) (e : Event)
      → cond new (Some (first_step t (ban_over t h))) (step_of_passed cluster t h mark counts (option_map (λ request. planned_step cluster corpus said t request h) (request_of said t h))) ≡ Some e → P e
  by_step true mark counts e is = moved e _ (first (ban_over t h)) is
  by_step false (Some c) counts e is = by_mark c counts (unanswered t h) e is
  by_step false None counts e is = by_plan (request_of said t h) refl e is

  pub step_case : (e : Event) → next_step cluster corpus said t h ≡ Some e → P e
  step_case e is = by_step (is_new t h) (mark_of t h) (counted cluster corpus said t h) e is

-- ---- what a step of some task is

-- the event is the next step of a task
abbrev pub IsStep : Cluster → Corpus → Scripted → Event → List Event → Type 0
IsStep cluster corpus said e h = (t : TaskId) × (next_step cluster corpus said t h ≡ Some e)

abbrev pub is_cancelled : Reply → Bool
is_cancelled (Cancelled t c counts) = true
is_cancelled _ = false

abbrev pub is_write : Event → Bool
is_write (Write index shard outcome id) = true
is_write _ = false

module _ (cluster : Cluster) (corpus : Corpus) (said : Scripted) (h : List Event) where
  -- it is no write
  done_no_write : (t : TaskId) (d : Do) (e : Event) → event_of cluster t h d ≡ Some e → is_write e ≡ false
  done_no_write t (AskNext child) e is = let same : Ask t (last_ask t h + 1) (node_for cluster t child) child ≡ e = cc in ap is_write (sym same)
  done_no_write t Turn e is = let same : Work t ≡ e = cc in ap is_write (sym same)
  done_no_write t (Wait due) e is = absurd (cc)
  done_no_write t (Finish reply) e is = let same : End t reply ≡ e = cc in ap is_write (sym same)

  pub step_no_write : (t : TaskId) (e : Event) → next_step cluster corpus said t h ≡ Some e → is_write e ≡ false
  step_no_write t = step_case cluster corpus said t h (λ e. is_write e ≡ false) first (λ c counts. refl) (λ request e asked is. done_no_write t (planned_step cluster corpus said t request h) e is)
    where
      first : (ban : Option ℕ) → is_write (first_step t ban) ≡ false
      first None = refl
      first (Some c) = refl

  -- a task that ends, and is not cancelled, follows its plan
  abbrev EndsByPlan : Event → Type 0
  EndsByPlan e = (u : TaskId) (last : Reply) (request : Request) → e ≡ End u last → is_cancelled last ≡ false → request_of said u h ≡ Some request → planned_step cluster corpus said u request h ≡ Finish last

  done_ends : (t : TaskId) (d : Do) (u : TaskId) (last : Reply) → event_of cluster t h d ≡ Some (End u last) → (t ≡ u) × (d ≡ Finish last)
  done_ends t (AskNext child) u last is = absurd (cc)
  done_ends t Turn u last is = absurd (cc)
  done_ends t (Wait due) u last is = absurd (cc)
  done_ends t (Finish reply) u last is = let same : reply ≡ last = cc in (cc, ap Finish same)

  pub ends_by_plan : (e : Event) → IsStep cluster corpus said e h → EndsByPlan e
  ends_by_plan e (t, next) = step_case cluster corpus said t h EndsByPlan first marked planned e next
    where
      first : (ban : Option ℕ) → EndsByPlan (first_step t ban)
      first None u last request is good asked = absurd (cc)
      first (Some c) u last request is good asked = absurd (cc)

      marked : (c : ℕ) (counts : Counts) → EndsByPlan (End t (Cancelled t c counts))
      marked c counts u last request is good asked = absurd (let same : Cancelled t c counts ≡ last = cc in let no : true ≡ false = ap is_cancelled same ∙ good in cc)

      planned : (made : Request) (e : Event) → request_of said t h ≡ Some made → event_of cluster t h (planned_step cluster corpus said t made h) ≡ Some e → EndsByPlan e
      planned made e was leads u last request is good asked =
          let done = done_ends t (planned_step cluster corpus said t made h) u last (leads ∙ ap Some is) in
          let one : Some made ≡ Some request = sym was ∙ ap (λ x. request_of said x h) done.0 ∙ asked in
          let same : made ≡ request = cc in
          (λ i. planned_step cluster corpus said (sym done.0 i) (sym same i) h) ∙ done.1

  -- a task that asks for something follows its plan
  abbrev AsksByPlan : Event → Type 0
  AsksByPlan e = (u : TaskId) (k n : ℕ) (child request : Request) → e ≡ Ask u k n child → request_of said u h ≡ Some request → planned_step cluster corpus said u request h ≡ AskNext child

  done_asks : (t : TaskId) (d : Do) (u : TaskId) (k n : ℕ) (child : Request) → event_of cluster t h d ≡ Some (Ask u k n child) → (t ≡ u) × (d ≡ AskNext child)
  done_asks t (AskNext made) u k n child is = let same : made ≡ child = cc in (cc, ap AskNext same)
  done_asks t Turn u k n child is = absurd (cc)
  done_asks t (Wait due) u k n child is = absurd (cc)
  done_asks t (Finish reply) u k n child is = absurd (cc)

  pub asks_by_plan : (e : Event) → IsStep cluster corpus said e h → AsksByPlan e
  asks_by_plan e (t, next) = step_case cluster corpus said t h AsksByPlan first (λ c counts u k n child request is asked. absurd (cc)) planned e next
    where
      first : (ban : Option ℕ) → AsksByPlan (first_step t ban)
      first None u k n child request is asked = absurd (cc)
      first (Some c) u k n child request is asked = absurd (cc)

      planned : (made : Request) (e : Event) → request_of said t h ≡ Some made → event_of cluster t h (planned_step cluster corpus said t made h) ≡ Some e → AsksByPlan e
      planned made e was leads u k n child request is asked =
          let done = done_asks t (planned_step cluster corpus said t made h) u k n child (leads ∙ ap Some is) in
          let one : Some made ≡ Some request = sym was ∙ ap (λ x. request_of said x h) done.0 ∙ asked in
          let same : made ≡ request = cc in
          (λ i. planned_step cluster corpus said (sym done.0 i) (sym same i) h) ∙ done.1
