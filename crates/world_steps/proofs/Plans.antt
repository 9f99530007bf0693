-- What a live task does next, and for which moment it waits: what its work says, where it is not marked.
use Rattle.std.proofs.Common.{◌≡◌, ℕ, Bool, true, false, ◌&&◌, not, List, [], Option, Some, None, refl, sym, ap, ◌∙◌}
use Rattle.std.specs.Prelude.{is_some, option_and_then, option_map}
use Rattle.task_ids.specs.declared.task_id.TaskId.{TaskId}
use Rattle.task_ids.specs.declared.cluster.Cluster.{Cluster}
use Rattle.task_ids.specs.declared.corpus.Corpus.{Corpus}
use Rattle.task_ids.specs.declared.doc.Doc.{Doc}
use Rattle.task_table.specs.Table.{Table}
use Rattle.task_events.specs.declared.request.Request.{Request}
use Rattle.task_events.specs.declared.step.Do.{Do}
use Rattle.task_events.specs.declared.step.Do.TheVariants.{AskNext, Turn, Wait, Finish}
use Rattle.task_events.specs.declared.event.Event.{Event}
use Rattle.task_events.specs.declared.event.Event.TheVariants.{End}
use Rattle.task_events.specs.declared.reply.Reply.TheVariants.{Cancelled}
use Rattle.task_events.specs.Clock.{clock}
use Rattle.task_events.specs.Kind.{Progress}
use Rattle.task_events.specs.Kinds.{kind_of}
use Rattle.task_events.specs.Tasks.{is_live, is_new}
use Rattle.task_events.specs.Requests.{request_of}
use Rattle.task_events.specs.Steps.{counted, event_of, first_step, cancelled_step, planned_step}
use Rattle.task_events.specs.Asks.{unanswered}
use Rattle.task_events.specs.Bans.{ban_over, mark_of}
use Rattle.task_work.specs.Works.{IsWorkOn, next_of, does_wait, due_in}
use Rattle.script_lang.specs.declared.command.Script.{Script}
use Rattle.world_moves.specs.declared.flight.Sent.{Sent}
use Rattle.node_parts.specs.declared.running.Running.{Running}
use Rattle.world_moves.specs.Facts.{Facts, facts_of, awaited_by, requested_by, none_awaited}
use Rattle.command_roots.specs.Roots.{scripted}
use Rattle.world_steps.specs.Draining.{due_of}
use Rattle.world_steps.specs.Runs as runs
use Rattle.world_steps.specs.World.{due_by}
use Rattle.world_moves.specs.Ties.{Ties, RunsAt, progress_from}
use Rattle.world_moves.specs.Good.{own_writes, so_far}
use Rattle.node_parts.specs.Running.{DoesNext, can_act}
use Rattle.world_moves.proofs.AllKinds.{passed_laws}
use Rattle.world_moves.proofs.KindLaws.{KindLaws, follows, is_on}
use Rattle.world_moves.proofs.NoneAwaited.{ends_cancelled, waits_cancelled, tells_none}
use Rattle.world_moves.proofs.StepsAfter.{kept_running, is_kept}

acts : (cluster : Cluster) (t : TaskId) (h : List Event) (d : Do) → is_some (event_of cluster t h d) ≡ not (does_wait d)
acts cluster t h (AskNext request) = refl
acts cluster t h Turn = refl
acts cluster t h (Wait due) = refl
acts cluster t h (Finish reply) = refl

-- a moment is due only where there is a plan for it
due_plan : (plan : Request → Do) (o : Option Request) (d : Do) → option_map plan o ≡ Some d → option_and_then (λ r. due_in (plan r)) o ≡ due_in d
due_plan plan None d e = absurd (cc)
due_plan plan (Some r) d e = let same : plan r ≡ d = cc in ap due_in same

module _ (cluster : Cluster) (corpus : Corpus) (script : Script) (h : List Event) (tasks : TaskId → Option Running) (tables : List Table) (flight : List Sent) (ties : Ties cluster corpus script h tasks tables flight) where
  -- what the past says of a task, and how far it has come
  abbrev facts_at : TaskId → Facts
  facts_at t = facts_of (scripted script) t h

  abbrev pub progress_at : TaskId → Progress
  progress_at t = progress_from cluster (so_far corpus script) (facts_at t)

  -- the writes that the work of a task looks at
  abbrev pub writes_at : TaskId → List Doc
  writes_at t = own_writes cluster (so_far corpus script h) (request_of (scripted script) t h)

  pub laws_at : (t : TaskId) → is_live t h ≡ true → is_new t h ≡ false → (r : Running) → tasks t ≡ Some r → KindLaws cluster (so_far corpus script h) t (progress_at t) (requested_by t h) (awaited_by t h) (request_of (scripted script) t h) r.work
  laws_at t l n r e = passed_laws cluster (so_far corpus script) h t (facts_at t) r n (kept_running cluster corpus script h tasks tables flight ties t l r e)

  -- its plan goes by these
  pub same_plan : (t : TaskId) (o : Option Request) → request_of (scripted script) t h ≡ o
      → option_map (λ r. planned_step cluster corpus (scripted script) t r h) o ≡ option_map (λ r. (kind_of r).step cluster (so_far corpus script h) t (progress_at t) (clock h)) o
  same_plan t None e = refl
  same_plan t (Some r) e = rw e refl

  -- what its work says
  pub planned : (t : TaskId) → is_live t h ≡ true → is_new t h ≡ false → (r : Running) → tasks t ≡ Some r
      → option_map (λ r. planned_step cluster corpus (scripted script) t r h) (request_of (scripted script) t h) ≡ Some (next_of r.work (writes_at t) (clock h))
  planned t l n r e = same_plan t (request_of (scripted script) t h) refl ∙ follows (laws_at t l n r e) (clock h)

  pub next_new : (t : TaskId) → is_new t h ≡ true → runs.next_of cluster corpus script t h ≡ Some (first_step t (ban_over t h))
  next_new t n = rw n refl

  pub next_old : (t : TaskId) → is_live t h ≡ true → is_new t h ≡ false → mark_of t h ≡ None → (r : Running) → tasks t ≡ Some r → runs.next_of cluster corpus script t h ≡ event_of cluster t h (next_of r.work (writes_at t) (clock h))
  next_old t l n m r e = rw n (rw m (ap (λ o. option_and_then (event_of cluster t h) o) (planned t l n r e)))

  pub next_cancelled : (t : TaskId) (c : ℕ) → is_new t h ≡ false → mark_of t h ≡ Some c → runs.next_of cluster corpus script t h ≡ cancelled_step t c (counted cluster corpus (scripted script) t h) (unanswered t h)
  next_cancelled t c n m = rw n (rw m refl)

  -- a marked task waits where an ask of it is unanswered
  pub waits_marked : (t : TaskId) (c : ℕ) → is_new t h ≡ false → mark_of t h ≡ Some c → none_awaited (awaited_by t h) ≡ false → runs.next_of cluster corpus script t h ≡ None
  waits_marked t c n m none = next_cancelled t c n m ∙ waits_cancelled cluster t h ties.lawful c (counted cluster corpus (scripted script) t h) none

  -- and else it ends
  pub ends_marked : (t : TaskId) (c : ℕ) → is_new t h ≡ false → mark_of t h ≡ Some c → unanswered t h ≡ [] → runs.next_of cluster corpus script t h ≡ Some (End t (Cancelled t c (counted cluster corpus (scripted script) t h)))
  ends_marked t c n m none = next_cancelled t c n m ∙ ap (cancelled_step t c (counted cluster corpus (scripted script) t h)) none

  module _ (t : TaskId) (l : is_live t h ≡ true) (r : Running) (e : tasks t ≡ Some r) where
    kept : RunsAt cluster (so_far corpus script) h t (facts_at t) r
    kept = kept_running cluster corpus script h tasks tables flight ties t l r e

    -- what is kept of a task tells whether it acts
    acts_old : is_new t h ≡ false → (o : Option ℕ) → mark_of t h ≡ o → is_some (runs.next_of cluster corpus script t h) ≡ can_act r (writes_at t) (clock h)
    acts_old n None m = ap is_some (next_old t l n m r e) ∙ acts cluster t h (next_of r.work (writes_at t) (clock h)) ∙ sym (rw (kept.new ∙ n) (rw kept.track (rw m refl)))
    acts_old n (Some c) m =
        ap is_some (next_cancelled t c n m) ∙ ends_cancelled cluster t h ties.lawful c (counted cluster corpus (scripted script) t h) ∙ sym (tells_none (awaited_by t h)) ∙ sym (rw (kept.new ∙ n) (rw kept.track (rw m refl)))

    acts_so : (b : Bool) → is_new t h ≡ b → is_some (runs.next_of cluster corpus script t h) ≡ can_act r (writes_at t) (clock h)
    acts_so true n = ap is_some (next_new t n) ∙ sym (rw (kept.new ∙ n) refl)
    acts_so false n = acts_old n (mark_of t h) refl

    pub acts_kept : (is_live t h && is_some (runs.next_of cluster corpus script t h)) ≡ can_act r (writes_at t) (clock h)
    acts_kept = rw l (acts_so (is_new t h) refl)

    -- and for which moment it waits
    waits_old : is_new t h ≡ false → (o : Option ℕ) → mark_of t h ≡ o → due_of cluster corpus script t h ≡ due_by r (writes_at t) (clock h)
    waits_old n None m = rw (l, n, m) (due_plan (λ r. planned_step cluster corpus (scripted script) t r h) (request_of (scripted script) t h) (next_of r.work (writes_at t) (clock h)) (planned t l n r e) ∙ sym (rw (kept.new ∙ n) (rw kept.track (rw m refl))))
    waits_old n (Some c) m = rw (l, n, m) (sym (rw (kept.new ∙ n) (rw kept.track (rw m refl))))

    waits_so : (b : Bool) → is_new t h ≡ b → due_of cluster corpus script t h ≡ due_by r (writes_at t) (clock h)
    waits_so true n = rw (l, n) (sym (rw (kept.new ∙ n) refl))
    waits_so false n = waits_old n (mark_of t h) refl

    pub waits_kept : due_of cluster corpus script t h ≡ due_by r (writes_at t) (clock h)
    waits_kept = waits_so (is_new t h) refl

  pub works_on : (t : TaskId) → is_live t h ≡ true → is_new t h ≡ false → (r : Running) → tasks t ≡ Some r → IsWorkOn r.work (writes_at t)
  works_on t l n r e = is_on (laws_at t l n r e)

  -- what the kept work does next is what the task does next, where it is not marked
  pub does : (t : TaskId) (now : ℕ) → now ≡ clock h → is_live t h ≡ true → is_new t h ≡ false → mark_of t h ≡ None → (step : Do) → DoesNext (tasks t) now step → runs.next_of cluster corpus script t h ≡ event_of cluster t h step
  does t now moment l n m step d = by_kept (tasks t) refl
    where
      by_kept : (o : Option Running) → tasks t ≡ o → runs.next_of cluster corpus script t h ≡ event_of cluster t h step
      by_kept None e = absurd (is_kept cluster corpus script h tasks tables flight ties t l e)
      by_kept (Some r) e = next_old t l n m r e ∙ ap (event_of cluster t h) (ap (next_of r.work (writes_at t)) (sym moment) ∙ (rw e at d) (writes_at t) (works_on t l n r e))
