-- No task waits longer than a tick can take.
use Rattle.std.proofs.Common.{◌≡◌, ◌≤◌, ℕ, zero, suc, ◌+◌, ◌-◌, Bool, true, false, cond, ◌&&◌, not, List, [], ◌∷◌, ◌++◌, Option, Some, None, refl, sym, ap, subst, ◌∙◌, arith, ◌≢◌, get_or, length}
use Rattle.std.specs.Prelude.{◌==◌, is_some, option_and_then, option_map, slice_set}
use Rattle.std.specs.List.{AllByRecursion}
use Rattle.std.proofs.lemmas.Bool.Decides.{nat_tests}
use Rattle.task_ids.specs.declared.task_id.TaskId.{TaskId}
use Rattle.task_ids.specs.declared.cluster.Cluster.{Cluster}
use Rattle.task_ids.specs.declared.corpus.Corpus.{Corpus}
use Rattle.task_table.specs.Table.{Table}
use Rattle.task_events.specs.declared.request.Request.{Request}
use Rattle.task_events.specs.declared.request.Request.TheVariants as asks
use Rattle.task_events.specs.declared.step.Do.{Do}
use Rattle.task_events.specs.declared.request.ReindexAsk.{ReindexAsk}
use Rattle.task_events.specs.declared.event.Event.{Event}
use Rattle.task_events.specs.declared.event.Event.TheVariants.{Ask, Answered, Tick}
use Rattle.task_events.specs.Clock.{clock}
use Rattle.task_events.specs.Kind.{Progress}
use Rattle.task_events.specs.Kinds.{kind_of}
use Rattle.task_events.specs.Bans.{mark_of}
use Rattle.task_events.specs.Readings.{search_reading}
use Rattle.task_events.specs.ReindexTask.{reindex_step, cut_step}
use Rattle.task_events.specs.Requests.{request_of}
use Rattle.task_events.specs.Same.{same_task}
use Rattle.task_events.specs.SliceTask.{slice_step}
use Rattle.task_events.specs.Steps.{came_by, planned_step}
use Rattle.task_events.specs.Tasks.{is_live, is_new}
use Rattle.reindex.specs.declared.root.ReindexRoot.TheVariants.{Alone, Cut}
use Rattle.reindex.specs.Slices.{Slicing}
use Rattle.reindex.proofs.RootRuns.{alone_steps, cut_steps}
use Rattle.reindex.proofs.SliceRuns.{slice_follows}
use Rattle.task_work.specs.declared.work.Work.{Work}
use Rattle.task_work.specs.declared.work.Work.TheVariants as works
use Rattle.task_work.specs.Works.{due_in}
use Rattle.script_lang.specs.declared.command.Script.{Script}
use Rattle.command_roots.specs.Roots.{scripted}
use Rattle.node_parts.specs.declared.running.Running.{Running}
use Rattle.world_moves.specs.declared.flight.Sent.{Sent}
use Rattle.world_moves.specs.Describing.{longest_tick}
use Rattle.world_moves.specs.Facts.{awaited_by, requested_by}
use Rattle.world_moves.specs.Good.{so_far}
use Rattle.world_moves.specs.ReindexRuns.{SlicesFor}
use Rattle.world_moves.specs.Ties.{Ties, WorksFor}
use Rattle.world_moves.proofs.SliceLaws.{due_so}
use Rattle.world_moves.proofs.StepsAfter.{is_kept, kept_running}
use Rattle.world_steps.specs.Draining.{due_of}
use Rattle.world_steps.proofs.Plans.{progress_at, same_plan}
use Rattle.world_steps.proofs.Timely.{ask_or_end_waits, search_waits, page_waits, work_waits}

-- ---- a slice

all_low : (now : ℕ) (came : List ℕ) → AllByRecursion (λ moment. moment ≤ now) came → (i : ℕ) → get_or came i 0 ≤ now
all_low now [] all i = omega arith
all_low now (m ∷ came) all zero = all.0
all_low now (m ∷ came) all (suc i) = all_low now came all.1 i

module _ (cluster : Cluster) (corpus : Corpus) (t : TaskId) (ask : ReindexAsk) where
  due_slice : (slice : ℕ) (p : Progress) (requests : List Request) (awaited : List (Option ℕ)) (now due : ℕ) → AllByRecursion (λ moment. moment ≤ now) p.came → (s : Slicing) → SlicesFor cluster.shards t ask slice p.asked p.came requests awaited s
      → due_in (slice_step t ask slice cluster.shards p.asked p.came now) ≡ Some due → due ≤ now + longest_tick
  unfolding longest_tick
  due_slice slice p requests awaited now due low s x e =
      let soon = due_so cluster corpus t ask slice p.asked p.came requests awaited s x now due (ap due_in (sym (slice_follows x.here now)) ∙ e) in
      let last = all_low now p.came low (length p.came - 1) in
      omega (arith, soon, last)

-- ---- every kind

module _ (cluster : Cluster) (corpus : Corpus) (t : TaskId) (p : Progress) (requests : List Request) (awaited : List (Option ℕ)) (now due : ℕ) (low : AllByRecursion (λ moment. moment ≤ now) p.came) where
  -- a plan that waits for no moment
  never : (o : Option ℕ) → o ≡ Some due → o ≡ None → due ≤ now + longest_tick
  never o waits none = absurd (let f : None ≡ Some due = sym none ∙ waits in cc)

  -- a moment for which a plan waits follows soon upon the last answer
  pub soon : (r : Request) (w : Work) → WorksFor cluster corpus t false p requests awaited (Some r) w → due_in ((kind_of r).step cluster corpus t p now) ≡ Some due → due ≤ now + longest_tick
  soon (asks.Search ask) w x e = never _ e (search_waits (search_reading t ask cluster.shards) p.asked)
  soon (asks.Scroll ask) w x e = never _ e (page_waits p.page p.asked)
  soon (asks.Query ask) w x e = never _ e (work_waits _ _)
  soon (asks.Fetch ask) w x e = never _ e (work_waits _ _)
  soon (asks.Slice ask) (works.Slice s) x e = due_slice cluster corpus t ask.reindex ask.slice p requests awaited now due low s x e
  soon (asks.Slice ask) _ x e = absurd x
  soon (asks.Reindex ask) (works.Reindex (Alone s)) x e = due_slice cluster corpus t ask 0 p requests awaited now due low s x.1 (sym (ap due_in (alone_steps ask t cluster.shards p.asked p.came now x.0)) ∙ e)
  soon (asks.Reindex ask) (works.Reindex (Cut c)) x e = never _ (sym (ap due_in (cut_steps ask t cluster.shards p.asked p.came now x.0)) ∙ e) (ask_or_end_waits _ _ _)
  soon (asks.Reindex ask) _ x e = absurd x
  soon (asks.Bulk ask) w x e = never _ e (ask_or_end_waits _ _ _)
  soon (asks.BulkShard ask) w x e = never _ e (work_waits _ _)

-- ---- no answer came after now

up_to : (m n : ℕ) (moments : List ℕ) → m ≤ n → AllByRecursion (λ moment. moment ≤ m) moments → AllByRecursion (λ moment. moment ≤ n) moments
up_to m n [] low all = tt
up_to m n (x ∷ moments) low all = (omega (arith, low, all.0), up_to m n moments low all.1)

one_more : (n : ℕ) (moments : List ℕ) → AllByRecursion (λ moment. moment ≤ n) moments → AllByRecursion (λ moment. moment ≤ n) (moments ++ 0 ∷ [])
one_more n [] all = (omega arith, tt)
one_more n (x ∷ moments) all = (all.0, one_more n moments all.1)

one_set : (n i : ℕ) (moments : List ℕ) → AllByRecursion (λ moment. moment ≤ n) moments → AllByRecursion (λ moment. moment ≤ n) (slice_set moments i n)
one_set n i [] all = tt
one_set n zero (x ∷ moments) all = (omega arith, all.1)
one_set n (suc i) (x ∷ moments) all = (all.0, one_set n i moments all.1)

either : (b : Bool) (xs ys : List ℕ) (n : ℕ) → AllByRecursion (λ moment. moment ≤ n) xs → AllByRecursion (λ moment. moment ≤ n) ys → AllByRecursion (λ moment. moment ≤ n) (cond b xs ys)
either true xs ys n all other = all
either false xs ys n all other = other

pub came_low : (t : TaskId) (h : List Event) → AllByRecursion (λ moment. moment ≤ clock h) (came_by t h)
came_low t [] = tt
came_low t (Ask p k n r ∷ h) = either (same_task t p) _ _ (clock h) (one_more (clock h) (came_by t h) (came_low t h)) (came_low t h)
came_low t (Answered p k ∷ h) = either (same_task t p) _ _ (clock h) (one_set (clock h) (k - 1) (came_by t h) (came_low t h)) (came_low t h)
came_low t (Tick ms ∷ h) = up_to (clock h) (clock h + ms) (came_by t h) (omega arith) (came_low t h)
came_low t (_ ∷ h) = came_low t h

-- ---- in the world

-- who waits for a moment is live, has passed and is not marked
guarded : (live new marked : Bool) (o : Option ℕ) (due : ℕ) → cond (live && not new && not marked) o None ≡ Some due → (live ≡ true) × (new ≡ false) × (o ≡ Some due)
guarded false new marked o due e = absurd (cc)
guarded true true marked o due e = absurd (cc)
guarded true false true o due e = absurd (cc)
guarded true false false o due e = (refl, refl, e)

due_mapped : (plan other : Request → Do) (o : Option Request) → option_map plan o ≡ option_map other o → option_and_then (λ r. due_in (plan r)) o ≡ option_and_then (λ r. due_in (other r)) o
due_mapped plan other None e = refl
due_mapped plan other (Some r) e = let same : plan r ≡ other r = cc in ap due_in same

module _ (cluster : Cluster) (corpus : Corpus) (script : Script) (h : List Event) (tasks : TaskId → Option Running) (tables : List Table) (flight : List Sent) (ties : Ties cluster corpus script h tasks tables flight) where
  pub due_soon : (t : TaskId) (due : ℕ) → due_of cluster corpus script t h ≡ Some due → due ≤ clock h + longest_tick
  due_soon t due e =
      let parts = guarded (is_live t h) (is_new t h) (is_some (mark_of t h)) (option_and_then (λ r. due_in (planned_step cluster corpus (scripted script) t r h)) (request_of (scripted script) t h)) due e in
      by_kept parts.0 parts.1 (sym (due_mapped _ _ (request_of (scripted script) t h) (same_plan cluster corpus script h tasks tables flight ties t (request_of (scripted script) t h) refl)) ∙ parts.2) (tasks t) refl
    where
      by_request : (o : Option Request) (w : Work) → WorksFor cluster (so_far corpus script h) t false (progress_at cluster corpus script h tasks tables flight ties t) (requested_by t h) (awaited_by t h) o w
          → option_and_then (λ r. due_in ((kind_of r).step cluster (so_far corpus script h) t (progress_at cluster corpus script h tasks tables flight ties t) (clock h))) o ≡ Some due → due ≤ clock h + longest_tick
      by_request None w x e = absurd (cc)
      by_request (Some r) w x e = soon cluster (so_far corpus script h) t (progress_at cluster corpus script h tasks tables flight ties t) (requested_by t h) (awaited_by t h) (clock h) due (came_low t h) r w x e

      by_kept : is_live t h ≡ true → is_new t h ≡ false
          → option_and_then (λ r. due_in ((kind_of r).step cluster (so_far corpus script h) t (progress_at cluster corpus script h tasks tables flight ties t) (clock h))) (request_of (scripted script) t h) ≡ Some due
          → (o : Option Running) → tasks t ≡ o → due ≤ clock h + longest_tick
      by_kept l n e None none = absurd (is_kept cluster corpus script h tasks tables flight ties t l none)
      by_kept l n e (Some r) there =
          by_request (request_of (scripted script) t h) r.work (subst (λ new. WorksFor cluster (so_far corpus script h) t new (progress_at cluster corpus script h tasks tables flight ties t) (requested_by t h) (awaited_by t h) (request_of (scripted script) t h) r.work) n (kept_running cluster corpus script h tasks tables flight ties t l r there).works) e
