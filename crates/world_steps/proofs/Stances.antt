-- Which tasks act, and for which moments others wait, by what the past says of them and the moment.
use Rattle.std.proofs.Common.{◌≡◌, ◌<◌, ◌≤◌, ℕ, Bool, true, false, cond, ◌&&◌, ◌||◌, not, List, [], ◌∷◌, Option, Some, None, refl, sym, ap, ◌∙◌, arith}
use Rattle.std.specs.Prelude.{is_some, nat_le, option_and_then, option_map}
use Rattle.std.specs.Option.{option_map_or}
use Rattle.std.proofs.lemmas.Bool.Decides.{nat_tests}
use Rattle.task_ids.specs.declared.task_id.TaskId.{TaskId}
use Rattle.task_ids.specs.declared.cluster.Cluster.{Cluster}
use Rattle.task_ids.specs.declared.corpus.Corpus.{Corpus}
use Rattle.task_events.specs.declared.context.Context.{Context}
use Rattle.task_events.specs.declared.request.Request.{Request}
use Rattle.task_events.specs.declared.step.Asked.{Asked}
use Rattle.task_events.specs.declared.step.Do.{Do}
use Rattle.task_events.specs.declared.step.Do.TheVariants.{AskNext, Turn, Wait, Finish}
use Rattle.task_events.specs.declared.event.Event.{Event}
use Rattle.task_events.specs.declared.event.Event.TheVariants.{Root, Ask, Put, Pass, Refuse, Mark, Work, Answered, End}
use Rattle.task_events.specs.Bans.{mark_of}
use Rattle.task_events.specs.Clock.{clock}
use Rattle.task_events.specs.Contexts.{page_of}
use Rattle.task_events.specs.Kind.{Progress}
use Rattle.task_events.specs.Kinds.{kind_of}
use Rattle.task_events.specs.Lawful.{Lawful}
use Rattle.task_events.specs.Requests.{Scripted, request_of}
use Rattle.task_events.specs.Steps.{asked_by, came_by, turns_of, counted, event_of, planned_step, progress_of}
use Rattle.task_events.specs.Tasks.{is_live, is_new}
use Rattle.task_events.specs.Written.{corpus_at}
use Rattle.task_work.specs.Works.{does_wait, due_in}
use Rattle.script_lang.specs.declared.command.Script.{Script}
use Rattle.command_roots.specs.Roots.{scripted}
use Rattle.world_moves.specs.Facts.{is_about, awaited_by, none_awaited}
use Rattle.world_moves.proofs.NoneAwaited.{ends_cancelled}
use Rattle.world_steps.specs.Draining.{due_of}
use Rattle.world_steps.specs.Runs.{next_of}
use Rattle.world_steps.specs.World.{is_ready, has_come}
use Rattle.world_steps.proofs.Timely.{IsTimely, timely, waits_alike, waits_for}

-- what the past says of a task by which it waits
pub record Stance : Type 0 where
  pub live : Bool
  pub new : Bool
  pub mark : Option ℕ
  pub awaited : List (Option ℕ)
  pub request : Option Request
  pub page : Option Context
  pub asked : List Asked
  pub came : List ℕ
  pub turns : ℕ

abbrev pub stance_of : Scripted → TaskId → List Event → Stance
stance_of said t h = record {
  live = is_live t h;
  new = is_new t h;
  mark = mark_of t h;
  awaited = awaited_by t h;
  request = request_of said t h;
  page = page_of said t h;
  asked = asked_by t h;
  came = came_by t h;
  turns = turns_of t h;
}

-- an event changes it of no task but that which it is about, and a write of none
pub frame : (said : Scripted) (t : TaskId) (e : Event) (h : List Event) → is_about t e ≡ false → stance_of said t (e ∷ h) ≡ stance_of said t h
frame said t (Root c u) h e = rw e refl
frame said t (Ask p k n r) h e = rw e refl
frame said t (Put u p k) h e = rw e refl
frame said t (Pass u) h e = rw e refl
frame said t (Refuse u c) h e = rw e refl
frame said t (Mark u c) h e = rw e refl
frame said t (Work u) h e = rw e refl
frame said t (Answered p k) h e = rw e refl
frame said t (End u r) h e = rw e refl
frame said t _ h e = refl

-- ---- by a stance

module _ (cluster : Cluster) (t : TaskId) (now : ℕ) (s : Stance) where
  -- its progress, where nothing is written
  abbrev progress : Progress
  progress = record { page = s.page; asked = s.asked; came = s.came; turns = s.turns; version = None; created = 0; updated = 0 }

  abbrev plan : Request → Do
  plan r = (kind_of r).step cluster (record { lines = [] }) t progress now

  abbrev pub acts_by : Bool
  acts_by = s.live && (s.new || cond (is_some s.mark) (none_awaited s.awaited) (option_map_or (λ r. not (does_wait (plan r))) s.request false))

  abbrev pub waits_by : Option ℕ
  waits_by = cond (s.live && not s.new && not (is_some s.mark)) (option_and_then (λ r. due_in (plan r)) s.request) None

-- a plan that waits for a moment
due_is : (d : Do) (m : ℕ) → due_in d ≡ Some m → d ≡ Wait (Some m)
due_is (AskNext request) m e = absurd (cc)
due_is Turn m e = absurd (cc)
due_is (Wait None) m e = absurd (cc)
due_is (Wait (Some due)) m e = ap Wait e
due_is (Finish reply) m e = absurd (cc)

-- ---- the moment goes on

module _ (cluster : Cluster) (t : TaskId) (s : Stance) where
  by_time : (r : Request) → IsTimely (λ now. plan cluster t now s r)
  by_time r = timely cluster t r (record { lines = [] }) (progress cluster t 0 s)

  module _ (now later : ℕ) (low : now ≤ later) where
    due_then : (r : Request) (o : Option ℕ) → due_in (plan cluster t now s r) ≡ o → due_in (plan cluster t later s r) ≡ cond (has_come later o) None o
    due_then r None e = ap due_in ((by_time r).stays now later e low) ∙ e
    due_then r (Some m) e = by_test (nat_le m later) refl
      where
        waits : plan cluster t now s r ≡ Wait (Some m)
        waits = due_is (plan cluster t now s r) m e

        by_test : (b : Bool) → nat_le m later ≡ b → due_in (plan cluster t later s r) ≡ cond b None (Some m)
        by_test true come = (by_time r).over now m later waits (grind (arith, nat_tests))
        by_test false come = ap due_in ((by_time r).rests now m later waits low (grind (arith, nat_tests)))

    wait_then : (r : Request) (o : Option ℕ) → due_in (plan cluster t now s r) ≡ o → has_come later o ≡ false → does_wait (plan cluster t later s r) ≡ does_wait (plan cluster t now s r)
    wait_then r None e none = ap does_wait ((by_time r).stays now later e low)
    wait_then r (Some m) e none =
        let waits = due_is (plan cluster t now s r) m e in
        let before : later < m = grind (arith, nat_tests) in
        ap does_wait ((by_time r).rests now m later waits low before) ∙ sym (ap does_wait waits)

    -- a moment that has come is waited for no more, and any other as before
    pub waits_then : waits_by cluster t later s ≡ cond (has_come later (waits_by cluster t now s)) None (waits_by cluster t now s)
    waits_then = by_guard (s.live && not s.new && not (is_some s.mark)) s.request
      where
        by_guard : (g : Bool) (o : Option Request) → cond g (option_and_then (λ r. due_in (plan cluster t later s r)) o) None
            ≡ cond (has_come later (cond g (option_and_then (λ r. due_in (plan cluster t now s r)) o) None)) None (cond g (option_and_then (λ r. due_in (plan cluster t now s r)) o) None)
        by_guard false o = refl
        by_guard true None = refl
        by_guard true (Some r) = due_then r _ refl

    -- and who waits for none that has come acts where it did
    pub acts_then : has_come later (waits_by cluster t now s) ≡ false → acts_by cluster t later s ≡ acts_by cluster t now s
    acts_then none = by_parts s.live s.new (is_some s.mark) (none_awaited s.awaited) s.request none
      where
        by_parts : (live new marked rests : Bool) (o : Option Request) → has_come later (cond (live && not new && not marked) (option_and_then (λ r. due_in (plan cluster t now s r)) o) None) ≡ false
            → (live && (new || cond marked rests (option_map_or (λ r. not (does_wait (plan cluster t later s r))) o false)))
            ≡ (live && (new || cond marked rests (option_map_or (λ r. not (does_wait (plan cluster t now s r))) o false)))
        by_parts false new marked rests o e = refl
        by_parts true true marked rests o e = refl
        by_parts true false true rests o e = refl
        by_parts true false false rests None e = refl
        by_parts true false false rests (Some r) e = ap not (wait_then r _ refl e)

  -- a moment for which a task waits is to come
  pub to_come : (now : ℕ) → has_come now (waits_by cluster t now s) ≡ false
  to_come now = by_guard (s.live && not s.new && not (is_some s.mark)) s.request
    where
      one : (r : Request) (o : Option ℕ) → due_in (plan cluster t now s r) ≡ o → has_come now o ≡ false
      one r None e = refl
      one r (Some m) e = let ahead = (by_time r).ahead now m (due_is (plan cluster t now s r) m e) in grind (arith, nat_tests)

      by_guard : (g : Bool) (o : Option Request) → has_come now (cond g (option_and_then (λ r. due_in (plan cluster t now s r)) o) None) ≡ false
      by_guard false o = refl
      by_guard true None = refl
      by_guard true (Some r) = one r _ refl

-- ---- by the past

does_told : (d : Do) → does_wait d ≡ is_some (waits_for d)
does_told (AskNext request) = refl
does_told Turn = refl
does_told (Wait due) = refl
does_told (Finish reply) = refl

due_told : (d : Do) → due_in d ≡ option_and_then (λ o. o) (waits_for d)
due_told (AskNext request) = refl
due_told Turn = refl
due_told (Wait due) = refl
due_told (Finish reply) = refl

module _ (cluster : Cluster) (corpus : Corpus) (script : Script) where
  -- what the past says of a task
  abbrev stands : TaskId → List Event → Stance
  stands t h = stance_of (scripted script) t h

  alike : (t : TaskId) (h : List Event) (r : Request) → waits_for (planned_step cluster corpus (scripted script) t r h) ≡ waits_for (plan cluster t (clock h) (stands t h) r)
  alike t h r = waits_alike cluster t r (corpus_at corpus (scripted script) h) (record { lines = [] }) (progress_of cluster corpus (scripted script) t r h) (progress cluster t 0 (stands t h)) (clock h) refl refl refl refl

  one_event : (t : TaskId) (h : List Event) (d : Do) → is_some (event_of cluster t h d) ≡ not (does_wait d)
  one_event t h (AskNext request) = refl
  one_event t h Turn = refl
  one_event t h (Wait due) = refl
  one_event t h (Finish reply) = refl

  by_request : (t : TaskId) (h : List Event) (o : Option Request)
      → is_some (option_and_then (event_of cluster t h) (option_map (λ r. planned_step cluster corpus (scripted script) t r h) o)) ≡ option_map_or (λ r. not (does_wait (plan cluster t (clock h) (stands t h) r))) o false
  by_request t h None = refl
  by_request t h (Some r) =
      one_event t h (planned_step cluster corpus (scripted script) t r h)
      ∙ ap not (does_told (planned_step cluster corpus (scripted script) t r h) ∙ ap is_some (alike t h r) ∙ sym (does_told (plan cluster t (clock h) (stands t h) r)))

  -- a task's work goes on
  abbrev works : TaskId → List Event → Bool
  works t h = option_map_or (λ r. not (does_wait (plan cluster t (clock h) (stands t h) r))) (request_of (scripted script) t h) false

  by_mark : (t : TaskId) (h : List Event) → Lawful cluster h → is_new t h ≡ false → (o : Option ℕ) → mark_of t h ≡ o
      → is_some (next_of cluster corpus script t h) ≡ cond (is_some (mark_of t h)) (none_awaited (awaited_by t h)) (works t h)
  by_mark t h l n None m = rw n (rw m (by_request t h (request_of (scripted script) t h)))
  by_mark t h l n (Some c) m = rw n (rw m (ends_cancelled cluster t h l c (counted cluster corpus (scripted script) t h)))

  by_new : (t : TaskId) (h : List Event) → Lawful cluster h → (b : Bool) → is_new t h ≡ b
      → is_some (next_of cluster corpus script t h) ≡ (is_new t h || cond (is_some (mark_of t h)) (none_awaited (awaited_by t h)) (works t h))
  by_new t h l true n = rw n refl
  by_new t h l false n = by_mark t h l n (mark_of t h) refl ∙ sym (ap (λ b. b || cond (is_some (mark_of t h)) (none_awaited (awaited_by t h)) (works t h)) n)

  pub acts_by_stance : (t : TaskId) (h : List Event) → Lawful cluster h → is_ready cluster corpus script h t ≡ acts_by cluster t (clock h) (stands t h)
  acts_by_stance t h l = ap (λ b. is_live t h && b) (by_new t h l (is_new t h) refl)

  pub waits_by_stance : (t : TaskId) (h : List Event) → due_of cluster corpus script t h ≡ waits_by cluster t (clock h) (stands t h)
  waits_by_stance t h = ap (λ o. cond (is_live t h && not (is_new t h) && not (is_some (mark_of t h))) o None) (due_alike (request_of (scripted script) t h))
    where
      due_alike : (o : Option Request) → option_and_then (λ r. due_in (planned_step cluster corpus (scripted script) t r h)) o ≡ option_and_then (λ r. due_in (plan cluster t (clock h) (stands t h) r)) o
      due_alike None = refl
      due_alike (Some r) = due_told (planned_step cluster corpus (scripted script) t r h) ∙ ap (option_and_then (λ o. o)) (alike t h r) ∙ sym (due_told (plan cluster t (clock h) (stands t h) r))
