-- The tables fit the past after a step of a task, where they are changed as it says.
use Rattle.std.proofs.Common.{◌≡◌, true, false, List, ◌∷◌, Option, Some, None, refl, sym, subst}
use Rattle.std.specs.Prelude.{is_some, unwrap_or}
use Rattle.task_ids.specs.declared.task_id.TaskId.{TaskId}
use Rattle.task_ids.specs.declared.cluster.Cluster.{Cluster}
use Rattle.task_ids.specs.declared.corpus.Corpus.{Corpus}
use Rattle.task_table.specs.Table.{Table}
use Rattle.task_events.specs.declared.event.Event.{Event}
use Rattle.task_events.specs.declared.event.Event.TheVariants.{Pass}
use Rattle.task_events.specs.Same.{same_task}
use Rattle.task_events.specs.Bans.{ban_over}
use Rattle.task_events.specs.Contexts.{asked_page, context_at}
use Rattle.task_events.specs.Lawful.{AwaitsNoMark}
use Rattle.task_events.specs.Requests.{request_of}
use Rattle.task_events.specs.Tasks.{is_live, is_new}
use Rattle.script_lang.specs.declared.command.Script.{Script}
use Rattle.world_moves.specs.declared.flight.Sent.{Sent}
use Rattle.task_work.specs.declared.work.Work.{Work}
use Rattle.node_parts.specs.declared.running.Running.{Running}
use Rattle.world_moves.specs.Facts.{Facts, facts_of, awaited_by, requested_by}
use Rattle.command_roots.specs.Roots.{scripted}
use Rattle.world_moves.specs.Paging.{passed}
use Rattle.world_moves.specs.Ties.{Ties, RunsAt, WorksFor, progress_from}
use Rattle.world_moves.proofs.FactsAfter.{at_pass}
use Rattle.world_moves.proofs.FlightAfter.{all_stay}
use Rattle.world_moves.proofs.KeptTasks.{kept_after}
use Rattle.world_moves.proofs.NodeTablesSame.{listed_same}
use Rattle.world_moves.specs.Good.{so_far}

-- the facts of a child that passes now
abbrev pub passing : Script → TaskId → List Event → Facts
passing script t h = record (facts_of (scripted script) t h) { new = false; page = asked_page (λ id. context_at (scripted script) id h) (request_of (scripted script) t h) }

-- and what its work has to be
abbrev pub WorksOn : Cluster → Corpus → Script → TaskId → List Event → Work → Type 0
WorksOn cluster corpus script t h work = WorksFor cluster (so_far corpus script h) t false (progress_from cluster (so_far corpus script) (passing script t h)) (requested_by t h) (awaited_by t h) (request_of (scripted script) t h) work

module _ (cluster : Cluster) (corpus : Corpus) (script : Script) (h : List Event) (tasks : TaskId → Option Running) (tables : List Table) (flight : List Sent) (ties : Ties cluster corpus script h tasks tables flight) where
  -- what is kept of a live task
  pub kept_running : (t : TaskId) → is_live t h ≡ true → (r : Running) → tasks t ≡ Some r → RunsAt cluster (so_far corpus script) h t (facts_of (scripted script) t h) r
  kept_running t l r e = rw e at (ties.kept t)

  -- a live task is kept
  pub is_kept : (t : TaskId) → is_live t h ≡ true → tasks t ≡ None → ⊥
  is_kept t l e = let gone = rw e at (ties.kept t) in cc

  pub kept_some : (t : TaskId) → is_live t h ≡ true → (r : Running) × (tasks t ≡ Some r)
  kept_some t l = of_kept (tasks t) refl
    where
      of_kept : (o : Option Running) → tasks t ≡ o → (r : Running) × (tasks t ≡ Some r)
      of_kept None e = absurd (is_kept t l e)
      of_kept (Some r) e = (r, e)

  pub after_pass : (t : TaskId) (r : Running) (work : Option Work) (after : TaskId → Option Running) → AwaitsNoMark h → is_live t h ≡ true → is_new t h ≡ true → ban_over t h ≡ None → tasks t ≡ Some r
      → WorksOn cluster corpus script t h (unwrap_or work r.work)
      → after t ≡ Some (passed work r) → ((q : TaskId) → same_task t q ≡ false → after q ≡ tasks q)
      → Ties cluster corpus script (Pass t ∷ h) after tables flight
  after_pass t r work after awaits l n no_ban e works here others = record {
    lawful = (record { live = l; first = n; no_ban = no_ban }, ties.lawful, awaits);
    kept = kept_after cluster corpus (scripted script) t (Pass t) h tasks after refl refl ties.kept (rw here (subst (λ facts. RunsAt cluster (so_far corpus script) h t facts (passed work r)) (sym (at_pass (scripted script) t h)) (passes (kept_running t l r e)))) others;
    listed = λ place. listed_same cluster (Pass t) h (λ n. refl) refl place _ (ties.listed place);
    sent = all_stay (Pass t) h flight _ ties.sent;
    good = ties.good;
    within = ties.within;
    plain = ties.plain;
  }
    where
      passes : RunsAt cluster (so_far corpus script) h t (facts_of (scripted script) t h) r → RunsAt cluster (so_far corpus script) h t (passing script t h) (passed work r)
      passes x = record { live = x.live; id = x.id; token = x.token; track = x.track; page = x.page; new = refl; headers = x.headers; works = works }

  -- what is kept of a task is live, and what is not kept is not
  pub runs_of : (t : TaskId) (r : Running) → tasks t ≡ Some r → RunsAt cluster (so_far corpus script) h t (facts_of (scripted script) t h) r
  runs_of t r e = rw e at (ties.kept t)

  pub gone_of : (t : TaskId) → tasks t ≡ None → is_live t h ≡ false
  gone_of t e = rw e at (ties.kept t)

  pub kept_where_live : (t : TaskId) → is_some (tasks t) ≡ is_live t h
  kept_where_live t = by_kept (tasks t) refl
    where
      by_kept : (o : Option Running) → tasks t ≡ o → is_some (tasks t) ≡ is_live t h
      by_kept None e = rw (e, gone_of t e) refl
      by_kept (Some r) e = rw (e, (runs_of t r e).live) refl
