-- The tables of contexts fit the past after a kept task has left.
use Rattle.std.proofs.Common.{◌≡◌, ◌≤◌, ℕ, Bool, true, false, cond, List, ◌∷◌, length, Option, Some, None, refl, sym, ap, subst, ◌∙◌, arith}
use Rattle.std.specs.Prelude.{IsSome, IsSomeAnd, option_map}
use Rattle.std.specs.FinMap.{FinMap}
use Rattle.task_ids.specs.TaskIdOrder.{task_id_cmp}
use Rattle.task_ids.specs.declared.cluster.Cluster.{Cluster}
use Rattle.task_ids.specs.declared.corpus.Corpus.{Corpus}
use Rattle.task_ids.specs.declared.doc.Doc.{Doc}
use Rattle.task_ids.specs.declared.task_id.TaskId.{TaskId}
use Rattle.script_lang.specs.declared.command.Script.{Script}
use Rattle.task_table.specs.Table.{Table}
use Rattle.task_events.specs.declared.context.Context.{Context}
use Rattle.task_events.specs.declared.event.Event.{Event}
use Rattle.task_events.specs.declared.event.Event.TheVariants.{Refuse, End}
use Rattle.task_events.specs.declared.reply.Counts.{Counts}
use Rattle.task_events.specs.declared.reply.Reply.{Reply}
use Rattle.task_events.specs.declared.reply.Reply.TheVariants.{Cancelled}
use Rattle.task_events.specs.declared.request.Request.{Request}
use Rattle.task_events.specs.declared.step.Do.TheVariants.{Finish}
use Rattle.task_events.specs.Allowed.{Allowed, EndAllowed, RefuseAllowed}
use Rattle.task_events.specs.Clock.{clock}
use Rattle.task_events.specs.Contexts.{cursor_in, after_end, without_owned, context_at}
use Rattle.task_events.specs.Kind.{Progress}
use Rattle.task_events.specs.Requests.{request_of}
use Rattle.task_events.specs.Tasks.{is_live, is_new}
use Rattle.task_laws.proofs.Asks.{ask_facts}
use Rattle.task_laws.proofs.Reach.{reach_facts}
use Rattle.task_work.specs.Works.{next_of}
use Rattle.node_parts.specs.declared.running.Running.{Running}
use Rattle.node_parts.specs.Opening.{FitsContext, opened_by, used_by}
use Rattle.command_roots.specs.Roots.{scripted}
use Rattle.world_moves.specs.declared.flight.Sent.{Sent}
use Rattle.world_moves.specs.Facts.{awaited_by, facts_of, requested_by}
use Rattle.world_moves.specs.Good.{so_far}
use Rattle.world_moves.specs.Moves.{MayLeave}
use Rattle.world_moves.specs.Paging.{Paging, context_in, after_opening, after_return}
use Rattle.world_moves.specs.Ties.{Ties, RunsAt, WorksFor, progress_from}
use Rattle.world_moves.proofs.ContextsPast.{stands_ended}
use Rattle.world_moves.proofs.PagesAfter.{refused_pages}
use Rattle.world_moves.proofs.PagesEnd.{uses, ended_alike, opens_uses_none, cancelled_alike, page_asked, fits_so, reads_so}
use Rattle.world_moves.proofs.PagesMoved.{ended_pages}
use Rattle.world_moves.proofs.StepsAfter.{kept_running}

module _ (cluster : Cluster) (corpus : Corpus) (script : Script) (h : List Event) (tasks : TaskId → Option Running) (tables : List Table) (flight : List Sent) (ties : Ties cluster corpus script h tasks tables flight)
    (contexts : List (FinMap task_id_cmp Context)) (p : Paging cluster corpus script h contexts) (t : TaskId) (live : is_live t h ≡ true) (r : Running) (here : tasks t ≡ Some r) where
  abbrev asked : Option Request
  asked = request_of (scripted script) t h

  abbrev progress : Progress
  progress = progress_from cluster (so_far corpus script) (facts_of (scripted script) t h)

  runs : RunsAt cluster (so_far corpus script) h t (facts_of (scripted script) t h) r
  runs = kept_running cluster corpus script h tasks tables flight ties t live r here

  pub there : t.node ≤ length contexts
  there = let high = (reach_facts cluster h ties.lawful).live_in t live in omega (arith, p.as_many, high)

  -- no context has the id of a live task
  pub none_yet : context_in contexts t ≡ None
  none_yet = p.stand t ∙ of_context (context_at (scripted script) t h) refl
    where
      of_context : (o : Option Context) → context_at (scripted script) t h ≡ o → o ≡ None
      of_context None e = refl
      of_context (Some c) e = absurd (let f : true ≡ false = sym (stands_ended (scripted script) t h c e) ∙ (ask_facts cluster h ties.lawful).live_or_ended t live in cc)

  uses_by : (b : Bool) → r.is_new ≡ b → used_by r ≡ cond b None (uses cluster (so_far corpus script h) t progress (requested_by t h) (awaited_by t h) asked)
  uses_by true e = rw e refl
  uses_by false e = rw e (ap (option_map (λ page. page.id)) runs.page)

  -- the context that it uses is there, and in use
  pub in_use : (id : TaskId) → used_by r ≡ Some id → IsSomeAnd (context_in contexts id) (λ c. IsSome c.busy)
  in_use id e = of_new (is_new t h) refl
    where
      of_new : (b : Bool) → is_new t h ≡ b → IsSomeAnd (context_in contexts id) (λ c. IsSome c.busy)
      of_new true new = absurd (let f : None ≡ Some id = sym (uses_by true (runs.new ∙ new)) ∙ e in cc)
      of_new false new =
          let page = page_asked cluster (so_far corpus script h) t progress (requested_by t h) (awaited_by t h) asked id (sym (uses_by false (runs.new ∙ new)) ∙ e) in
          let used = p.used t page.0 live new page.1 in
          let found : context_in contexts id ≡ Some used.0 = p.stand id ∙ ap (λ x. context_at (scripted script) x h) (sym page.2) ∙ used.1 in
          let busy : IsSome used.0.busy = subst (λ o. IsSome o) (sym used.2) refl in
          subst (λ o. IsSomeAnd o (λ c. IsSome c.busy)) (sym found) busy

  module _ (passed : is_new t h ≡ false) where
    works : WorksFor cluster (so_far corpus script h) t false progress (requested_by t h) (awaited_by t h) asked r.work
    works = subst (λ new. WorksFor cluster (so_far corpus script h) t new progress (requested_by t h) (awaited_by t h) asked r.work) passed runs.works

    uses_is : used_by r ≡ uses cluster (so_far corpus script h) t progress (requested_by t h) (awaited_by t h) asked
    uses_is = uses_by false (runs.new ∙ passed)

    -- who opens a context uses none
    pub opens_alone : (now : ℕ) (reply : Reply) → IsSome (opened_by r.work t reply now) → used_by r ≡ None
    opens_alone now reply opens = uses_is ∙ opens_uses_none cluster (so_far corpus script h) t progress (requested_by t h) (awaited_by t h) now reply asked r.work works opens

    -- ---- its work is done

    module _ (now : ℕ) (reply : Reply) (looked : List Doc) (next : next_of r.work looked now ≡ Finish reply) where
      pub fits : FitsContext r.work reply
      fits = fits_so cluster (so_far corpus script h) t progress (requested_by t h) (awaited_by t h) asked r.work works reply looked now next

      pub finished_pages : now ≡ clock h → Allowed cluster (End t reply) h → (after : List (FinMap task_id_cmp Context)) → length after ≡ length contexts
          → ((q : TaskId) → context_in after q ≡ without_owned t (after_opening (opened_by r.work t reply now) t q (after_return now (used_by r) (cursor_in reply) q (context_in contexts q)))) → Paging cluster corpus script (End t reply ∷ h) after
      finished_pages moment a after many changed =
          ended_pages cluster corpus script h contexts p ties.lawful t reply a after (reads_so cluster (so_far corpus script h) t progress (requested_by t h) (awaited_by t h) asked r.work works reply looked now next) many
          (λ q. changed q
          ∙ ap (λ id. without_owned t (after_opening (opened_by r.work t reply now) t q (after_return now id (cursor_in reply) q (context_in contexts q)))) uses_is
          ∙ ap (without_owned t) (ended_alike cluster (so_far corpus script h) t progress (requested_by t h) (awaited_by t h) now reply asked r.work works q (context_in contexts q))
          ∙ ap (λ m. without_owned t (after_end m t asked reply q (context_in contexts q))) moment)

    -- ---- a cancellation has stopped it

    cancelled_pages : (now : ℕ) → now ≡ clock h → (c : ℕ) (counts : Counts) → Allowed cluster (End t (Cancelled t c counts)) h → (after : List (FinMap task_id_cmp Context)) → length after ≡ length contexts
        → ((q : TaskId) → context_in after q ≡ without_owned t (after_return now (used_by r) None q (context_in contexts q))) → Paging cluster corpus script (End t (Cancelled t c counts) ∷ h) after
    cancelled_pages now moment c counts a after many changed =
        ended_pages cluster corpus script h contexts p ties.lawful t (Cancelled t c counts) a after (λ ask found its good. absurd (cc)) many
        (λ q. changed q
        ∙ ap (λ id. without_owned t (after_return now id None q (context_in contexts q))) uses_is
        ∙ ap (without_owned t) (cancelled_alike cluster (so_far corpus script h) t progress (requested_by t h) (awaited_by t h) now c counts asked q (context_in contexts q))
        ∙ ap (λ m. without_owned t (after_end m t asked (Cancelled t c counts) q (context_in contexts q))) moment)

  pub left_pages : (now : ℕ) → now ≡ clock h → (counts : Counts) (e : Event) → MayLeave counts t e h → (after : List (FinMap task_id_cmp Context)) → length after ≡ length contexts
      → (r.is_new ≡ false → (q : TaskId) → context_in after q ≡ without_owned t (after_return now (used_by r) None q (context_in contexts q))) → (r.is_new ≡ true → after ≡ contexts)
      → Paging cluster corpus script (e ∷ h) after
  left_pages now moment counts (Refuse u c) m after many left refused =
      let same : after ≡ contexts = refused (runs.new ∙ m.1.first) in
      let a : Allowed cluster (Refuse u c) h = subst (λ v. RefuseAllowed v c h) (sym m.0) m.1 in
      subst (λ xs. Paging cluster corpus script (Refuse u c ∷ h) xs) (sym same) (refused_pages cluster corpus script h contexts p ties.lawful u c a)
  left_pages now moment counts (End u reply) m after many left refused =
      let says : reply ≡ Cancelled t m.1.0 counts = m.1.1 in
      let a : Allowed cluster (End t (Cancelled t m.1.0 counts)) h = subst (λ x. EndAllowed t x h) says m.1.2 in
      subst (λ v. Paging cluster corpus script (End v reply ∷ h) after) (sym m.0)
      (subst (λ x. Paging cluster corpus script (End t x ∷ h) after) (sym says) (cancelled_pages a.goes_on.passed now moment m.1.0 counts a after many (left (runs.new ∙ a.goes_on.passed))))
  left_pages now moment counts _ m after many left refused = absurd m
