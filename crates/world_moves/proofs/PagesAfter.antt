-- The tables of contexts fit the past after an event.
use Rattle.std.proofs.Common.{◌≡◌, ℕ, ◌+◌, true, false, List, [], ◌∷◌, length, Option, Some, None, refl, sym, ap, subst, ◌∙◌}
use Rattle.std.specs.Prelude.{is_some}
use Rattle.std.specs.FinMap.{FinMap}
use Rattle.std.proofs.lemmas.List.{append-nil}
use Rattle.task_ids.specs.TaskIdOrder.{task_id_cmp}
use Rattle.task_ids.specs.declared.cluster.Cluster.{Cluster}
use Rattle.task_ids.specs.declared.corpus.Corpus.{Corpus}
use Rattle.task_ids.specs.declared.task_id.TaskId.{TaskId}
use Rattle.script_lang.specs.declared.command.Script.{Script}
use Rattle.task_events.specs.declared.context.Context.{Context}
use Rattle.task_events.specs.declared.event.Event.{Event}
use Rattle.task_events.specs.declared.event.Event.TheVariants.{Begin, Ask, Put, Refuse, Write, Tick, AnswerPlaced, AnswerDone, Root, Pass}
use Rattle.task_events.specs.declared.request.Request.{Request}
use Rattle.task_events.specs.declared.request.Request.TheVariants as asks
use Rattle.task_events.specs.declared.request.ScrollAsk.{ScrollAsk}
use Rattle.task_events.specs.Allowed.{Allowed}
use Rattle.task_events.specs.Clock.{clock}
use Rattle.task_events.specs.Contexts.{is_owned_by, after_begin, unexpired, context_at, page_of}
use Rattle.task_events.specs.Counts.{AreCounts}
use Rattle.task_events.specs.Lawful.{Lawful}
use Rattle.task_events.specs.Requests.{request_of}
use Rattle.task_events.specs.Same.{same_task}
use Rattle.task_events.specs.Tasks.{is_live, is_new}
use Rattle.task_events.specs.Written.{line_of, next_doc}
use Rattle.command_roots.specs.Roots.{scripted}
use Rattle.search_phase.proofs.Growth.{writes_of-grow}
use Rattle.search_phase.proofs.Sorting.{by_test}
use Rattle.world_moves.specs.Cancels.{with_answers}
use Rattle.world_moves.specs.Good.{Grows, IsContextWithin, so_far, written}
use Rattle.world_moves.specs.Owning.{Owning, MayAskOwn, AsksForOwn, OneAtATime}
use Rattle.world_moves.specs.Paging.{Paging, context_in}
use Rattle.world_moves.proofs.CancelAnswersAfter.{kept}
use Rattle.world_moves.proofs.ContextsPast.{begun_there, unexpired_there, WasThere}
use Rattle.world_moves.proofs.Growing.{context_grown}
use Rattle.world_moves.proofs.OwningAfter.{owning_after}
use Rattle.world_moves.proofs.OwningQuiet.{same_owning}
use Rattle.world_moves.proofs.QuietEvents.{leaves_contexts, as_before}

module _ (cluster : Cluster) (corpus : Corpus) (script : Script) (h : List Event) where
  -- what is written stays
  pub growing : (e : Event) → Grows cluster (so_far corpus script h) (so_far corpus script (e ∷ h))
  growing (Write index shard outcome id) other place = writes_of-grow (so_far corpus script h) (line_of index (next_doc (scripted script) h)) cluster.shards other place
  growing _ other place = ([], sym (append-nil (written cluster (so_far corpus script h) other place)))

  -- such a task was one before
  abbrev pub WereShown : Event → Type 0
  WereShown e = (t : TaskId) (ask : ScrollAsk) → is_live t (e ∷ h) ≡ true → is_new t (e ∷ h) ≡ false → request_of (scripted script) t (e ∷ h) ≡ Some (asks.Scroll ask)
      → (is_live t h ≡ true) × (is_new t h ≡ false) × (request_of (scripted script) t h ≡ Some (asks.Scroll ask))

  abbrev pub IsWithin : Context → Type 0
  IsWithin c = IsContextWithin cluster (so_far corpus script h) c

  -- an event that does nothing to tasks begins no page
  quiet_alone : (e : Event) → leaves_contexts e ≡ true → OneAtATime (scripted script) h → OneAtATime (scripted script) (e ∷ h)
  quiet_alone (Root k t) q alone = absurd (cc)
  quiet_alone (Ask p k n r) q alone = absurd (cc)
  quiet_alone (Pass t) q alone = absurd (cc)
  quiet_alone _ q alone = alone

  asks_own : (p : TaskId) (r : Request) → MayAskOwn (scripted script) p r h → AsksForOwn p r
  asks_own p (asks.Search ask) may = may
  asks_own p (asks.Query ask) may = tt
  asks_own p (asks.Fetch ask) may = tt
  asks_own p (asks.Scroll ask) may = tt
  asks_own p (asks.Reindex ask) may = tt
  asks_own p (asks.Slice ask) may = tt
  asks_own p (asks.Bulk ask) may = tt
  asks_own p (asks.BulkShard ask) may = tt

  module _ (tables : List (FinMap task_id_cmp Context)) (p : Paging cluster corpus script h tables) where
    later_within : (e : Event) (c : Context) → IsWithin c → IsContextWithin cluster (so_far corpus script (e ∷ h)) c
    later_within e c within = context_grown cluster (so_far corpus script h) (so_far corpus script (e ∷ h)) (growing e) c within

    same_page : (e : Event) → ((t : TaskId) → page_of (scripted script) t (e ∷ h) ≡ page_of (scripted script) t h) → (t : TaskId) (c : Context) → page_of (scripted script) t (e ∷ h) ≡ Some c → IsWithin c
    same_page e pages t c is = p.page_within t c (sym (pages t) ∙ is)

    -- where each context is what it was
    same_contexts : (e : Event) → ((id : TaskId) → context_at (scripted script) id (e ∷ h) ≡ context_at (scripted script) id h) → ((t : TaskId) → page_of (scripted script) t (e ∷ h) ≡ page_of (scripted script) t h)
        → WereShown e → Owning (scripted script) (e ∷ h) → OneAtATime (scripted script) (e ∷ h) → Paging cluster corpus script (e ∷ h) tables
    same_contexts e stays pages before owns alone = record {
      as_many = p.as_many;
      stand = λ id. p.stand id ∙ sym (stays id);
      counts = λ id c is. p.counts id c (sym (stays id) ∙ is);
      within = λ id c is. later_within e c (p.within id c (sym (stays id) ∙ is));
      page_within = λ t c is. later_within e c (same_page e pages t c is);
      used = λ t ask l n r. let was = before t ask l n r in let used = p.used t ask was.0 was.1 was.2 in (used.0, stays ask.id ∙ used.1, used.2);
      owns = owns;
      alone = alone;
    }

    pub quiet_pages : (e : Event) → leaves_contexts e ≡ true → Paging cluster corpus script (e ∷ h) tables
    quiet_pages e q =
        let same = as_before (scripted script) h e q in
        same_contexts e same.context same.page (λ t ask l n r. (sym (same.live t) ∙ l, sym (same.new t) ∙ n, sym (same.request t) ∙ r)) (same_owning (scripted script) h (e ∷ h) same p.owns) (quiet_alone e q p.alone)

    module _ (lawful : Lawful cluster h) where
      -- a task asks
      pub asked_pages : (t : TaskId) (k n : ℕ) (r : Request) → Allowed cluster (Ask t k n r) h → MayAskOwn (scripted script) t r h → Paging cluster corpus script (Ask t k n r ∷ h) tables
      asked_pages t k n r a may = same_contexts (Ask t k n r) (λ id. refl) (λ u. refl) (λ u ask l m q. (l, m, q)) (owning_after cluster (scripted script) h lawful p.owns (Ask t k n r) a may) (asks_own t r may, p.alone)

      -- a task that is refused is live no more
      pub refused_pages : (u : TaskId) (c : ℕ) → Allowed cluster (Refuse u c) h → Paging cluster corpus script (Refuse u c ∷ h) tables
      refused_pages u c a = same_contexts (Refuse u c) (λ id. refl) (λ t. refl) before (owning_after cluster (scripted script) h lawful p.owns (Refuse u c) a tt) p.alone
        where
          before : WereShown (Refuse u c)
          before t ask l n r = by_test (same_task t u) (λ same. absurd (let f : false ≡ true = rw same at l in cc)) (λ other. (rw other at l, rw other at n, r))

      -- a child has not passed yet
      pub put_pages : (u q : TaskId) (k : ℕ) → Allowed cluster (Put u q k) h → Paging cluster corpus script (Put u q k ∷ h) tables
      put_pages u q k a = same_contexts (Put u q k) (λ id. refl) (λ t. refl) before (owning_after cluster (scripted script) h lawful p.owns (Put u q k) a tt) p.alone
        where
          before : WereShown (Put u q k)
          before t ask l n r = by_test (same_task t u) (λ same. absurd (let f : true ≡ false = rw same at n in cc)) (λ other. (rw other at l, rw other at n, rw other at r))

    -- where the tables change as the past says
    pub changed : (e : Event) (after : List (FinMap task_id_cmp Context)) (makes : TaskId → Option Context → Option Context) → ((id : TaskId) → context_at (scripted script) id (e ∷ h) ≡ makes id (context_at (scripted script) id h))
        → length after ≡ length tables → ((id : TaskId) → context_in after id ≡ makes id (context_in tables id))
        → ((id : TaskId) (c : Context) → makes id (context_at (scripted script) id h) ≡ Some c → AreCounts c.shards × IsWithin c)
        → ((t : TaskId) (c : Context) → page_of (scripted script) t (e ∷ h) ≡ Some c → IsWithin c)
        → ((t : TaskId) (ask : ScrollAsk) → is_live t (e ∷ h) ≡ true → is_new t (e ∷ h) ≡ false → request_of (scripted script) t (e ∷ h) ≡ Some (asks.Scroll ask) → (c : Context) × (makes ask.id (context_at (scripted script) ask.id h) ≡ Some c) × (c.busy ≡ Some t))
        → Owning (scripted script) (e ∷ h) → OneAtATime (scripted script) (e ∷ h) → Paging cluster corpus script (e ∷ h) after
    changed e after makes is many tables_are sound pages used owns alone = record {
      as_many = many ∙ p.as_many;
      stand = λ id. tables_are id ∙ ap (makes id) (p.stand id) ∙ sym (is id);
      counts = λ id c there. (sound id c (sym (is id) ∙ there)).0;
      within = λ id c there. later_within e c (sound id c (sym (is id) ∙ there)).1;
      page_within = λ t c shown. later_within e c (pages t c shown);
      used = λ t ask l n r. let u = used t ask l n r in (u.0, is ask.id ∙ u.1, u.2);
      owns = owns;
      alone = alone;
    }

    -- what a context keeps it kept before
    pub sound_were : (id : TaskId) (c : Context) → WasThere (context_at (scripted script) id h) c → AreCounts c.shards × IsWithin c
    sound_were id c (d, was, own, shards, ask) = (subst AreCounts (sym shards) (p.counts id d was), like (p.within id d was))
      where
        like : IsWithin d → IsWithin c
        like within = record {
          few = rw shards within.few;
          shown = rw ask within.shown;
          shards = λ place n at. rw ask (within.shards place n (rw shards at at));
        }

    sound_same : (id : TaskId) (c : Context) → context_at (scripted script) id h ≡ Some c → AreCounts c.shards × IsWithin c
    sound_same id c at = (p.counts id c at, p.within id c at)

    -- ---- a command begins

    -- what is used is not cleared
    busy_stays : (cleared : Option TaskId) (id t : TaskId) (c : Context) → c.busy ≡ Some t → after_begin cleared id (Some c) ≡ Some c
    busy_stays None id t c b = refl
    busy_stays (Some other) id t c b = by_test (same_task other id)
        (λ same. let busy : is_some c.busy ≡ true = ap is_some b in by_test (is_owned_by None c) (λ owned. rw (same, owned, busy) refl) (λ not_owned. rw (same, not_owned) refl))
        (λ apart. rw apart refl)

    pub begun_pages : Lawful cluster h → (k : ℕ) → Allowed cluster (Begin k) h → (after : List (FinMap task_id_cmp Context)) → length after ≡ length tables → ((id : TaskId) → context_in after id ≡ after_begin ((scripted script).clears k h) id (context_in tables id)) → Paging cluster corpus script (Begin k ∷ h) after
    begun_pages lawful k a after many tables_are = changed (Begin k) after (after_begin ((scripted script).clears k h)) (λ id. refl) many tables_are
        (λ id c e. sound_same id c (begun_there ((scripted script).clears k h) id (context_at (scripted script) id h) c e)) (λ t c shown. p.page_within t c shown)
        (λ t ask l n r. let u = p.used t ask l n r in (u.0, ap (after_begin ((scripted script).clears k h) ask.id) u.1 ∙ busy_stays ((scripted script).clears k h) ask.id t u.0 u.2, u.2))
        (owning_after cluster (scripted script) h lawful p.owns (Begin k) a tt) p.alone

    -- ---- the clock moves

    in_use : (now : ℕ) (t : TaskId) (c : Context) → c.busy ≡ Some t → unexpired now (Some c) ≡ Some c
    in_use now t c b = let busy : is_some c.busy ≡ true = ap is_some b in rw busy refl

    pub ticked_pages : Lawful cluster h → (ms : ℕ) (after : List (FinMap task_id_cmp Context)) → length after ≡ length tables → ((id : TaskId) → context_in after id ≡ unexpired (clock h + ms) (context_in tables id)) → Paging cluster corpus script (Tick ms ∷ h) after
    ticked_pages lawful ms after many tables_are = changed (Tick ms) after (λ id. unexpired (clock h + ms)) (λ id. refl) many tables_are
        (λ id c e. sound_same id c (unexpired_there (clock h + ms) (context_at (scripted script) id h) c e)) (λ t c shown. p.page_within t c shown)
        (λ t ask l n r. let u = p.used t ask l n r in (u.0, ap (unexpired (clock h + ms)) u.1 ∙ in_use (clock h + ms) t u.0 u.2, u.2))
        (owning_after cluster (scripted script) h lawful p.owns (Tick ms) tt tt) p.alone

-- ---- answers

module _ (cluster : Cluster) (corpus : Corpus) (script : Script) (h : List Event) (tables : List (FinMap task_id_cmp Context)) where
  pub answered_pages : (t : TaskId) → Paging cluster corpus script h tables → Paging cluster corpus script (with_answers t h) tables
  answered_pages t p =
      kept (λ past. Paging cluster corpus script past tables) (λ c past x. quiet_pages cluster corpus script past tables x (AnswerPlaced c) refl) (λ c past x. quiet_pages cluster corpus script past tables x (AnswerDone c) refl) t h p
