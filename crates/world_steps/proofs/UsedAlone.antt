-- A task that shows a page uses its context from its start to its end, and the context stays as it was at the start.
use Rattle.std.proofs.Common.{◌≡◌, ◌≢◌, ◌⊎◌, ℕ, ◌+◌, Bool, true, false, cond, List, [], ◌∷◌, Option, Some, None, refl, sym, ap, subst, ◌∙◌, inl, inr}
use Rattle.std.specs.Prelude.{◌&&◌, is_some}
use Rattle.task_ids.specs.declared.cluster.Cluster.{Cluster}
use Rattle.task_ids.specs.declared.task_id.TaskId.{TaskId}
use Rattle.task_events.specs.declared.context.Context.{Context}
use Rattle.task_events.specs.declared.event.Event.{Event}
use Rattle.task_events.specs.declared.event.Event.TheVariants.{Begin, Root, Ask, Put, Pass, Refuse, End, Tick}
use Rattle.task_events.specs.declared.reply.Reply.{Reply}
use Rattle.task_events.specs.declared.reply.Reply.TheVariants.{Search, Top, Hits, AllFailed, Wrote, Cancelled, Rejected}
use Rattle.task_events.specs.declared.request.Request.{Request}
use Rattle.task_events.specs.declared.request.Request.TheVariants as asks
use Rattle.task_events.specs.declared.request.ScrollAsk.{ScrollAsk}
use Rattle.task_events.specs.Clock.{clock}
use Rattle.task_events.specs.Contexts.{is_busy, is_owned_by, with_use, after_begin, after_taking, after_end, unexpired, without_owned, context_at, page_of}
use Rattle.task_events.specs.Lawful.{Lawful}
use Rattle.task_events.specs.Requests.{Scripted, request_of}
use Rattle.task_events.specs.Same.{same_task}
use Rattle.task_events.specs.Tasks.{is_live, is_new, has_ended}
use Rattle.task_laws.proofs.Asks.{ask_facts}
use Rattle.task_laws.proofs.Same.{same_task_tells}
use Rattle.search_phase.proofs.Sorting.{by_test}
use Rattle.world_moves.specs.Owning.{FindsFree, OneAtATime}
use Rattle.world_moves.proofs.ContextsPast.{stands_ended}

-- ---- ids

pub is_one : (t u : TaskId) → same_task t u ≡ true → t ≡ u
is_one t u e = of_case (same_task_tells t u)
  where
    of_case : ((same_task t u ≡ true) × (t ≡ u)) ⊎ ((same_task t u ≡ false) × (t ≢ u)) → t ≡ u
    of_case (inl (one, same)) = same
    of_case (inr (other, apart)) = absurd (let f : false ≡ true = sym other ∙ e in cc)

pub same_itself : (t : TaskId) → same_task t t ≡ true
same_itself t = of_case (same_task_tells t t)
  where
    of_case : ((same_task t t ≡ true) × (t ≡ t)) ⊎ ((same_task t t ≡ false) × (t ≢ t)) → same_task t t ≡ true
    of_case (inl (one, same)) = one
    of_case (inr (other, apart)) = absurd (apart refl)

-- ---- a context that is in use

busy_by : (c : Context) (t : TaskId) → c.busy ≡ Some t → is_busy c ≡ true
busy_by c t e = ap is_some e

begun_stays : (cleared : Option TaskId) (id t : TaskId) (c : Context) → c.busy ≡ Some t → after_begin cleared id (Some c) ≡ Some c
begun_stays None id t c e = refl
begun_stays (Some other) id t c e = let busy : is_busy c ≡ true = busy_by c t e in rw busy (of_tests (same_task other id) (is_owned_by None c))
  where
    of_tests : (a b : Bool) → cond (a && (b && false)) None (Some c) ≡ Some c
    of_tests true true = refl
    of_tests true false = refl
    of_tests false b = refl

ticked_stays : (now : ℕ) (t : TaskId) (c : Context) → c.busy ≡ Some t → unexpired now (Some c) ≡ Some c
ticked_stays now t c e = let busy : is_busy c ≡ true = busy_by c t e in rw busy refl

-- the same is looked through, after the same cursor
pub record IsAsBefore (before after : Context) : Type 0 where
  pub ask : after.ask ≡ before.ask
  pub shards : after.shards ≡ before.shards
  pub cursor : after.after ≡ before.after

-- the context of a live page
pub record IsInUse (said : Scripted) (t : TaskId) (ask : ScrollAsk) (h : List Event) : Type 0 where
  pub start : Context
  pub context : Context
  pub page : page_of said t h ≡ Some start
  pub stands : context_at said ask.id h ≡ Some context
  pub busy : context.busy ≡ Some t
  pub same : IsAsBefore start context

module _ (said : Scripted) (t : TaskId) (ask : ScrollAsk) where
  -- a root that starts elsewhere takes another context
  root_stays : (now : ℕ) (u : TaskId) (look : TaskId → Option Context) (c : Context) → look ask.id ≡ Some c → c.busy ≡ Some t → (q : Option Request) → FindsFree look q → after_taking now u q ask.id (Some c) ≡ Some c
  root_stays now u look c at busy None free = refl
  root_stays now u look c at busy (Some (asks.Search other)) free = refl
  root_stays now u look c at busy (Some (asks.Query other)) free = refl
  root_stays now u look c at busy (Some (asks.Fetch other)) free = refl
  root_stays now u look c at busy (Some (asks.Reindex other)) free = refl
  root_stays now u look c at busy (Some (asks.Slice other)) free = refl
  root_stays now u look c at busy (Some (asks.Bulk other)) free = refl
  root_stays now u look c at busy (Some (asks.BulkShard other)) free = refl
  root_stays now u look c at busy (Some (asks.Scroll other)) free =
      by_test (same_task other.id ask.id)
      (λ yes.
      let found : look other.id ≡ Some c = ap look (is_one other.id ask.id yes) ∙ at in
      let f : is_busy c ≡ false = rw found at free in
      absurd (let g : true ≡ false = sym (busy_by c t busy) ∙ f in cc))
      (λ no. rw no refl)

  end_stays : (now : ℕ) (u : TaskId) (c : Context) (q : Option Request) (reply : Reply) → (same_task u ask.id ≡ true → ⊥) → ((other : ScrollAsk) → q ≡ Some (asks.Scroll other) → same_task other.id ask.id ≡ true → ⊥)
      → after_end now u q reply ask.id (Some c) ≡ Some c
  end_stays now u c None reply no_search no_page = refl
  end_stays now u c (Some (asks.Query other)) reply no_search no_page = refl
  end_stays now u c (Some (asks.Fetch other)) reply no_search no_page = refl
  end_stays now u c (Some (asks.Reindex other)) reply no_search no_page = refl
  end_stays now u c (Some (asks.Slice other)) reply no_search no_page = refl
  end_stays now u c (Some (asks.Bulk other)) reply no_search no_page = refl
  end_stays now u c (Some (asks.BulkShard other)) reply no_search no_page = refl
  end_stays now u c (Some (asks.Scroll other)) reply no_search no_page = by_test (same_task other.id ask.id) (λ yes. absurd (no_page other refl yes)) (λ no. rw no refl)
  end_stays now u c (Some (asks.Search other)) (Search found) no_search no_page = by_test (same_task u ask.id) (λ yes. absurd (no_search yes)) (λ no. rw no refl)
  end_stays now u c (Some (asks.Search other)) (Top top) no_search no_page = refl
  end_stays now u c (Some (asks.Search other)) (Hits hits) no_search no_page = refl
  end_stays now u c (Some (asks.Search other)) (Wrote counts) no_search no_page = refl
  end_stays now u c (Some (asks.Search other)) (AllFailed failed) no_search no_page = refl
  end_stays now u c (Some (asks.Search other)) (Cancelled task cancel counts) no_search no_page = refl
  end_stays now u c (Some (asks.Search other)) (Rejected node) no_search no_page = refl

  -- the root of a page takes its context
  root_takes : (k : ℕ) (u : TaskId) (h : List Event) → same_task t u ≡ true → FindsFree (λ id. context_at said id h) (said.root k h) → said.root k h ≡ Some (asks.Scroll ask) → IsInUse said t ask (Root k u ∷ h)
  root_takes k u h own free e = of_context (context_at said ask.id h) refl (subst (FindsFree (λ id. context_at said id h)) e free)
    where
      of_context : (o : Option Context) → context_at said ask.id h ≡ o → FindsFree (λ id. context_at said id h) (Some (asks.Scroll ask)) → IsInUse said t ask (Root k u ∷ h)
      of_context None stands is = absurd (rw stands at is)
      of_context (Some d) there is = record {
        start = d;
        context = with_use (clock h) ask.keep u d;
        page = rw (own, e) there;
        stands = rw e (rw (same_itself ask.id, there) refl);
        busy = ap Some (sym (is_one t u own));
        same = record { ask = refl; shards = refl; cursor = refl };
      }

  -- and so does a child that passes
  pass_takes : (u : TaskId) (h : List Event) → same_task t u ≡ true → FindsFree (λ id. context_at said id h) (request_of said u h) → request_of said u h ≡ Some (asks.Scroll ask) → IsInUse said t ask (Pass u ∷ h)
  pass_takes u h own free e = of_context (context_at said ask.id h) refl (subst (FindsFree (λ id. context_at said id h)) e free)
    where
      mine : request_of said t h ≡ Some (asks.Scroll ask)
      mine = ap (λ x. request_of said x h) (is_one t u own) ∙ e

      of_context : (o : Option Context) → context_at said ask.id h ≡ o → FindsFree (λ id. context_at said id h) (Some (asks.Scroll ask)) → IsInUse said t ask (Pass u ∷ h)
      of_context None stands is = absurd (rw stands at is)
      of_context (Some d) there is = record {
        start = d;
        context = with_use (clock h) ask.keep u d;
        page = rw (own, mine) there;
        stands = rw e (rw (same_itself ask.id, there) refl);
        busy = ap Some (sym (is_one t u own));
        same = record { ask = refl; shards = refl; cursor = refl };
      }

  -- a context that is used belongs to it for the time
  owned_stays : (u : TaskId) (c : Context) → c.busy ≡ Some t → without_owned u (Some c) ≡ Some c
  owned_stays u c e = let busy : is_busy c ≡ true = busy_by c t e in rw busy (of_test (is_owned_by (Some u) c))
    where
      of_test : (b : Bool) → cond (b && false) None (Some c) ≡ Some c
      of_test true = refl
      of_test false = refl

  -- what stays as it was stays in use
  goes_on : (e : Event) (h : List Event) → (b : IsInUse said t ask h) → page_of said t (e ∷ h) ≡ page_of said t h → context_at said ask.id (e ∷ h) ≡ Some b.context → IsInUse said t ask (e ∷ h)
  goes_on e h b page stands = record { start = b.start; context = b.context; page = page ∙ b.page; stands = stands; busy = b.busy; same = b.same }

  -- so it does where a command begins, where another root starts, and where time goes by
  begun_goes_on : (k : ℕ) (h : List Event) → IsInUse said t ask h → IsInUse said t ask (Begin k ∷ h)
  begun_goes_on k h b = goes_on (Begin k) h b refl (ap (after_begin (said.clears k h) ask.id) b.stands ∙ begun_stays (said.clears k h) ask.id t b.context b.busy)

  rooted_goes_on : (k : ℕ) (u : TaskId) (h : List Event) → same_task t u ≡ false → FindsFree (λ id. context_at said id h) (said.root k h) → IsInUse said t ask h → IsInUse said t ask (Root k u ∷ h)
  rooted_goes_on k u h other free b =
      goes_on (Root k u) h b (rw other refl)
      (ap (after_taking (clock h) u (said.root k h) ask.id) b.stands ∙ root_stays (clock h) u (λ id. context_at said id h) b.context b.stands b.busy (said.root k h) free)

  passed_goes_on : (u : TaskId) (h : List Event) → same_task t u ≡ false → FindsFree (λ id. context_at said id h) (request_of said u h) → IsInUse said t ask h → IsInUse said t ask (Pass u ∷ h)
  passed_goes_on u h other free b =
      goes_on (Pass u) h b (rw other refl)
      (ap (after_taking (clock h) u (request_of said u h) ask.id) b.stands ∙ root_stays (clock h) u (λ id. context_at said id h) b.context b.stands b.busy (request_of said u h) free)

  ticked_goes_on : (ms : ℕ) (h : List Event) → IsInUse said t ask h → IsInUse said t ask (Tick ms ∷ h)
  ticked_goes_on ms h b = goes_on (Tick ms) h b refl (ap (unexpired (clock h + ms)) b.stands ∙ ticked_stays (clock h + ms) t b.context b.busy)

-- ---- every past

-- every live task that has passed and shows a page has its context
abbrev pub AllInUse : Scripted → List Event → Type 0
AllInUse said h = (t : TaskId) (ask : ScrollAsk) → is_live t h ≡ true → is_new t h ≡ false → request_of said t h ≡ Some (asks.Scroll ask) → IsInUse said t ask h

module _ (cluster : Cluster) (said : Scripted) where
  still_live : (b : Bool) (o : Bool) → cond b false o ≡ true → (b ≡ false) × (o ≡ true)
  still_live true o e = absurd (cc)
  still_live false o e = (refl, e)

  -- and where another task ends
  ended_goes_on : (h : List Event) (u : TaskId) (reply : Reply) → is_live u h ≡ true → is_new u h ≡ false → has_ended u h ≡ false → AllInUse said h → (t : TaskId) (ask : ScrollAsk) → same_task t u ≡ false → IsInUse said t ask h → IsInUse said t ask (End u reply ∷ h)
  ended_goes_on h u reply live passed not_ended all t ask other b =
      goes_on said t ask (End u reply) h b refl
      (ap (λ o. without_owned u (after_end (clock h) u (request_of said u h) reply ask.id o)) b.stands
      ∙ ap (without_owned u) (end_stays said t ask (clock h) u b.context (request_of said u h) reply
      (λ search. let ended : has_ended u h ≡ true = ap (λ x. has_ended x h) (is_one u ask.id search) ∙ stands_ended said ask.id h b.context b.stands in absurd (let f : false ≡ true = sym not_ended ∙ ended in cc))
      (λ page asked same. apart page same (all u page live passed asked))) ∙ owned_stays said t ask u b.context b.busy)
    where
      apart : (page : ScrollAsk) → same_task page.id ask.id ≡ true → IsInUse said u page h → ⊥
      apart page same used =
          let one : Some used.context ≡ Some b.context = sym used.stands ∙ ap (λ id. context_at said id h) (is_one page.id ask.id same) ∙ b.stands in
          let context : used.context ≡ b.context = cc in
          let user : Some u ≡ Some t = sym used.busy ∙ ap (λ (c : Context). c.busy) context ∙ b.busy in
          let task : u ≡ t = cc in
          let f : false ≡ true = sym other ∙ ap (same_task t) task ∙ same_itself t in
          absurd (cc)

  pub all_in_use : (h : List Event) → Lawful cluster h → OneAtATime said h → AllInUse said h
  all_in_use [] lawful alone t ask live passed request = absurd (cc)
  all_in_use (Begin k ∷ h) lawful alone t ask live passed request = begun_goes_on said t ask k h (all_in_use h lawful.1 alone t ask live passed request)
  all_in_use (Root k u ∷ h) lawful alone t ask live passed request =
      by_test (same_task t u)
      (λ own. root_takes said t ask k u h own alone.0 (rw own at request))
      (λ other. rooted_goes_on said t ask k u h other alone.0 (all_in_use h lawful.1 alone.1 t ask (rw other at live) passed (rw other at request)))
  all_in_use (Put u p k ∷ h) lawful alone t ask live passed request =
      by_test (same_task t u)
      (λ own. absurd (let f : true ≡ false = rw own at passed in cc))
      (λ other. let b = all_in_use h lawful.1 alone t ask (rw other at live) (rw other at passed) (rw other at request) in goes_on said t ask (Put u p k) h b refl b.stands)
  all_in_use (Pass u ∷ h) lawful alone t ask live passed request =
      by_test (same_task t u)
      (λ own. pass_takes said t ask u h own alone.0 (ap (λ x. request_of said x h) (sym (is_one t u own)) ∙ request))
      (λ other. passed_goes_on said t ask u h other alone.0 (all_in_use h lawful.1 alone.1 t ask live (rw other at passed) request))
  all_in_use (Refuse u c ∷ h) lawful alone t ask live passed request =
      let lives = still_live (same_task t u) (is_live t h) live in
      let b = all_in_use h lawful.1 alone t ask lives.1 (rw lives.0 at passed) request in
      goes_on said t ask (Refuse u c) h b refl b.stands
  all_in_use (End u reply ∷ h) lawful alone t ask live passed request =
      let lives = still_live (same_task t u) (is_live t h) live in
      let all = all_in_use h lawful.1 alone in
      let ends : is_live u h ≡ true = lawful.0.goes_on.live in
      ended_goes_on h u reply ends lawful.0.goes_on.passed ((ask_facts cluster h lawful.1).live_or_ended u ends) all t ask lives.0 (all t ask lives.1 passed request)
  all_in_use (Tick ms ∷ h) lawful alone t ask live passed request = ticked_goes_on said t ask ms h (all_in_use h lawful.1 alone t ask live passed request)
  all_in_use (Ask p k n r ∷ h) lawful alone t ask live passed request = let b = all_in_use h lawful.1 alone.1 t ask live passed request in goes_on said t ask (Ask p k n r) h b refl b.stands
  all_in_use (e ∷ h) lawful alone t ask live passed request = let b = all_in_use h lawful.1 alone t ask live passed request in goes_on said t ask e h b refl b.stands
