-- The tables of contexts fit the past after a root has started, after a child has passed, and after a task has ended.
use Rattle.std.proofs.Common.{◌≡◌, ◌≢◌, ◌⊎◌, ℕ, true, false, List, ◌∷◌, length, Option, Some, None, refl, sym, ap, subst, ◌∙◌, inl, inr, arith}
use Rattle.std.specs.Prelude.{is_some}
use Rattle.std.specs.FinMap.{FinMap}
use Rattle.task_ids.specs.TaskIdOrder.{task_id_cmp}
use Rattle.task_ids.specs.declared.cluster.Cluster.{Cluster}
use Rattle.task_ids.specs.declared.corpus.Corpus.{Corpus}
use Rattle.task_ids.specs.declared.task_id.TaskId.{TaskId}
use Rattle.script_lang.specs.declared.command.Script.{Script}
use Rattle.task_events.specs.declared.context.Context.{Context}
use Rattle.task_events.specs.declared.event.Event.{Event}
use Rattle.task_events.specs.declared.event.Event.TheVariants.{Root, Pass, End}
use Rattle.task_events.specs.declared.reply.Reply.{Reply}
use Rattle.task_events.specs.declared.reply.Reply.TheVariants.{Search, Top, Hits, AllFailed, Wrote, Cancelled, Rejected}
use Rattle.task_events.specs.declared.reply.SearchReply.{SearchReply}
use Rattle.task_events.specs.declared.request.Request.{Request}
use Rattle.task_events.specs.declared.request.Request.TheVariants as asks
use Rattle.task_events.specs.declared.request.ScrollAsk.{ScrollAsk}
use Rattle.task_events.specs.declared.request.SearchAsk.{SearchAsk}
use Rattle.task_events.specs.Allowed.{Allowed}
use Rattle.task_events.specs.Clock.{clock}
use Rattle.task_events.specs.Contexts.{is_busy, is_owned_by, after_taking, after_end, asked_page, without_owned, context_at, page_of}
use Rattle.task_events.specs.Counts.{AreCounts}
use Rattle.task_events.specs.Lawful.{Lawful}
use Rattle.task_events.specs.Requests.{request_of}
use Rattle.task_events.specs.Same.{same_task}
use Rattle.task_events.specs.Tasks.{is_live, is_new, has_ended}
use Rattle.task_laws.proofs.Asks.{ask_facts}
use Rattle.task_laws.proofs.Same.{same_task_tells, same_tests}
use Rattle.command_roots.specs.Roots.{scripted}
use Rattle.search_phase.proofs.Sorting.{by_test}
use Rattle.world_moves.specs.Owning.{FindsFree, MayTakeFree}
use Rattle.world_moves.specs.Paging.{Paging, context_in}
use Rattle.world_moves.proofs.ContextsPast.{WasThere, taken_there, IsOpened, ended_there, left_owned, stands_ended}
use Rattle.world_moves.proofs.OwnPages.{finds_free}
use Rattle.world_moves.proofs.OwningAfter.{owning_after}
use Rattle.world_moves.proofs.PagesAfter.{IsWithin, changed, sound_were}

itself : (t : TaskId) → same_task t t ≡ true
itself t = grind (arith, same_tests)

one_user : (t u : TaskId) → Some t ≡ Some u → t ≡ u
one_user t u both = cc

one_context : (c d : Context) → Some c ≡ Some d → c ≡ d
one_context c d both = cc

module _ (cluster : Cluster) (corpus : Corpus) (script : Script) (h : List Event) (tables : List (FinMap task_id_cmp Context)) (p : Paging cluster corpus script h tables) (lawful : Lawful cluster h) where
  -- ---- a task takes a context: a root when it starts, a child when it passes

  abbrev Sound : Context → Type 0
  Sound c = AreCounts c.shards × IsWithin cluster corpus script h c

  abbrev Shows : TaskId → ScrollAsk → Option Context → Type 0
  Shows u ask o = (c : Context) × (o ≡ Some c) × (c.busy ≡ Some u)

  -- the context of which it asks for a page stands, and no task uses it
  abbrev pub IsUsable : Request → Type 0
  IsUsable request = (ask : ScrollAsk) → request ≡ asks.Scroll ask → (c : Context) × (context_at (scripted script) ask.id h ≡ Some c) × (is_busy c ≡ false)

  module _ (t : TaskId) (request : Option Request) (usable : (r : Request) → request ≡ Some r → IsUsable r) where
    abbrev makes : TaskId → Option Context → Option Context
    makes = after_taking (clock h) t request

    -- the task uses what it has taken
    uses_it : (o : Option Request) → ((r : Request) → o ≡ Some r → IsUsable r) → (ask : ScrollAsk) → o ≡ Some (asks.Scroll ask) → Shows t ask (after_taking (clock h) t o ask.id (context_at (scripted script) ask.id h))
    uses_it o free ask is =
        let found = free (asks.Scroll ask) is ask refl in
        let equal : same_task ask.id ask.id ≡ true = itself ask.id in
        rw (is, found.1, equal) (_, refl, refl)

    -- it finds it free
    stands_free : {o : Option Request} → o ≡ request → FindsFree (λ id. context_at (scripted script) id h) o
    stands_free {o} is = of_request o (λ r e. usable r (sym is ∙ e))
      where
        of_request : (q : Option Request) → ((r : Request) → q ≡ Some r → IsUsable r) → FindsFree (λ id. context_at (scripted script) id h) q
        of_request None free = tt
        of_request (Some (asks.Search ask)) free = tt
        of_request (Some (asks.Query ask)) free = tt
        of_request (Some (asks.Fetch ask)) free = tt
        of_request (Some (asks.Reindex ask)) free = tt
        of_request (Some (asks.Slice ask)) free = tt
        of_request (Some (asks.Bulk ask)) free = tt
        of_request (Some (asks.BulkShard ask)) free = tt
        of_request (Some (asks.Scroll ask)) free = let found = free (asks.Scroll ask) refl ask refl in rw found.1 found.2

    -- a context that another uses is another one
    leaves_it : (o : Option Request) → ((r : Request) → o ≡ Some r → IsUsable r) → (u : TaskId) (ask : ScrollAsk) (c : Context) → context_at (scripted script) ask.id h ≡ Some c → c.busy ≡ Some u → after_taking (clock h) t o ask.id (Some c) ≡ Some c
    leaves_it None free u ask c at b = refl
    leaves_it (Some (asks.Search other)) free u ask c at b = refl
    leaves_it (Some (asks.Query other)) free u ask c at b = refl
    leaves_it (Some (asks.Fetch other)) free u ask c at b = refl
    leaves_it (Some (asks.Reindex other)) free u ask c at b = refl
    leaves_it (Some (asks.Slice other)) free u ask c at b = refl
    leaves_it (Some (asks.Bulk other)) free u ask c at b = refl
    leaves_it (Some (asks.BulkShard other)) free u ask c at b = refl
    leaves_it (Some (asks.Scroll other)) free u ask c at b = of_case (same_task_tells other.id ask.id)
      where
        of_case : ((same_task other.id ask.id ≡ true) × (other.id ≡ ask.id)) ⊎ ((same_task other.id ask.id ≡ false) × (other.id ≢ ask.id)) → after_taking (clock h) t (Some (asks.Scroll other)) ask.id (Some c) ≡ Some c
        of_case (inl (is_one, same)) =
            let found = free (asks.Scroll other) refl other refl in
            let both : Some found.0 ≡ Some c = sym found.1 ∙ ap (λ id. context_at (scripted script) id h) same ∙ at in
            let one : found.0 ≡ c = cc in
            let busy : is_busy c ≡ true = ap is_some b in
            absurd (let f : true ≡ false = sym busy ∙ ap is_busy (sym one) ∙ found.2 in cc)
        of_case (inr (differs, apart)) = rw differs refl

    -- who used its context before still does
    still_uses : (u : TaskId) (ask : ScrollAsk) → Shows u ask (context_at (scripted script) ask.id h) → Shows u ask (makes ask.id (context_at (scripted script) ask.id h))
    still_uses u ask was = (was.0, ap (makes ask.id) was.1 ∙ leaves_it request usable u ask was.0 was.1 was.2, was.2)

    taken_sound : (id : TaskId) (c : Context) → makes id (context_at (scripted script) id h) ≡ Some c → Sound c
    taken_sound id c e = sound_were cluster corpus script h tables p id c (taken_there (clock h) t request id (context_at (scripted script) id h) c e)

    -- it shows what stood
    page_sound : (o : Option Request) (c : Context) → asked_page (λ id. context_at (scripted script) id h) o ≡ Some c → IsWithin cluster corpus script h c
    page_sound None c e = absurd (cc)
    page_sound (Some (asks.Search ask)) c e = absurd (cc)
    page_sound (Some (asks.Query ask)) c e = absurd (cc)
    page_sound (Some (asks.Fetch ask)) c e = absurd (cc)
    page_sound (Some (asks.Reindex ask)) c e = absurd (cc)
    page_sound (Some (asks.Slice ask)) c e = absurd (cc)
    page_sound (Some (asks.Bulk ask)) c e = absurd (cc)
    page_sound (Some (asks.BulkShard ask)) c e = absurd (cc)
    page_sound (Some (asks.Scroll ask)) c e = p.within ask.id c e

    module _ (after : List (FinMap task_id_cmp Context)) (many : length after ≡ length tables) (tables_are : (id : TaskId) → context_in after id ≡ makes id (context_in tables id)) where
      pub rooted_pages : (k : ℕ) → (scripted script).root k h ≡ request → MayTakeFree (scripted script) ((scripted script).root k h) h → Allowed cluster (Root k t) h → Paging cluster corpus script (Root k t ∷ h) after
      rooted_pages k asked may a =
          changed cluster corpus script h tables p (Root k t) after makes (λ id. ap (λ o. after_taking (clock h) t o id (context_at (scripted script) id h)) asked) many tables_are taken_sound page used
          (owning_after cluster (scripted script) h lawful p.owns (Root k t) a may) (stands_free asked, p.alone)
        where
          page : (u : TaskId) (c : Context) → page_of (scripted script) u (Root k t ∷ h) ≡ Some c → IsWithin cluster corpus script h c
          page u c e = by_test (same_task u t) (λ same. page_sound ((scripted script).root k h) c (rw same at e)) (λ other. p.page_within u c (rw other at e))

          used : (u : TaskId) (ask : ScrollAsk) → is_live u (Root k t ∷ h) ≡ true → is_new u h ≡ false → request_of (scripted script) u (Root k t ∷ h) ≡ Some (asks.Scroll ask) → Shows u ask (makes ask.id (context_at (scripted script) ask.id h))
          used u ask l n r = of_case (same_task_tells u t)
            where
              of_case : ((same_task u t ≡ true) × (u ≡ t)) ⊎ ((same_task u t ≡ false) × (u ≢ t)) → Shows u ask (makes ask.id (context_at (scripted script) ask.id h))
              of_case (inl (is_one, same)) =
                  let mine : request ≡ Some (asks.Scroll ask) = sym asked ∙ (rw is_one at r) in
                  subst (λ v. Shows v ask (makes ask.id (context_at (scripted script) ask.id h))) (sym same) (uses_it request usable ask mine)
              of_case (inr (differs, apart)) = still_uses u ask (p.used u ask (rw differs at l) n (rw differs at r))

      pub passed_pages : request_of (scripted script) t h ≡ request → Allowed cluster (Pass t) h → Paging cluster corpus script (Pass t ∷ h) after
      passed_pages asked a =
          changed cluster corpus script h tables p (Pass t) after makes (λ id. ap (λ o. after_taking (clock h) t o id (context_at (scripted script) id h)) asked) many tables_are taken_sound page used
          (owning_after cluster (scripted script) h lawful p.owns (Pass t) a tt) (stands_free asked, p.alone)
        where
          page : (u : TaskId) (c : Context) → page_of (scripted script) u (Pass t ∷ h) ≡ Some c → IsWithin cluster corpus script h c
          page u c e = by_test (same_task u t) (λ same. page_sound (request_of (scripted script) u h) c (rw same at e)) (λ other. p.page_within u c (rw other at e))

          used : (u : TaskId) (ask : ScrollAsk) → is_live u h ≡ true → is_new u (Pass t ∷ h) ≡ false → request_of (scripted script) u h ≡ Some (asks.Scroll ask) → Shows u ask (makes ask.id (context_at (scripted script) ask.id h))
          used u ask l n r = of_case (same_task_tells u t)
            where
              of_case : ((same_task u t ≡ true) × (u ≡ t)) ⊎ ((same_task u t ≡ false) × (u ≢ t)) → Shows u ask (makes ask.id (context_at (scripted script) ask.id h))
              of_case (inl (is_one, same)) =
                  let mine : request ≡ Some (asks.Scroll ask) = sym asked ∙ ap (λ v. request_of (scripted script) v h) (sym same) ∙ r in
                  subst (λ v. Shows v ask (makes ask.id (context_at (scripted script) ask.id h))) (sym same) (uses_it request usable ask mine)
              of_case (inr (differs, apart)) = still_uses u ask (p.used u ask l (rw differs at n) r)

  -- what a child asks for is usable when it passes
  pub child_usable : (t : TaskId) → is_live t h ≡ true → is_new t h ≡ true → (request : Option Request) → request_of (scripted script) t h ≡ request → (r : Request) → request ≡ Some r → IsUsable r
  child_usable t live first request is r some ask page =
      let finds = finds_free cluster (scripted script) h lawful p.owns t live first ask (is ∙ some ∙ ap Some page) in
      (finds.stands.context, finds.stands.there, ap is_some finds.free)

  -- ---- a task ends

  module _ (t : TaskId) (reply : Reply) (a : Allowed cluster (End t reply) h) where
    live : is_live t h ≡ true
    live = a.goes_on.live

    abbrev ends : TaskId → Option Context → Option Context
    ends id o = without_owned t (after_end (clock h) t (request_of (scripted script) t h) reply id o)

    -- a search opens another context than one that stands
    opens_another : (found : Reply) (ask : SearchAsk) (id : TaskId) (c : Context) → context_at (scripted script) id h ≡ Some c → after_end (clock h) t (Some (asks.Search ask)) found id (Some c) ≡ Some c
    opens_another (Top top) ask id c at = refl
    opens_another (Hits hits) ask id c at = refl
    opens_another (Wrote counts) ask id c at = refl
    opens_another (AllFailed failed) ask id c at = refl
    opens_another (Cancelled task cancel counts) ask id c at = refl
    opens_another (Rejected node) ask id c at = refl
    opens_another (Search found) ask id c at = of_case (same_task_tells t id)
      where
        of_case : ((same_task t id ≡ true) × (t ≡ id)) ⊎ ((same_task t id ≡ false) × (t ≢ id)) → after_end (clock h) t (Some (asks.Search ask)) (Search found) id (Some c) ≡ Some c
        of_case (inl (is_one, same)) =
            let ended : has_ended t h ≡ true = ap (λ u. has_ended u h) same ∙ stands_ended (scripted script) id h c at in
            absurd (let f : true ≡ false = sym ended ∙ (ask_facts cluster h lawful).live_or_ended t live in cc)
        of_case (inr (differs, apart)) = rw differs refl

    -- a page gives back another than one that another task uses
    returns_another : (mine : ScrollAsk) → request_of (scripted script) t h ≡ Some (asks.Scroll mine) → (u id : TaskId) (c : Context) → same_task u t ≡ false → context_at (scripted script) id h ≡ Some c → c.busy ≡ Some u
        → after_end (clock h) t (Some (asks.Scroll mine)) reply id (Some c) ≡ Some c
    returns_another mine asks_it u id c other at b = of_case (same_task_tells mine.id id)
      where
        of_case : ((same_task mine.id id ≡ true) × (mine.id ≡ id)) ⊎ ((same_task mine.id id ≡ false) × (mine.id ≢ id)) → after_end (clock h) t (Some (asks.Scroll mine)) reply id (Some c) ≡ Some c
        of_case (inl (is_one, same)) =
            let used = p.used t mine live a.goes_on.passed asks_it in
            let one : used.0 ≡ c = one_context used.0 c (sym used.1 ∙ ap (λ x. context_at (scripted script) x h) same ∙ at) in
            let is : t ≡ u = one_user t u (sym used.2 ∙ ap (λ x. x.busy) one ∙ b) in
            absurd (let f : true ≡ false = sym (ap (λ x. same_task x t) (sym is) ∙ itself t) ∙ other in cc)
        of_case (inr (differs, apart)) = rw differs refl

    leaves_used : (o : Option Request) → request_of (scripted script) t h ≡ o → (u id : TaskId) (c : Context) → same_task u t ≡ false → context_at (scripted script) id h ≡ Some c → c.busy ≡ Some u → after_end (clock h) t o reply id (Some c) ≡ Some c
    leaves_used None r u id c other at b = refl
    leaves_used (Some (asks.Query ask)) r u id c other at b = refl
    leaves_used (Some (asks.Fetch ask)) r u id c other at b = refl
    leaves_used (Some (asks.Reindex ask)) r u id c other at b = refl
    leaves_used (Some (asks.Slice ask)) r u id c other at b = refl
    leaves_used (Some (asks.Bulk ask)) r u id c other at b = refl
    leaves_used (Some (asks.BulkShard ask)) r u id c other at b = refl
    leaves_used (Some (asks.Search ask)) r u id c other at b = opens_another reply ask id c at
    leaves_used (Some (asks.Scroll mine)) r u id c other at b = returns_another mine r u id c other at b

    -- what is used stays where its owner ends
    used_stays : (u : TaskId) (c : Context) → c.busy ≡ Some u → without_owned t (Some c) ≡ Some c
    used_stays u c b = let busy : is_some c.busy ≡ true = ap is_some b in by_test (is_owned_by (Some t) c) (λ owned. rw (owned, busy) refl) (λ other. rw other refl)

    ended_used : (u : TaskId) (ask : ScrollAsk) → is_live u (End t reply ∷ h) ≡ true → is_new u h ≡ false → request_of (scripted script) u h ≡ Some (asks.Scroll ask) → Shows u ask (ends ask.id (context_at (scripted script) ask.id h))
    ended_used u ask l n r =
        by_test (same_task u t)
        (λ same. absurd (let f : false ≡ true = rw same at l in cc))
        (λ other.
        let was = p.used u ask (rw other at l) n r in
        (was.0, ap (ends ask.id) was.1 ∙ ap (without_owned t) (leaves_used (request_of (scripted script) t h) refl u ask.id was.0 other was.1 was.2) ∙ used_stays u was.0 was.2, was.2))

    -- what a good reply of a search has read can be kept, and was written
    abbrev pub ReadsWell : Type 0
    ReadsWell = (ask : SearchAsk) (found : SearchReply) → request_of (scripted script) t h ≡ Some (asks.Search ask) → reply ≡ Search found → (c : Context) → c.shards ≡ found.shards → c.ask ≡ ask → Sound c

    pub ended_pages : (after : List (FinMap task_id_cmp Context)) → ReadsWell → length after ≡ length tables → ((id : TaskId) → context_in after id ≡ ends id (context_in tables id)) → Paging cluster corpus script (End t reply ∷ h) after
    ended_pages after reads many tables_are =
        changed cluster corpus script h tables p (End t reply) after ends (λ id. refl) many tables_are
        (λ id c e. of_end id c (ended_there (clock h) t (request_of (scripted script) t h) reply id (context_at (scripted script) id h) c
        (left_owned t (after_end (clock h) t (request_of (scripted script) t h) reply id (context_at (scripted script) id h)) c e)))
        (λ u c shown. p.page_within u c shown) ended_used (owning_after cluster (scripted script) h lawful p.owns (End t reply) a tt) p.alone
      where
        of_end : (id : TaskId) (c : Context) → IsOpened (clock h) t (request_of (scripted script) t h) reply id c ⊎ WasThere (context_at (scripted script) id h) c → Sound c
        of_end id c (inl (ask, found, asks_it, good, same, is)) = reads ask found asks_it good c (ap (λ x. x.shards) is) (ap (λ x. x.ask) is)
        of_end id c (inr was) = sound_were cluster corpus script h tables p id c was
