-- In a run each page finds its context free: a slice asks for pages of its own context alone, one after the other.
use Rattle.std.proofs.Common.{◌≡◌, ◌⊎◌, inl, inr, ◌+◌, ◌-◌, ◌%◌, ◌≤◌, ◌<◌, ℕ, zero, suc, Bool, true, false, List, [], ◌∷◌, length, Option, Some, None, refl, sym, ap, subst, ◌∙◌, arith}
use Rattle.std.specs.Option.{option_map_or}
use Rattle.std.specs.Prelude.{◌==◌, IsSomeAnd, is_some, option_and_then}
use Rattle.std.proofs.lemmas.Bool.{cases_lt}
use Rattle.std.proofs.lemmas.Bool.Decides.{nat_tests}
use Rattle.task_ids.specs.declared.cluster.Cluster.{Cluster}
use Rattle.task_ids.specs.declared.corpus.Corpus.{Corpus}
use Rattle.task_ids.specs.declared.doc.Doc.{Doc}
use Rattle.task_ids.specs.declared.task_id.TaskId.{TaskId}
use Rattle.task_events.specs.declared.event.Event.{Event}
use Rattle.task_events.specs.declared.event.Event.TheVariants.{Answered, Ask, Pass, Root}
use Rattle.task_events.specs.declared.request.ReindexAsk.{ReindexAsk}
use Rattle.task_events.specs.declared.request.Request.{Request}
use Rattle.task_events.specs.declared.request.Request.TheVariants as asks
use Rattle.task_events.specs.declared.request.ScrollAsk.{ScrollAsk}
use Rattle.task_events.specs.declared.request.SearchAsk.{SearchAsk}
use Rattle.task_events.specs.declared.step.Do.TheVariants.{AskNext}
use Rattle.task_events.specs.Asks.{is_unanswered, last_ask, request_of_ask}
use Rattle.task_events.specs.Clock.{clock}
use Rattle.task_events.specs.Contexts.{context_at, is_busy}
use Rattle.task_events.specs.Kind.{Progress}
use Rattle.task_events.specs.Kinds.{kind_of}
use Rattle.task_events.specs.Lawful.{Lawful}
use Rattle.task_events.specs.Requests.{Scripted, request_of}
use Rattle.task_events.specs.SliceTask.{answer_at, bulk_of, context_in, docs_on, first_page, later_page, slice_step}
use Rattle.task_events.specs.Steps.{asked_by, came_by, planned_step, progress_of}
use Rattle.task_events.specs.Written.{corpus_at}
use Rattle.script_lang.specs.declared.command.Script.{Script}
use Rattle.command_roots.specs.Roots.{scripted}
use Rattle.task_laws.proofs.Asks.{ask_facts}
use Rattle.task_laws.proofs.Same.{same_tests}
use Rattle.world_moves.specs.Owning.{AsksForOwn, FindsFree, IsSearchOf, LeavesOwned, MayAskOwn, OneAtATime, Owning}
use Rattle.world_moves.proofs.OwningAfter.{owning_after}
use Rattle.world_moves.proofs.OwnPages.{finds_free}
use Rattle.write_laws.specs.KindsAsked.{is_part, is_slice, may_ask, reads_shard}
use Rattle.write_laws.proofs.AsksByKind.{asks_only}
use Rattle.write_laws.proofs.ChildAsks.{asks_made}
use Rattle.write_laws.proofs.EachAsk.{each_ask}
use Rattle.write_laws.proofs.OwnSearches.{cut_asks_slices, first_search, search_asked}
use Rattle.write_laws.proofs.PagesAsked.{AsksPage, first_names, page_search, page_step}
use Rattle.write_laws.proofs.Pasts.{IsPast, earlier}
use Rattle.write_laws.proofs.SliceAsks.{AsksNext, come_answered, newest_come, slice_asks_next}
use Rattle.write_laws.proofs.StepCases.{asks_by_plan}

-- ---- a slice asks for one thing after the other

module _ (cluster : Cluster) (corpus : Corpus) (script : Script) (p : TaskId) (request : Request) (ask : ReindexAsk) (slice : ℕ)
    (does : (made : Corpus) (q : Progress) (now : ℕ) → (kind_of request).step cluster made p q now ≡ slice_step p ask slice cluster.shards q.asked q.came now) where
  abbrev said : Scripted
  said = scripted script

  own_step : (h : List Event) (child : Request) → planned_step cluster corpus said p request h ≡ AskNext child → slice_step p ask slice cluster.shards (asked_by p h) (came_by p h) (clock h) ≡ AskNext child
  own_step h child step = sym (does (corpus_at corpus said h) (progress_of cluster corpus said p request h) (clock h)) ∙ step

  next_ask : (h : List Event) (child : Request) → planned_step cluster corpus said p request h ≡ AskNext child → AsksNext ask (length (asked_by p h)) (answer_at (asked_by p h) (length (asked_by p h) - 1)) child
  next_ask h child step = slice_asks_next p ask slice cluster.shards (asked_by p h) (came_by p h) (clock h) child (own_step h child step)

  -- where it asks for something, its last ask is answered
  last_closed : (h : List Event) → Lawful cluster h → (child : Request) → planned_step cluster corpus said p request h ≡ AskNext child → 1 ≤ last_ask p h → is_unanswered p (last_ask p h) h ≡ false
  last_closed h l child step some =
      let made = asks_made cluster p h l in
      let newest = (next_ask h child step).answered (omega (arith, made, some)) in
      (come_answered p h (last_ask p h) newest.0 (newest_come cluster p h l newest.0 newest.1)).0

  -- the ask before an ask is answered
  abbrev BeforeClosed : List Event → ℕ → Type 0
  BeforeClosed h k = (k ≤ last_ask p h) × (2 ≤ k → is_unanswered p (k - 1) h ≡ false)

  closed_on : (e : Event) (h : List Event) → Lawful cluster (e ∷ h) → (k : ℕ) → request_of_ask p k (e ∷ h) ≡ request_of_ask p k h → BeforeClosed h k → BeforeClosed (e ∷ h) k
  closed_on (Ask q j n r) h l k same before = (grind (arith, same_tests, l.0.next, before.0), λ two. let was = before.1 two in grind (arith, same_tests, l.0.next, before.0, was))
  closed_on (Answered q j) h l k same before = (before.0, λ two. let was = before.1 two in grind (arith, same_tests, was))
  closed_on _ h l k same before = before

  closed_new : (h : List Event) (k n : ℕ) (child : Request) → Lawful cluster (Ask p k n child ∷ h) → k ≡ last_ask p h + 1 → planned_step cluster corpus said p request h ≡ AskNext child → BeforeClosed (Ask p k n child ∷ h) k
  closed_new h k n child l number step = (grind (arith, same_tests), λ two. closed two)
    where
      closed : 2 ≤ k → is_unanswered p (k - 1) (Ask p k n child ∷ h) ≡ false
      closed two =
          let last : k - 1 ≡ last_ask p h = omega (arith, number) in
          let was : is_unanswered p (k - 1) h ≡ false = ap (λ m. is_unanswered p m h) last ∙ last_closed h l.1 child step (omega (arith, number, two)) in
          grind (arith, same_tests, was, two)

  module _ (h : List Event) (past : IsPast cluster corpus script h) (asked : request_of said p h ≡ Some request) (child : Request) (step : planned_step cluster corpus said p request h ≡ AskNext child) where
    -- so all asks before it are answered
    all_closed : 1 ≤ last_ask p h → (j : ℕ) → is_unanswered p j h ≡ false
    all_closed some zero = (ask_facts cluster h past.lawful).first_ask p
    all_closed some (suc j) = by_number (cases_lt (last_ask p h) (suc j)) (cases_lt (suc j) (last_ask p h))
      where
        by_number : (last_ask p h < suc j) ⊎ (suc j ≤ last_ask p h) → (suc j < last_ask p h) ⊎ (last_ask p h ≤ suc j) → is_unanswered p (suc j) h ≡ false
        by_number (inl more) least = (ask_facts cluster h past.lawful).not_asked p (suc j) more
        by_number (inr within) (inr last) = ap (λ m. is_unanswered p m h) (let e : suc j ≡ last_ask p h = omega (arith, within, last) in e) ∙ last_closed h past.lawful child step some
        by_number (inr within) (inl less) =
            ap (λ m. is_unanswered p m h) (let e : suc j ≡ suc (suc j) - 1 = omega arith in e)
            ∙ (each_ask cluster corpus said p request BeforeClosed closed_on closed_new h past.lawful past.planned asked (suc (suc j)) (omega arith) (omega (arith, less))).1 (omega arith)

    next_page : AsksPage p ask slice cluster.shards (length (asked_by p h)) (answer_at (asked_by p h) 0) child
    next_page = page_step p ask slice cluster.shards (asked_by p h) (came_by p h) (clock h) child (own_step h child step)

    made : length (asked_by p h) ≡ last_ask p h
    made = asks_made cluster p h past.lawful

    -- the context of its pages is that of its own search
    own_search : (context : TaskId) → 1 ≤ last_ask p h → option_and_then context_in (answer_at (asked_by p h) 0) ≡ Some context → IsSearchOf said p context h
    own_search context some names =
        let first = first_search cluster corpus script h past p request ask slice does asked context some (first_names cluster p h past.lawful context names) in
        let f = ask_facts cluster h past.lawful in
        record {
          ask = page_search p ask slice cluster.shards;
          found = first.0;
          parent = grind (arith, same_tests, f.child_knows p 1 context, first.1);
          asked = search_asked cluster corpus script h past p request ask slice does asked context first.1 some;
          own = refl;
          ended = first.2;
        }

    -- the first page opens a context of its own
    begins_own : child ≡ first_page p ask slice cluster.shards → MayAskOwn said p child h
    begins_own is = let low = ask.batch_in_range.0 in subst (λ r. MayAskOwn said p r h) (sym is) (record { own = refl; no_keep = refl; from = refl; some = grind (arith, nat_tests, low) })

    bulk_own : (docs : List Doc) → child ≡ bulk_of ask docs → MayAskOwn said p child h
    bulk_own docs is = subst (λ r. MayAskOwn said p r h) (sym is) tt

    later_own : (context : TaskId) → 1 ≤ last_ask p h → option_and_then context_in (answer_at (asked_by p h) 0) ≡ Some context → child ≡ later_page p context → MayAskOwn said p child h
    later_own context some names is = subst (λ r. MayAskOwn said p r h) (sym is) (record { own = refl; no_keep = refl; opened = own_search context some names }, all_closed some)

    -- what it asks for of contexts is of its own
    pub slice_asks_own : MayAskOwn said p child h
    slice_asks_own = by_made (length (asked_by p h) == 0) refl (length (asked_by p h) % 2 == 1) refl
      where
        by_made : (none : Bool) → (length (asked_by p h) == 0) ≡ none → (odd : Bool) → (length (asked_by p h) % 2 == 1) ≡ odd → MayAskOwn said p child h
        by_made true e odd f = begins_own (next_page.begins (grind (arith, nat_tests)))
        by_made false e true f = let bulk = (next_ask h child step).bulk (grind (arith, nat_tests)) in bulk_own (docs_on bulk.0) bulk.2
        by_made false e false f =
            let some : 1 ≤ length (asked_by p h) = grind (arith, nat_tests) in
            let page = next_page.goes_on some (grind (arith, nat_tests)) in
            later_own page.0 (omega (arith, some, made)) page.1 page.2

-- ---- any task

module _ (cluster : Cluster) (corpus : Corpus) (script : Script) (h : List Event) (p : TaskId) where
  -- what is no search and no page concerns no context
  neither : (child : Request) (test : Request → Bool) → test child ≡ true → ((a : SearchAsk) → test (asks.Search a) ≡ false) → ((s : ScrollAsk) → test (asks.Scroll s) ≡ false) → MayAskOwn (scripted script) p child h
  neither (asks.Search a) test passes search page = absurd (let no : true ≡ false = sym passes ∙ search a in cc)
  neither (asks.Scroll s) test passes search page = absurd (let no : true ≡ false = sym passes ∙ page s in cc)
  neither (asks.Query ask) test passes search page = tt
  neither (asks.Fetch ask) test passes search page = tt
  neither (asks.Reindex ask) test passes search page = tt
  neither (asks.Slice ask) test passes search page = tt
  neither (asks.Bulk ask) test passes search page = tt
  neither (asks.BulkShard ask) test passes search page = tt

  reindex_asks_own : IsPast cluster corpus script h → (ask : ReindexAsk) → request_of (scripted script) p h ≡ Some (asks.Reindex ask) → (child : Request) → planned_step cluster corpus (scripted script) p (asks.Reindex ask) h ≡ AskNext child → (one : Bool) → (ask.slices == 1) ≡ one
      → MayAskOwn (scripted script) p child h
  reindex_asks_own past ask asked child step true e = slice_asks_own cluster corpus script p (asks.Reindex ask) ask 0 (λ made q now. rw e refl) h past asked child step
  reindex_asks_own past ask asked child step false e = neither child is_slice (ap (asks_only is_slice) (sym step) ∙ cut_asks_slices cluster p ask e (corpus_at corpus (scripted script) h) (progress_of cluster corpus (scripted script) p (asks.Reindex ask) h) (clock h)) (λ a. refl) (λ s. refl)

  pub asks_own : IsPast cluster corpus script h → (child : Request) (o : Option Request) → request_of (scripted script) p h ≡ o → option_map_or (λ request. may_ask request child) o false ≡ true
      → ((request : Request) → o ≡ Some request → planned_step cluster corpus (scripted script) p request h ≡ AskNext child) → MayAskOwn (scripted script) p child h
  asks_own past child None asked may step = absurd (cc)
  asks_own past child (Some (asks.Search ask)) asked may step = neither child reads_shard may (λ a. refl) (λ s. refl)
  asks_own past child (Some (asks.Scroll ask)) asked may step = neither child reads_shard may (λ a. refl) (λ s. refl)
  asks_own past child (Some (asks.Query ask)) asked may step = absurd (cc)
  asks_own past child (Some (asks.Fetch ask)) asked may step = absurd (cc)
  asks_own past child (Some (asks.Bulk ask)) asked may step = neither child is_part may (λ a. refl) (λ s. refl)
  asks_own past child (Some (asks.BulkShard ask)) asked may step = absurd (cc)
  asks_own past child (Some (asks.Slice ask)) asked may step = slice_asks_own cluster corpus script p (asks.Slice ask) ask.reindex ask.slice (λ made q now. refl) h past asked child (step (asks.Slice ask) refl)
  asks_own past child (Some (asks.Reindex ask)) asked may step = reindex_asks_own past ask asked child (step (asks.Reindex ask) refl) (ask.slices == 1) refl

  for_own : (child : Request) → MayAskOwn (scripted script) p child h → AsksForOwn p child
  for_own (asks.Search ask) own = own
  for_own (asks.Scroll ask) own = tt
  for_own (asks.Query ask) own = tt
  for_own (asks.Fetch ask) own = tt
  for_own (asks.Reindex ask) own = tt
  for_own (asks.Slice ask) own = tt
  for_own (asks.Bulk ask) own = tt
  for_own (asks.BulkShard ask) own = tt

-- ---- every past

module _ (cluster : Cluster) (corpus : Corpus) (script : Script) where
  nothing_owned : Owning (scripted script) []
  nothing_owned = record {
    stands = λ owner search own goes_on. absurd (let none = own.parent in cc);
    searches = λ p k ask asked. absurd (cc);
    pages = λ p k ask asked. absurd (cc);
    alone = λ p j k one other. absurd (let none = one.asked in cc);
  }

  asked_own : (q : TaskId) (j n : ℕ) (child : Request) (h : List Event) → IsPast cluster corpus script (Ask q j n child ∷ h) → MayAskOwn (scripted script) q child h
  asked_own q j n child h past =
      let plan = past.planned in
      let keeps = past.keeps in
      asks_own cluster corpus script h q (earlier cluster corpus script (Ask q j n child) h past) child (request_of (scripted script) q h) refl keeps.0
      (λ request asked. asks_by_plan cluster corpus (scripted script) h (Ask q j n child) plan.0.0 q j n child request refl asked)

  leaves_owned : (e : Event) (h : List Event) → IsPast cluster corpus script (e ∷ h) → LeavesOwned (scripted script) e h
  leaves_owned (Ask q j n child) h past = asked_own q j n child h past
  leaves_owned (Root k t) h past = past.fit.0.1
  leaves_owned _ h past = tt

  owning : (h : List Event) → IsPast cluster corpus script h → Owning (scripted script) h
  owning [] past = nothing_owned
  owning (e ∷ h) past = let before = earlier cluster corpus script e h past in owning_after cluster (scripted script) h before.lawful (owning h before) e past.lawful.0 (leaves_owned e h past)

  -- a child that passes finds its page
  passes_free : (t : TaskId) (h : List Event) → IsPast cluster corpus script (Pass t ∷ h) → (o : Option Request) → request_of (scripted script) t h ≡ o → FindsFree (λ id. context_at (scripted script) id h) o
  passes_free t h past None asked = tt
  passes_free t h past (Some (asks.Search ask)) asked = tt
  passes_free t h past (Some (asks.Query ask)) asked = tt
  passes_free t h past (Some (asks.Fetch ask)) asked = tt
  passes_free t h past (Some (asks.Reindex ask)) asked = tt
  passes_free t h past (Some (asks.Slice ask)) asked = tt
  passes_free t h past (Some (asks.Bulk ask)) asked = tt
  passes_free t h past (Some (asks.BulkShard ask)) asked = tt
  passes_free t h past (Some (asks.Scroll ask)) asked =
      let before = earlier cluster corpus script (Pass t) h past in
      let l = past.lawful in
      let found = finds_free cluster (scripted script) h before.lawful (owning h before) t l.0.live l.0.first ask asked in
      subst (λ o. IsSomeAnd o (λ c. is_busy c ≡ false)) (sym found.stands.there) (ap is_some found.free)

  pub one_at_a_time : (h : List Event) → IsPast cluster corpus script h → OneAtATime (scripted script) h
  one_at_a_time [] past = tt
  one_at_a_time (Root k t ∷ h) past = (past.fit.0.0, one_at_a_time h (earlier cluster corpus script (Root k t) h past))
  one_at_a_time (Pass t ∷ h) past = (passes_free t h past (request_of (scripted script) t h) refl, one_at_a_time h (earlier cluster corpus script (Pass t) h past))
  one_at_a_time (Ask q j n child ∷ h) past = (for_own cluster corpus script h q child (asked_own q j n child h past), one_at_a_time h (earlier cluster corpus script (Ask q j n child) h past))
  one_at_a_time (e ∷ h) past = one_at_a_time h (earlier cluster corpus script e h past)
