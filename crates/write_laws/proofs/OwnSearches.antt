-- A task asks for the pages of one context alone: that which its own first search has opened.
use Rattle.std.proofs.Common.{◌≡◌, ◌%◌, ◌≤◌, ℕ, Bool, true, false, List, Option, Some, None, refl, sym, ap, ◌∙◌, arith}
use Rattle.std.specs.Prelude.{◌==◌, option_and_then, option_map}
use Rattle.std.proofs.lemmas.Bool.Decides.{nat_tests}
use Rattle.task_ids.specs.declared.cluster.Cluster.{Cluster}
use Rattle.task_ids.specs.declared.corpus.Corpus.{Corpus}
use Rattle.task_ids.specs.declared.task_id.TaskId.{TaskId}
use Rattle.task_events.specs.declared.event.Event.{Event}
use Rattle.task_events.specs.declared.reply.Reply.{Reply}
use Rattle.task_events.specs.declared.reply.Reply.TheVariants as replies
use Rattle.task_events.specs.declared.reply.SearchReply.{SearchReply}
use Rattle.task_events.specs.declared.request.ReindexAsk.{ReindexAsk}
use Rattle.task_events.specs.declared.request.Request.{Request}
use Rattle.task_events.specs.declared.request.Request.TheVariants as asks
use Rattle.task_events.specs.declared.request.ScrollAsk.{ScrollAsk}
use Rattle.task_events.specs.declared.request.SliceAsk.{SliceAsk}
use Rattle.task_events.specs.Asks.{answer_of, answer_or, last_ask, rejection_of, request_of_ask}
use Rattle.task_events.specs.Kind.{Progress}
use Rattle.task_events.specs.Kinds.{kind_of}
use Rattle.task_events.specs.Requests.{request_of}
use Rattle.task_events.specs.SearchTask.{ask_or_end}
use Rattle.task_events.specs.Searches.{are_answered}
use Rattle.task_events.specs.SliceTask.{bulk_of, context_in, docs_on, first_page, later_page, slice_step}
use Rattle.task_events.specs.Slicing.{slice_at}
use Rattle.task_events.specs.Tasks.{ask_of, child_of, parent_of, reply_of}
use Rattle.script_lang.specs.declared.command.Script.{Script}
use Rattle.command_roots.specs.Roots.{scripted}
use Rattle.world_moves.proofs.Children.{child_request as request_by_ask}
use Rattle.world_moves.proofs.ContextsNamed.{named}
use Rattle.write_laws.specs.KindsAsked.{is_slice}
use Rattle.write_laws.proofs.AsksByKind.{asks_only}
use Rattle.write_laws.proofs.ByKind.{child_kind, may_have_asked}
use Rattle.write_laws.proofs.ChildAsks.{child_request}
use Rattle.write_laws.proofs.EachAsk.{asked_only, asked_within}
use Rattle.write_laws.proofs.PagesAsked.{PageSaid, page_said}
use Rattle.write_laws.proofs.Pasts.{IsPast}
use Rattle.write_laws.proofs.SliceAsks.{asks_said}

cut_asks : (o : Option SliceAsk) (answered : Bool) (reply : Reply) → asks_only is_slice (ask_or_end (option_map asks.Slice o) answered reply) ≡ true
cut_asks (Some s) answered reply = refl
cut_asks None true reply = refl
cut_asks None false reply = refl

-- a reindex with more slices than one asks for slices alone
pub cut_asks_slices : (cluster : Cluster) (t : TaskId) (ask : ReindexAsk) → (ask.slices == 1) ≡ false → (made : Corpus) (q : Progress) (now : ℕ) → asks_only is_slice ((kind_of (asks.Reindex ask)).step cluster made t q now) ≡ true
cut_asks_slices cluster t ask e made q now = rw e (cut_asks (slice_at ask _) (are_answered q.asked) _)

-- the reply names a context, so it shows a page
names_page : (reply : Reply) (context : TaskId) → context_in reply ≡ Some context → (found : SearchReply) × (reply ≡ replies.Search found) × (found.context ≡ Some context)
names_page (replies.Search found) context e = (found, refl, e)
names_page (replies.Top top) context e = absurd (cc)
names_page (replies.Hits hits) context e = absurd (cc)
names_page (replies.AllFailed failed) context e = absurd (cc)
names_page (replies.Wrote counts) context e = absurd (cc)
names_page (replies.Cancelled t c counts) context e = absurd (cc)
names_page (replies.Rejected n) context e = absurd (cc)

module _ (cluster : Cluster) (corpus : Corpus) (script : Script) (h : List Event) (past : IsPast cluster corpus script h) (p : TaskId) where
  -- ---- a task that does the work of a slice

  module _ (request : Request) (ask : ReindexAsk) (slice : ℕ) (does : (made : Corpus) (q : Progress) (now : ℕ) → (kind_of request).step cluster made p q now ≡ slice_step p ask slice cluster.shards q.asked q.came now)
      (asked : request_of (scripted script) p h ≡ Some request) where
    said_at : (k : ℕ) → 1 ≤ k → k ≤ last_ask p h → PageSaid cluster corpus (scripted script) p request ask slice does h k
    said_at = page_said cluster corpus (scripted script) p request ask slice does h past.lawful past.planned asked

    -- the child of its first ask is the search
    pub search_asked : (u : TaskId) → child_of p 1 h ≡ Some u → 1 ≤ last_ask p h → request_of (scripted script) u h ≡ Some (first_page p ask slice cluster.shards)
    search_asked u put some = child_request cluster corpus (scripted script) h past.lawful p 1 u put ∙ (said_at 1 (omega arith) some).begins refl

    -- the context that its answer names is the one that it has opened
    pub first_search : (context : TaskId) → 1 ≤ last_ask p h → option_and_then context_in (answer_of p 1 h) ≡ Some context → (found : SearchReply) × (child_of p 1 h ≡ Some context) × (reply_of context h ≡ Some (replies.Search found))
    first_search context some names = by_rejection (rejection_of p 1 h) (child_of p 1 h) refl names
      where
        by_reply : (u : TaskId) → child_of p 1 h ≡ Some u → (o : Option Reply) → reply_of u h ≡ o → option_and_then context_in o ≡ Some context → (found : SearchReply) × (child_of p 1 h ≡ Some context) × (reply_of context h ≡ Some (replies.Search found))
        by_reply u put None told names = absurd (cc)
        by_reply u put (Some reply) told names =
            let page = names_page reply context names in
            let both : Some u ≡ Some context = sym (named cluster corpus script u _ page.0 h past.lawful past.plain (told ∙ ap Some page.1) (search_asked u put some)) ∙ page.2 in
            let same : u ≡ context = cc in
            (page.0, put ∙ both, ap (λ x. reply_of x h) (sym same) ∙ told ∙ ap Some page.1)

        by_rejection : (rejected : Option ℕ) (child : Option TaskId) → child_of p 1 h ≡ child → option_and_then context_in (answer_or rejected (option_and_then (λ u. reply_of u h) child)) ≡ Some context
            → (found : SearchReply) × (child_of p 1 h ≡ Some context) × (reply_of context h ≡ Some (replies.Search found))
        by_rejection (Some n) child put names = absurd (cc)
        by_rejection None None put names = absurd (cc)
        by_rejection None (Some u) put names = by_reply u put (reply_of u h) refl names

    -- its later asks for pages are for pages of that context
    pub page_asked : (k : ℕ) → 2 ≤ k → k ≤ last_ask p h → k % 2 ≡ 1 → (search : TaskId) × (child_of p 1 h ≡ Some search) × (request_of_ask p k h ≡ Some (later_page p search))
    page_asked k low high odd =
        let said = (said_at k (omega (arith, low)) high).goes_on low odd in
        (said.0, (first_search said.0 (omega (arith, low, high)) said.1).1, said.2)

    -- what it asks for by an even number is a bulk
    pub bulk_asked : (k : ℕ) → 1 ≤ k → k ≤ last_ask p h → k % 2 ≡ 0 → (reply : Reply) × (request_of_ask p k h ≡ Some (bulk_of ask (docs_on reply)))
    bulk_asked k low high even = let said = (asks_said cluster corpus (scripted script) p request ask slice does h past.lawful past.planned asked k low high).bulk even in (said.0, said.2)

    own_page : (k : ℕ) (s : ScrollAsk) → request_of_ask p k h ≡ Some (asks.Scroll s) → child_of p 1 h ≡ Some s.id
    own_page k s made = let within = asked_within cluster h past.lawful p k (asks.Scroll s) made in by_parity within.0 within.1 (k % 2 == 1) refl (k == 1) refl
      where
        by_parity : 1 ≤ k → k ≤ last_ask p h → (odd : Bool) → (k % 2 == 1) ≡ odd → (one : Bool) → (k == 1) ≡ one → child_of p 1 h ≡ Some s.id
        by_parity low high false e one f =
            let bulk = bulk_asked k low high (grind (arith, nat_tests)) in
            absurd (let no : Some (bulk_of ask (docs_on bulk.0)) ≡ Some (asks.Scroll s) = sym bulk.1 ∙ made in cc)
        by_parity low high true e true f =
            let first : k ≡ 1 = grind (arith, nat_tests) in
            absurd (let no : Some (first_page p ask slice cluster.shards) ≡ Some (asks.Scroll s) = sym ((said_at k low high).begins first) ∙ made in cc)
        by_parity low high true e false f =
            let later : 2 ≤ k = grind (arith, nat_tests, low) in
            let page = page_asked k later high (grind (arith, nat_tests)) in
            let is : Some (later_page p page.0) ≡ Some (asks.Scroll s) = sym page.2 ∙ made in
            let same : page.0 ≡ s.id = cc in
            page.1 ∙ ap Some same

  -- ---- any task

  page_of_reindex : (ask : ReindexAsk) (k : ℕ) (s : ScrollAsk) → request_of (scripted script) p h ≡ Some (asks.Reindex ask) → request_of_ask p k h ≡ Some (asks.Scroll s) → (one : Bool) → (ask.slices == 1) ≡ one → child_of p 1 h ≡ Some s.id
  page_of_reindex ask k s asked made true e = own_page (asks.Reindex ask) ask 0 (λ made q now. rw e refl) asked k s made
  page_of_reindex ask k s asked made false e =
      absurd (let no : false ≡ true = asked_only cluster corpus (scripted script) p (asks.Reindex ask) is_slice (cut_asks_slices cluster p ask e) h past.lawful past.planned asked k (asks.Scroll s) made in cc)

  pub page_is_own : (k : ℕ) (s : ScrollAsk) (o : Option Request) → request_of (scripted script) p h ≡ o → may_have_asked o (Some (asks.Scroll s)) ≡ true → request_of_ask p k h ≡ Some (asks.Scroll s) → child_of p 1 h ≡ Some s.id
  page_is_own k s None asked may made = absurd (cc)
  page_is_own k s (Some (asks.Search ask)) asked may made = absurd (cc)
  page_is_own k s (Some (asks.Scroll ask)) asked may made = absurd (cc)
  page_is_own k s (Some (asks.Query ask)) asked may made = absurd (cc)
  page_is_own k s (Some (asks.Fetch ask)) asked may made = absurd (cc)
  page_is_own k s (Some (asks.Bulk ask)) asked may made = absurd (cc)
  page_is_own k s (Some (asks.BulkShard ask)) asked may made = absurd (cc)
  page_is_own k s (Some (asks.Slice ask)) asked may made = own_page (asks.Slice ask) ask.reindex ask.slice (λ made q now. refl) asked k s made
  page_is_own k s (Some (asks.Reindex ask)) asked may made = page_of_reindex ask k s asked made (ask.slices == 1) refl

-- the page that a child shows is one of the context that the first search of its parent has opened
pub page_of_parent : (cluster : Cluster) (corpus : Corpus) (script : Script) (h : List Event) (past : IsPast cluster corpus script h) (u q : TaskId) (s : ScrollAsk) → parent_of u h ≡ Some q → request_of (scripted script) u h ≡ Some (asks.Scroll s) → child_of q 1 h ≡ Some s.id
page_of_parent cluster corpus script h past u q s parent asked =
    page_is_own cluster corpus script h past q (ask_of u h) s (request_of (scripted script) q h) refl
    (ap (may_have_asked (request_of (scripted script) q h)) (sym asked) ∙ child_kind cluster (scripted script) h past.lawful past.keeps u q parent)
    (sym (request_by_ask cluster (scripted script) u q h past.lawful parent) ∙ asked)
