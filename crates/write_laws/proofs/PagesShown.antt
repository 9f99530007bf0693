-- Which tasks show the pages of the context of a slice: its children for odd asks, one after the other.
use Rattle.std.proofs.Common.{◌≡◌, ◌⊎◌, inl, inr, ◌-◌, ◌%◌, ◌≤◌, ◌<◌, ℕ, zero, suc, Bool, true, false, List, Option, Some, None, refl, sym, ap, ◌∙◌, arith}
use Rattle.std.specs.Prelude.{◌==◌, option_and_then}
use Rattle.std.proofs.lemmas.Bool.{cases_lt}
use Rattle.std.proofs.lemmas.Bool.Decides.{nat_tests}
use Rattle.task_ids.specs.declared.cluster.Cluster.{Cluster}
use Rattle.task_ids.specs.declared.corpus.Corpus.{Corpus}
use Rattle.task_ids.specs.declared.task_id.TaskId.{TaskId}
use Rattle.task_events.specs.declared.event.Event.{Event}
use Rattle.task_events.specs.declared.reply.Reply.{Reply}
use Rattle.task_events.specs.declared.request.ReindexAsk.{ReindexAsk}
use Rattle.task_events.specs.declared.request.Request.{Request}
use Rattle.task_events.specs.declared.request.Request.TheVariants as asks
use Rattle.task_events.specs.declared.request.ScrollAsk.{ScrollAsk}
use Rattle.task_events.specs.Asks.{answer_of, answer_or, last_ask, rejection_of, request_of_ask}
use Rattle.task_events.specs.Kind.{Progress}
use Rattle.task_events.specs.Kinds.{kind_of}
use Rattle.task_events.specs.Lawful.{Lawful}
use Rattle.task_events.specs.Requests.{request_of}
use Rattle.task_events.specs.Same.{same_task}
use Rattle.task_events.specs.SliceTask.{first_page, slice_step}
use Rattle.task_events.specs.Tasks.{ask_of, child_of, has_ended, is_live, parent_of, reply_of}
use Rattle.script_lang.specs.declared.command.Script.{Script}
use Rattle.command_roots.specs.Roots.{scripted}
use Rattle.task_laws.proofs.Asks.{AskFacts, ask_facts}
use Rattle.task_laws.proofs.Content.{answer_facts}
use Rattle.task_laws.proofs.Counts.{is_child_of}
use Rattle.task_laws.proofs.Same.{same_tests}
use Rattle.world_steps.specs.PagesFollow.{is_of_context}
use Rattle.write_laws.proofs.ByChild.{no_child_of_0}
use Rattle.write_laws.proofs.ChildAsks.{child_request}
use Rattle.write_laws.proofs.ContextOwners.{shown_by_child}
use Rattle.write_laws.proofs.OwnSearches.{bulk_asked, page_asked, search_asked}
use Rattle.write_laws.proofs.Pasts.{IsPast}
use Rattle.write_laws.proofs.SliceAsks.{asks_said}

-- a child was put for an ask that was made
pub child_within : (cluster : Cluster) (h : List Event) → Lawful cluster h → (t : TaskId) (j : ℕ) (u : TaskId) → child_of t j h ≡ Some u → (1 ≤ j) × (j ≤ last_ask t h)
child_within cluster h l t zero u put = absurd (let none : None ≡ Some u = sym (no_child_of_0 cluster t h l) ∙ put in cc)
child_within cluster h l t (suc j) u put = (omega arith, by_number (cases_lt (last_ask t h) (suc j)))
  where
    by_number : (last_ask t h < suc j) ⊎ (suc j ≤ last_ask t h) → suc j ≤ last_ask t h
    by_number (inl more) = absurd (let none : None ≡ Some u = sym ((ask_facts cluster h l).no_child t (suc j) more) ∙ put in cc)
    by_number (inr within) = within

-- a live task has not replied
pub live_silent : (cluster : Cluster) (h : List Event) → Lawful cluster h → (u : TaskId) → has_ended u h ≡ false → reply_of u h ≡ None
live_silent cluster h l u live = by_reply (reply_of u h) refl
  where
    by_reply : (o : Option Reply) → reply_of u h ≡ o → o ≡ None
    by_reply None e = refl
    by_reply (Some reply) e = absurd (let no : true ≡ false = sym ((answer_facts cluster h l).reply_ended u reply e) ∙ live in cc)

-- a task is a child of another, or no child of it
pub child_or_not : (h : List Event) → AskFacts h → (t u : TaskId) → ((j : ℕ) × (child_of t j h ≡ Some u)) ⊎ ((j : ℕ) → child_of t j h ≡ Some u → ⊥)
child_or_not h f t u = by_parent (parent_of u h) refl
  where
    by_task : (q : TaskId) → parent_of u h ≡ Some q → (b : Bool) → same_task t q ≡ b → ((j : ℕ) × (child_of t j h ≡ Some u)) ⊎ ((j : ℕ) → child_of t j h ≡ Some u → ⊥)
    by_task q e true own = let mine : is_child_of t (ask_of u h) u h ≡ true = rw e (grind (arith, same_tests)) in inl (ask_of u h, f.ask_knows t (ask_of u h) u mine)
    by_task q e false other = inr (λ j put. let no : false ≡ true = grind (arith, same_tests, f.child_knows t j u, put, e, other) in cc)

    by_parent : (o : Option TaskId) → parent_of u h ≡ o → ((j : ℕ) × (child_of t j h ≡ Some u)) ⊎ ((j : ℕ) → child_of t j h ≡ Some u → ⊥)
    by_parent None e = inr (λ j put. let knows = f.child_knows t j u put in let no : false ≡ true = rw e at knows in cc)
    by_parent (Some q) e = by_task q e (same_task t q) refl

module _ (cluster : Cluster) (corpus : Corpus) (script : Script) (t id : TaskId) (request : Request) (ask : ReindexAsk) (slice : ℕ)
    (does : (made : Corpus) (q : Progress) (now : ℕ) → (kind_of request).step cluster made t q now ≡ slice_step t ask slice cluster.shards q.asked q.came now)
    (h : List Event) (past : IsPast cluster corpus script h) (asked : request_of (scripted script) t h ≡ Some request) where
  facts : AskFacts h
  facts = ask_facts cluster h past.lawful

  -- where an ask has no answer, it is the last one
  pub unanswered_last : (j : ℕ) → 1 ≤ j → j ≤ last_ask t h → ((reply : Reply) → answer_of t j h ≡ Some reply → ⊥) → j ≡ last_ask t h
  unanswered_last j low high none = by_number (cases_lt j (last_ask t h))
    where
      by_number : (j < last_ask t h) ⊎ (last_ask t h ≤ j) → j ≡ last_ask t h
      by_number (inl more) =
          let told = (asks_said cluster corpus (scripted script) t request ask slice does h past.lawful past.planned asked (suc j) (omega arith) (omega (arith, more))).answered (omega (arith, low)) in
          absurd (none told.0 (ap (λ m. answer_of t m h) (let e : j ≡ suc j - 1 = omega arith in e) ∙ told.1))
      by_number (inr last) = omega (arith, high, last)

  -- the child that is live was put for the last ask
  pub live_last : (j : ℕ) (u : TaskId) → child_of t j h ≡ Some u → is_live u h ≡ true → j ≡ last_ask t h
  live_last j u put live = let within = child_within cluster h past.lawful t j u put in unanswered_last j within.0 within.1 (λ reply told. unanswered reply (rejection_of t j h) refl told)
    where
      unanswered : (reply : Reply) (o : Option ℕ) → rejection_of t j h ≡ o → answer_or o (option_and_then (λ c. reply_of c h) (child_of t j h)) ≡ Some reply → ⊥
      unanswered reply (Some n) rejected told = let none : None ≡ Some u = sym ((answer_facts cluster h past.lawful).rejected_put t j n rejected).1 ∙ put in cc
      unanswered reply None rejected told =
          let none : None ≡ Some reply = sym (live_silent cluster h past.lawful u (facts.live_or_ended u live)) ∙ sym (ap (option_and_then (λ c. reply_of c h)) put) ∙ told in
          cc

  module _ (first : child_of t 1 h ≡ Some id) where
    some : 1 ≤ last_ask t h
    some = (child_within cluster h past.lawful t 1 id first).1

    is_search : request_of (scripted script) id h ≡ Some (first_page t ask slice cluster.shards)
    is_search = search_asked cluster corpus script h past t request ask slice does asked id first some

    -- the children for odd asks show pages of the context, and the others do not
    pub child_shows : (j : ℕ) (u : TaskId) → child_of t j h ≡ Some u → is_of_context id u (request_of (scripted script) u h) ≡ (j % 2 == 1)
    child_shows j u put = let within = child_within cluster h past.lawful t j u put in by_parity within.0 within.1 (j % 2 == 1) refl (j == 1) refl
      where
        made : request_of (scripted script) u h ≡ request_of_ask t j h
        made = child_request cluster corpus (scripted script) h past.lawful t j u put

        by_parity : 1 ≤ j → j ≤ last_ask t h → (odd : Bool) → (j % 2 == 1) ≡ odd → (one : Bool) → (j == 1) ≡ one → is_of_context id u (request_of (scripted script) u h) ≡ odd
        by_parity low high false e one f =
            let bulk = bulk_asked cluster corpus script h past t request ask slice does asked j low high (grind (arith, nat_tests)) in
            ap (is_of_context id u) (made ∙ bulk.1)
        by_parity low high true e true f =
            let number : j ≡ 1 = grind (arith, nat_tests) in
            let both : Some u ≡ Some id = sym put ∙ ap (λ k. child_of t k h) number ∙ first in
            let same : u ≡ id = cc in
            ap (is_of_context id u) (ap (λ x. request_of (scripted script) x h) same ∙ is_search) ∙ grind (arith, same_tests)
        by_parity low high true e false f =
            let later : 2 ≤ j = grind (arith, nat_tests, low) in
            let page = page_asked cluster corpus script h past t request ask slice does asked j later high (grind (arith, nat_tests)) in
            let both : Some page.0 ≡ Some id = sym page.1 ∙ first in
            let same : page.0 ≡ id = cc in
            ap (is_of_context id u) (made ∙ page.2) ∙ grind (arith, same_tests)

    -- no other task does
    pub others_show_none : (u : TaskId) → ((j : ℕ) → child_of t j h ≡ Some u → ⊥) → is_of_context id u (request_of (scripted script) u h) ≡ false
    others_show_none u other = by_request (request_of (scripted script) u h) refl
      where
        of_search : (b : Bool) → same_task u id ≡ b → b ≡ false
        of_search false e = refl
        of_search true e = absurd (let same : u ≡ id = grind (arith, same_tests) in other 1 (first ∙ ap Some (sym same)))

        of_page : (s : ScrollAsk) → request_of (scripted script) u h ≡ Some (asks.Scroll s) → (b : Bool) → same_task s.id id ≡ b → b ≡ false
        of_page s made false e = refl
        of_page s made true e =
            let shows : s.id ≡ id = grind (arith, same_tests) in
            let shown = shown_by_child cluster corpus script h past u id t s _ made shows is_search refl in
            let own : is_child_of t (ask_of u h) u h ≡ true = grind (arith, same_tests, shown.1, first, shown.2, facts.child_knows shown.0 1 id, facts.child_knows t 1 id) in
            absurd (other (ask_of u h) (facts.ask_knows t (ask_of u h) u own))

        by_request : (o : Option Request) → request_of (scripted script) u h ≡ o → is_of_context id u o ≡ false
        by_request None made = refl
        by_request (Some (asks.Query q)) made = refl
        by_request (Some (asks.Fetch q)) made = refl
        by_request (Some (asks.Reindex q)) made = refl
        by_request (Some (asks.Slice q)) made = refl
        by_request (Some (asks.Bulk q)) made = refl
        by_request (Some (asks.BulkShard q)) made = refl
        by_request (Some (asks.Search q)) made = of_search (same_task u id) refl
        by_request (Some (asks.Scroll q)) made = of_page q made (same_task q.id id) refl
