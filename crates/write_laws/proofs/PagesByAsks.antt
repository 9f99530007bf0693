-- The pages of the context of a slice are those that the children for its odd asks have shown, in the order of the asks.
use Rattle.std.proofs.Common.{◌≡◌, ◌≢◌, ◌⊎◌, inl, inr, ◌%◌, ◌≤◌, ◌<◌, ℕ, zero, suc, Bool, true, false, cond, List, [], ◌∷◌, ◌++◌, append-nil, Option, Some, None, refl, sym, ap, subst, ◌∙◌, arith}
use Rattle.std.specs.List.{flat_map}
use Rattle.std.specs.Option.{option_map_or}
use Rattle.std.specs.Prelude.{◌==◌, option_and_then}
use Rattle.std.proofs.lemmas.Bool.{cases_lt}
use Rattle.task_ids.specs.declared.cluster.Cluster.{Cluster}
use Rattle.task_ids.specs.declared.corpus.Corpus.{Corpus}
use Rattle.task_ids.specs.declared.task_id.TaskId.{TaskId}
use Rattle.task_events.specs.declared.event.Event.{Event}
use Rattle.task_events.specs.declared.event.Event.TheVariants.{Ask, End, Put, Refuse, Root}
use Rattle.task_events.specs.declared.reply.Hit.{Hit}
use Rattle.task_events.specs.declared.reply.Reply.{Reply}
use Rattle.task_events.specs.declared.request.ReindexAsk.{ReindexAsk}
use Rattle.task_events.specs.declared.request.Request.{Request}
use Rattle.task_events.specs.declared.request.Request.TheVariants as asks
use Rattle.task_events.specs.declared.request.ScrollAsk.{ScrollAsk}
use Rattle.task_events.specs.Asks.{answer_or, last_ask, rejection_of, up_to}
use Rattle.task_events.specs.Kind.{Progress}
use Rattle.task_events.specs.Kinds.{kind_of}
use Rattle.task_events.specs.Lawful.{Lawful}
use Rattle.task_events.specs.Requests.{Scripted, request_of}
use Rattle.task_events.specs.Same.{same_pair, same_task}
use Rattle.task_events.specs.SliceTask.{slice_step}
use Rattle.task_events.specs.Tasks.{child_of, has_ended, is_live, is_new, last_number, reply_of}
use Rattle.script_lang.specs.declared.command.Script.{Script}
use Rattle.command_roots.specs.Roots.{scripted}
use Rattle.task_laws.proofs.Asks.{AskFacts, ask_facts, requested_live}
use Rattle.task_laws.proofs.Content.{answer_facts}
use Rattle.task_laws.proofs.InFlight.{requests_in_flight}
use Rattle.task_laws.proofs.Same.{same_pair_tells, same_task_tells, same_tests}
use Rattle.world_moves.proofs.ContextsPast.{stands_ended}
use Rattle.world_steps.specs.PagesFollow.{is_of_context, pages, shown_by}
use Rattle.world_steps.proofs.UsedAlone.{all_in_use}
use Rattle.write_laws.proofs.FlatLists.{flat_last, flats_agree, no_flat}
use Rattle.write_laws.proofs.PagesShown.{child_or_not, child_shows, child_within, live_last, live_silent, others_show_none, unanswered_last}
use Rattle.write_laws.proofs.OneAtATime.{one_at_a_time}
use Rattle.write_laws.proofs.Pasts.{IsPast, earlier}

-- what the child for an ask has replied, once it has
abbrev pub reply_at : TaskId → List Event → ℕ → Option Reply
reply_at t h k = option_and_then (λ c. reply_of c h) (child_of t k h)

-- the page that the child for an odd ask has shown, if any
abbrev pub page_at : TaskId → List Event → ℕ → List (List Hit)
page_at t h k = cond (k % 2 == 1) (option_map_or shown_by (reply_at t h k) []) []

same_page : (b : Bool) (x y : Option Reply) → x ≡ y → cond b (option_map_or shown_by x []) [] ≡ cond b (option_map_or shown_by y []) []
same_page b x y same = ap (λ o. cond b (option_map_or shown_by o []) []) same

no_page : (b : Bool) (x : Option Reply) → x ≡ None → cond b (option_map_or shown_by x []) [] ≡ []
no_page true x none = ap (λ o. option_map_or shown_by o []) none
no_page false x none = refl

-- ---- before the search exists

module _ (cluster : Cluster) (corpus : Corpus) (script : Script) (id : TaskId) where
  abbrev said : Scripted
  said = scripted script

  -- a live task shows no page of a context whose search does not exist
  unborn_context : (h : List Event) → IsPast cluster corpus script h → last_number id.node h < id.number → (u : TaskId) → is_live u h ≡ true → is_new u h ≡ false → is_of_context id u (request_of said u h) ≡ false
  unborn_context h past unborn u live passed = by_request (request_of said u h) refl
    where
      of_search : (b : Bool) → same_task u id ≡ b → b ≡ false
      of_search false e = refl
      of_search true e = absurd (let same : u ≡ id = grind (arith, same_tests) in let born = (ask_facts cluster h past.lawful).born id (ap (λ x. is_live x h) (sym same) ∙ live) in omega (arith, born, unborn))

      of_page : (s : ScrollAsk) → request_of said u h ≡ Some (asks.Scroll s) → (b : Bool) → same_task s.id id ≡ b → b ≡ false
      of_page s made false e = refl
      of_page s made true e =
          let same : s.id ≡ id = grind (arith, same_tests) in
          let used = all_in_use cluster said h past.lawful (one_at_a_time cluster corpus script h past) u s live passed made in
          let ended : has_ended id h ≡ true = ap (λ x. has_ended x h) (sym same) ∙ stands_ended said s.id h used.context used.stands in
          absurd (let no : true ≡ false = sym ended ∙ (ask_facts cluster h past.lawful).unborn_ended id unborn in cc)

      by_request : (o : Option Request) → request_of said u h ≡ o → is_of_context id u o ≡ false
      by_request None made = refl
      by_request (Some (asks.Query q)) made = refl
      by_request (Some (asks.Fetch q)) made = refl
      by_request (Some (asks.Reindex q)) made = refl
      by_request (Some (asks.Slice q)) made = refl
      by_request (Some (asks.Bulk q)) made = refl
      by_request (Some (asks.BulkShard q)) made = refl
      by_request (Some (asks.Search q)) made = of_search (same_task u id) refl
      by_request (Some (asks.Scroll q)) made = of_page q made (same_task q.id id) refl

  no_pages : (h : List Event) → IsPast cluster corpus script h → last_number id.node h < id.number → pages said id h ≡ []
  no_pages [] past unborn = refl
  no_pages (Root c u ∷ h) past unborn = no_pages h (earlier cluster corpus script (Root c u) h past) (let l = past.lawful in grind (arith, same_tests, l.0.takes.next))
  no_pages (Put u q j ∷ h) past unborn = no_pages h (earlier cluster corpus script (Put u q j) h past) (let l = past.lawful in grind (arith, same_tests, l.0.takes.next))
  no_pages (End u reply ∷ h) past unborn =
      let before = earlier cluster corpus script (End u reply) h past in
      let l = past.lawful in
      let elsewhere = unborn_context h before unborn u l.0.goes_on.live l.0.goes_on.passed in
      rw (no_pages h before unborn, elsewhere) refl
  no_pages (e ∷ h) past unborn = no_pages h (earlier cluster corpus script e h past) unborn

-- ---- from then on

module _ (cluster : Cluster) (corpus : Corpus) (script : Script) (t id : TaskId) (request : Request) (ask : ReindexAsk) (slice : ℕ)
    (does : (made : Corpus) (q : Progress) (now : ℕ) → (kind_of request).step cluster made t q now ≡ slice_step t ask slice cluster.shards q.asked q.came now) where
  abbrev IsAsker : List Event → Type 0
  IsAsker h = request_of (scripted script) t h ≡ Some request

  -- the pages that have been shown are those of the asks so far
  abbrev pub AreOfAsks : List Event → Type 0
  AreOfAsks h = pages (scripted script) id h ≡ flat_map (page_at t h) (up_to (last_ask t h))

  -- ---- a child is put

  module _ (h : List Event) (u q : TaskId) (j : ℕ) (past : IsPast cluster corpus script (Put u q j ∷ h)) where
    before_put : IsPast cluster corpus script h
    before_put = earlier cluster corpus script (Put u q j) h past

    put_facts : AskFacts h
    put_facts = ask_facts cluster h before_put.lawful

    put_silent : reply_of u h ≡ None
    put_silent = let l = past.lawful in live_silent cluster h before_put.lawful u (put_facts.unborn_ended u (omega (arith, l.0.takes.next)))

    -- the ask of a request that is in flight has no answer yet
    requested_silent : option_and_then (λ c. reply_of c h) (child_of q j h) ≡ None
    requested_silent = by_child (child_of q j h) refl
      where
        by_child : (o : Option TaskId) → child_of q j h ≡ o → option_and_then (λ c. reply_of c h) o ≡ None
        by_child None e = refl
        by_child (Some c) e = absurd (let none = put_facts.child_put q j c e in let l = past.lawful in let sent = l.0.requested in omega (arith, none, sent, requests_in_flight q j h))

    put_reply : (k : ℕ) → reply_at t (Put u q j ∷ h) k ≡ reply_at t h k
    put_reply k = by_pair (same_pair_tells t k q j)
      where
        by_pair : ((same_pair t k q j ≡ true) × (t ≡ q) × (k ≡ j)) ⊎ ((same_pair t k q j ≡ false) × (t ≡ q → k ≢ j)) → reply_at t (Put u q j ∷ h) k ≡ reply_at t h k
        by_pair (inl (one, same, number)) = rw one (put_silent ∙ sym ((λ i. option_and_then (λ c. reply_of c h) (child_of (same i) (number i) h)) ∙ requested_silent))
        by_pair (inr (other, apart)) = rw other refl

    was_asked : t.number ≤ last_number t.node h → IsAsker (Put u q j ∷ h) → IsAsker h
    was_asked born asked =
        let l = past.lawful in
        let same : request_of (scripted script) t (Put u q j ∷ h) ≡ request_of (scripted script) t h = grind (arith, same_tests, l.0.takes.next, born) in
        sym same ∙ asked

    -- the child for the first ask: nothing is shown yet, and nothing else was asked for
    put_first : IsAsker h → t ≡ q → 1 ≡ j → u ≡ id → AreOfAsks (Put u q j ∷ h)
    put_first asked own number same =
        no_pages cluster corpus script id h before_put (let l = past.lawful in subst (λ (x : TaskId). last_number x.node h < x.number) same (let next = l.0.takes.next in omega (arith, next)))
        ∙ sym (no_flat (page_at t (Put u q j ∷ h)) (last_ask t h) (λ k low high. no_page (k % 2 == 1) (reply_at t (Put u q j ∷ h) k) (put_reply k ∙ silent k low high)))
      where
        first_silent : reply_at t h 1 ≡ None
        first_silent = (λ i. option_and_then (λ c. reply_of c h) (child_of (own i) (number i) h)) ∙ requested_silent

        unanswered : (reply : Reply) (o : Option ℕ) → rejection_of t 1 h ≡ o → answer_or o (reply_at t h 1) ≡ Some reply → ⊥
        unanswered reply (Some n) rejected told =
            let l = past.lawful in
            let sent = l.0.requested in
            let none = ((answer_facts cluster h before_put.lawful).rejected_put q j n ((λ i. rejection_of (sym own i) (sym number i) h) ∙ rejected)).0 in
            omega (arith, none, sent, requests_in_flight q j h)
        unanswered reply None rejected told = let no : None ≡ Some reply = sym first_silent ∙ told in cc

        silent : (k : ℕ) → 1 ≤ k → k ≤ last_ask t h → reply_at t h k ≡ None
        silent k low high =
            let last = unanswered_last cluster corpus script t id request ask slice does h before_put asked 1 (omega arith) (omega (arith, low, high)) (λ reply told. unanswered reply (rejection_of t 1 h) refl told) in
            let one : k ≡ 1 = omega (arith, low, high, last) in
            ap (reply_at t h) one ∙ first_silent

    -- another child
    put_later : AreOfAsks h → AreOfAsks (Put u q j ∷ h)
    put_later before = before ∙ flats_agree (page_at t h) (page_at t (Put u q j ∷ h)) (last_ask t h) (λ k low high. same_page (k % 2 == 1) (reply_at t h k) (reply_at t (Put u q j ∷ h) k) (sym (put_reply k)))

  -- ---- a task leaves

  -- the replies to other asks stay
  others_reply : (h new : List Event) (u : TaskId) → ((c : TaskId) → same_task c u ≡ false → reply_of c new ≡ reply_of c h) → (k : ℕ) → (child_of t k h ≡ Some u → ⊥) → (o : Option TaskId) → child_of t k h ≡ o → option_and_then (λ c. reply_of c new) o ≡ option_and_then (λ c. reply_of c h) o
  others_reply h new u others k apart None e = refl
  others_reply h new u others k apart (Some c) e = by_case (same_task_tells c u)
    where
      by_case : ((same_task c u ≡ true) × (c ≡ u)) ⊎ ((same_task c u ≡ false) × (c ≢ u)) → reply_of c new ≡ reply_of c h
      by_case (inl (one, same)) = absurd (apart (e ∙ ap Some same))
      by_case (inr (other, differ)) = others c other

  module _ (h : List Event) (u : TaskId) (c : ℕ) (past : IsPast cluster corpus script (Refuse u c ∷ h)) where
    -- a refused child shows nothing
    refused_page : (k : ℕ) → page_at t h k ≡ page_at t (Refuse u c ∷ h) k
    refused_page k = by_child (child_of t k h) refl
      where
        silent : reply_of u h ≡ None
        silent = let l = past.lawful in live_silent cluster h l.1 u ((ask_facts cluster h l.1).live_or_ended u l.0.live)

        either_way : (b : Bool) (none : List (List Hit)) → none ≡ cond b none none
        either_way true none = refl
        either_way false none = refl

        by_task : (v : TaskId) → ((same_task v u ≡ true) × (v ≡ u)) ⊎ ((same_task v u ≡ false) × (v ≢ u))
            → cond (k % 2 == 1) (option_map_or shown_by (reply_of v h) []) [] ≡ cond (k % 2 == 1) (option_map_or shown_by (reply_of v (Refuse u c ∷ h)) []) []
        by_task v (inl (one, same)) = no_page (k % 2 == 1) (reply_of v h) (ap (λ x. reply_of x h) same ∙ silent) ∙ rw one (either_way (k % 2 == 1) [])
        by_task v (inr (other, differ)) = rw other refl

        by_child : (o : Option TaskId) → child_of t k h ≡ o
            → cond (k % 2 == 1) (option_map_or shown_by (option_and_then (λ v. reply_of v h) o) []) [] ≡ cond (k % 2 == 1) (option_map_or shown_by (option_and_then (λ v. reply_of v (Refuse u c ∷ h)) o) []) []
        by_child None e = refl
        by_child (Some v) e = by_task v (same_task_tells v u)

  -- ---- a task ends

  module _ (h : List Event) (u : TaskId) (reply : Reply) (past : IsPast cluster corpus script (End u reply ∷ h)) (asked : IsAsker h) (first : child_of t 1 h ≡ Some id) (before : AreOfAsks h) where
    before_end : IsPast cluster corpus script h
    before_end = earlier cluster corpus script (End u reply) h past

    end_facts : AskFacts h
    end_facts = ask_facts cluster h before_end.lawful

    live : is_live u h ≡ true
    live = let l = past.lawful in l.0.goes_on.live

    replies_stay : (k : ℕ) → (child_of t k h ≡ Some u → ⊥) → reply_at t (End u reply ∷ h) k ≡ reply_at t h k
    replies_stay k apart = others_reply h (End u reply ∷ h) u (λ c other. rw other refl) k apart (child_of t k h) refl

    -- another task than the children of this one
    end_other : ((j : ℕ) → child_of t j h ≡ Some u → ⊥) → AreOfAsks (End u reply ∷ h)
    end_other other =
        rw (others_show_none cluster corpus script t id request ask slice does h before_end asked first u other) (append-nil (pages (scripted script) id h)) ∙ before
        ∙ flats_agree (page_at t h) (page_at t (End u reply ∷ h)) (last_ask t h) (λ k low high. same_page (k % 2 == 1) (reply_at t h k) (reply_at t (End u reply ∷ h) k) (sym (replies_stay k (other k))))

    module _ (j : ℕ) (put : child_of t j h ≡ Some u) where
      shows : is_of_context id u (request_of (scripted script) u h) ≡ (j % 2 == 1)
      shows = child_shows cluster corpus script t id request ask slice does h before_end asked first j u put

      -- before its end it has shown nothing
      page_before : page_at t h j ≡ []
      page_before = no_page (j % 2 == 1) (reply_at t h j) (ap (option_and_then (λ c. reply_of c h)) put ∙ live_silent cluster h before_end.lawful u (end_facts.live_or_ended u live))

      page_after : page_at t (End u reply ∷ h) j ≡ cond (j % 2 == 1) (shown_by reply) []
      page_after = same_page (j % 2 == 1) (reply_at t (End u reply ∷ h) j) (Some reply) (ap (option_and_then (λ c. reply_of c (End u reply ∷ h))) put ∙ grind (arith, same_tests))

      -- it was put for this ask alone
      once : (k : ℕ) → child_of t k h ≡ Some u → k ≡ j
      once k other = grind (arith, same_tests, end_facts.child_knows t k u, end_facts.child_knows t j u, put)

      -- the child for the last ask
      end_own : AreOfAsks (End u reply ∷ h)
      end_own = by_number (last_ask t h) refl before (live_last cluster corpus script t id request ask slice does h before_end asked j u put live)
        where
          by_number : (n : ℕ) → last_ask t h ≡ n → pages (scripted script) id h ≡ flat_map (page_at t h) (up_to n) → j ≡ n
              → pages (scripted script) id h ++ cond (is_of_context id u (request_of (scripted script) u h)) (shown_by reply) [] ≡ flat_map (page_at t (End u reply ∷ h)) (up_to n)
          by_number zero last were number = absurd (let within = child_within cluster h before_end.lawful t j u put in let low = within.0 in omega (arith, low, number))
          by_number (suc m) last were number =
              (λ i. earlier_pages i ++ cond (shows i) (shown_by reply) [])
              ∙ (λ i. earlier_agree i ++ page_after_last i) ∙ sym (flat_last (page_at t (End u reply ∷ h)) m)
            where
              earlier_pages : pages (scripted script) id h ≡ flat_map (page_at t h) (up_to m)
              earlier_pages = were ∙ flat_last (page_at t h) m ∙ ap (λ l. flat_map (page_at t h) (up_to m) ++ l) (ap (page_at t h) (sym number) ∙ page_before) ∙ append-nil (flat_map (page_at t h) (up_to m))

              earlier_agree : flat_map (page_at t h) (up_to m) ≡ flat_map (page_at t (End u reply ∷ h)) (up_to m)
              earlier_agree = flats_agree (page_at t h) (page_at t (End u reply ∷ h)) m
                  (λ k low high. same_page (k % 2 == 1) (reply_at t h k) (reply_at t (End u reply ∷ h) k) (sym (replies_stay k (λ other. let same = once k other in omega (arith, same, number, high)))))

              page_after_last : cond (j % 2 == 1) (shown_by reply) [] ≡ page_at t (End u reply ∷ h) (suc m)
              page_after_last = sym page_after ∙ ap (page_at t (End u reply ∷ h)) number

    end_keeps : AreOfAsks (End u reply ∷ h)
    end_keeps = by_child (child_or_not h end_facts t u)
      where
        by_child : ((j : ℕ) × (child_of t j h ≡ Some u)) ⊎ ((j : ℕ) → child_of t j h ≡ Some u → ⊥) → AreOfAsks (End u reply ∷ h)
        by_child (inl (j, put)) = end_own j put
        by_child (inr other) = end_other other

  -- ---- every past

  -- what has asked for something exists
  asker_born : (h : List Event) → IsPast cluster corpus script h → child_of t 1 h ≡ Some id → t.number ≤ last_number t.node h
  asker_born h past first = by_number (cases_lt (last_number t.node h) t.number)
    where
      by_number : (last_number t.node h < t.number) ⊎ (t.number ≤ last_number t.node h) → t.number ≤ last_number t.node h
      by_number (inl unborn) =
          let none = (ask_facts cluster h past.lawful).unborn_asks t unborn in
          let within = child_within cluster h past.lawful t 1 id first in
          let some = within.1 in
          absurd (omega (arith, none, some))
      by_number (inr born) = born

  pub pages_by_asks : (h : List Event) → IsPast cluster corpus script h → IsAsker h → child_of t 1 h ≡ Some id → AreOfAsks h
  pages_by_asks [] past asked first = absurd (cc)
  pages_by_asks (Root k u ∷ h) past asked first =
      let before = earlier cluster corpus script (Root k u) h past in
      let born = asker_born h before first in
      let l = past.lawful in
      let same : request_of (scripted script) t (Root k u ∷ h) ≡ request_of (scripted script) t h = grind (arith, same_tests, l.0.takes.next, born) in
      pages_by_asks h before (sym same ∙ asked) first
  pages_by_asks (Put u q j ∷ h) past asked first = by_pair (same_pair_tells t 1 q j) (pages_by_asks h (earlier cluster corpus script (Put u q j) h past))
    where
      l : Lawful cluster (Put u q j ∷ h)
      l = past.lawful

      by_pair : ((same_pair t 1 q j ≡ true) × (t ≡ q) × (1 ≡ j)) ⊎ ((same_pair t 1 q j ≡ false) × (t ≡ q → 1 ≢ j)) → (IsAsker h → child_of t 1 h ≡ Some id → AreOfAsks h) → AreOfAsks (Put u q j ∷ h)
      by_pair (inl (one, same, number)) before =
          let told : Some u ≡ Some id = rw one at first in
          let f = ask_facts cluster h l.1 in
          let born = f.born t (ap (λ x. is_live x h) same ∙ requested_live q j h f l.0.requested) in
          put_first h u q j past (was_asked h u q j past born asked) same number (cc)
      by_pair (inr (other, apart)) before =
          let put : child_of t 1 h ≡ Some id = rw other at first in
          put_later h u q j past (before (was_asked h u q j past (asker_born h (before_put h u q j past) put) asked) put)
  pages_by_asks (Ask q j n child ∷ h) past asked first = by_task (same_task t q) refl (pages_by_asks h (earlier cluster corpus script (Ask q j n child) h past) asked first)
    where
      l : Lawful cluster (Ask q j n child ∷ h)
      l = past.lawful

      by_task : (b : Bool) → same_task t q ≡ b → AreOfAsks h → pages (scripted script) id h ≡ flat_map (page_at t h) (up_to (cond b j (last_ask t h)))
      by_task false other before = before
      by_task true own before =
          let next : j ≡ suc (last_ask t h) = grind (arith, same_tests, l.0.next) in
          let none : child_of t (suc (last_ask t h)) h ≡ None = (ask_facts cluster h l.1).no_child t (suc (last_ask t h)) (omega arith) in
          before ∙ sym (append-nil (flat_map (page_at t h) (up_to (last_ask t h))))
          ∙ ap (λ x. flat_map (page_at t h) (up_to (last_ask t h)) ++ x) (sym (no_page (suc (last_ask t h) % 2 == 1) (reply_at t h (suc (last_ask t h))) (ap (option_and_then (λ c. reply_of c h)) none)))
          ∙ sym (flat_last (page_at t h) (last_ask t h)) ∙ ap (λ x. flat_map (page_at t h) (up_to x)) (sym next)
  pages_by_asks (Refuse u c ∷ h) past asked first =
      pages_by_asks h (earlier cluster corpus script (Refuse u c) h past) asked first ∙ flats_agree (page_at t h) (page_at t (Refuse u c ∷ h)) (last_ask t h) (λ k low high. refused_page h u c past k)
  pages_by_asks (End u reply ∷ h) past asked first = end_keeps h u reply past asked first (pages_by_asks h (earlier cluster corpus script (End u reply) h past) asked first)
  pages_by_asks (e ∷ h) past asked first = pages_by_asks h (earlier cluster corpus script e h past) asked first
