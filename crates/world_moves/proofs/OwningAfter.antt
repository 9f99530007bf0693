-- The contexts that belong to tasks are as they should be after each event.
use Rattle.std.proofs.Common.{◌≡◌, ◌≢◌, ◌⊎◌, ℕ, ◌+◌, true, false, List, [], ◌∷◌, Option, Some, None, refl, sym, ap, subst, ◌∙◌, inl, inr, arith}
use Rattle.std.specs.Option.{option_or}
use Rattle.task_ids.specs.declared.cluster.Cluster.{Cluster}
use Rattle.task_ids.specs.declared.task_id.TaskId.{TaskId}
use Rattle.task_events.specs.declared.context.Context.{Context}
use Rattle.task_events.specs.declared.event.Event.{Event}
use Rattle.task_events.specs.declared.event.Event.TheVariants.{Begin, Root, Ask, Put, Pass, Refuse, Answered, End, Tick}
use Rattle.task_events.specs.declared.reply.Reply.{Reply}
use Rattle.task_events.specs.declared.reply.Reply.TheVariants.{Search}
use Rattle.task_events.specs.declared.request.Request.{Request}
use Rattle.task_events.specs.declared.request.Request.TheVariants as asks
use Rattle.task_events.specs.declared.request.ScrollAsk.{ScrollAsk}
use Rattle.task_events.specs.declared.request.SearchAsk.{SearchAsk}
use Rattle.task_events.specs.Allowed.{Allowed}
use Rattle.task_events.specs.Asks.{request_of_ask, is_unanswered}
use Rattle.task_events.specs.Clock.{clock}
use Rattle.task_events.specs.Contexts.{with_use, given_back, opened, cursor_in, after_begin, after_taking, after_end, unexpired, without_owned, context_at}
use Rattle.task_events.specs.Lawful.{Lawful}
use Rattle.task_events.specs.Requests.{Scripted, request_of}
use Rattle.task_events.specs.Same.{same_task, same_pair}
use Rattle.task_events.specs.Tasks.{has_ended, is_new, parent_of, ask_of}
use Rattle.task_laws.proofs.Asks.{AskFacts, ask_facts}
use Rattle.task_laws.proofs.Same.{same_task_tells, same_pair_tells, same_tests}
use Rattle.search_phase.proofs.Sorting.{by_test}
use Rattle.world_moves.specs.Owning.{IsSearchOf, IsShownBy, IsUsedByOwn, Stands, IsOwnPage, IsOwnSearch, AwaitsPage, Owning, MayAskOwn, LeavesOwned}
use Rattle.world_moves.proofs.Children.{child_request}
use Rattle.world_moves.proofs.OwnTasks.{ended_apart, search_ended, ends_it, search_on, search_back, shown_on}
use Rattle.world_moves.proofs.OwnedContexts.{not_cleared, not_left, not_taken, not_expired, opens_other}

itself : (t : TaskId) → same_task t t ≡ true
itself t = grind (arith, same_tests)

-- who has not passed is a child
pub new_child : (t : TaskId) (h : List Event) → is_new t h ≡ true → (q : TaskId) × (parent_of t h ≡ Some q)
new_child t [] n = absurd (cc)
new_child t (Put u p k ∷ h) n = by_test (same_task t u) (λ same. (p, rw same refl)) (λ other. let before = new_child t h (rw other at n) in (before.0, rw other before.1))
new_child t (Pass u ∷ h) n = by_test (same_task t u) (λ same. absurd (let f : false ≡ true = rw same at n in cc)) (λ other. new_child t h (rw other at n))
new_child t (Refuse u c ∷ h) n = by_test (same_task t u) (λ same. absurd (let f : false ≡ true = rw same at n in cc)) (λ other. new_child t h (rw other at n))
new_child t (_ ∷ h) n = new_child t h n

-- who goes on has not ended before
ended_before : (t : TaskId) (e : Event) (h : List Event) → has_ended t (e ∷ h) ≡ false → has_ended t h ≡ false
ended_before t (Refuse u c) h n = by_test (same_task t u) (λ same. absurd (let f : true ≡ false = rw same at n in cc)) (λ other. rw other at n)
ended_before t (End u r) h n = by_test (same_task t u) (λ same. absurd (let f : true ≡ false = rw same at n in cc)) (λ other. rw other at n)
ended_before t _ h n = n

not_this : (t u : TaskId) (r : Reply) (h : List Event) → has_ended t (End u r ∷ h) ≡ false → same_task t u ≡ false
not_this t u r h n = by_test (same_task t u) (λ same. absurd (let f : true ≡ false = rw same at n in cc)) (λ other. other)

module _ (cluster : Cluster) (said : Scripted) (h : List Event) (lawful : Lawful cluster h) (o : Owning said h) where
  facts : AskFacts h
  facts = ask_facts cluster h lawful

  -- ---- the contexts of tasks stand

  used_on : (e : Event) → Allowed cluster e h → (owner id : TaskId) (user : Option TaskId) → ((t : TaskId) → user ≡ Some t → ends_it t e ≡ false) → IsUsedByOwn said owner id h user → IsUsedByOwn said owner id (e ∷ h) user
  used_on e a owner id None goes_on u = tt
  used_on e a owner id (Some t) goes_on u = shown_on cluster said h facts e a owner id t (goes_on t refl) u

  module _ (owner id : TaskId) (s : Stands said owner id h) where
    -- where it is left as it is
    same_stands : (e : Event) → Allowed cluster e h → context_at said id (e ∷ h) ≡ Some s.context → ((t : TaskId) → s.context.busy ≡ Some t → ends_it t e ≡ false) → Stands said owner id (e ∷ h)
    same_stands e a there goes_on = record { context = s.context; there = there; owned = s.owned; kept = s.kept; used = used_on e a owner id s.context.busy goes_on s.used }

    -- ---- a child passes

    passed_stands : (t : TaskId) → Allowed cluster (Pass t) h → (request : Option Request) → request_of said t h ≡ request → IsSearchOf said owner id h → Stands said owner id (Pass t ∷ h)
    passed_stands t a request is own = of_request request refl
      where
        taken : context_at said id (Pass t ∷ h) ≡ after_taking (clock h) t request id (Some s.context)
        taken = λ i. after_taking (clock h) t (is i) id (s.there i)

        same : after_taking (clock h) t request id (Some s.context) ≡ Some s.context → Stands said owner id (Pass t ∷ h)
        same stays = same_stands (Pass t) a (taken ∙ stays) (λ user busy. refl)

        takes_it : (ask : ScrollAsk) → request ≡ Some (asks.Scroll ask) → ask.id ≡ id → Stands said owner id (Pass t ∷ h)
        takes_it ask is_page shows =
            let parent = new_child t h a.first in
            let asked : request_of_ask parent.0 (ask_of t h) h ≡ Some (asks.Scroll ask) = sym (child_request cluster said t parent.0 h lawful parent.1) ∙ is ∙ is_page in
            let page = o.pages parent.0 (ask_of t h) ask asked in
            let other : parent_of id h ≡ Some parent.0 = subst (λ x. parent_of x h ≡ Some parent.0) shows page.opened.parent in
            let both : Some parent.0 ≡ Some owner = sym other ∙ own.parent in
            let one : parent.0 ≡ owner = cc in
            let equal : same_task ask.id id ≡ true = ap (same_task ask.id) (sym shows) ∙ itself ask.id in
            let used : after_taking (clock h) t (Some (asks.Scroll ask)) id (Some s.context) ≡ Some (with_use (clock h) ask.keep t s.context) = rw equal refl in
            record {
              context = with_use (clock h) ask.keep t s.context;
              there = taken ∙ ap (λ r. after_taking (clock h) t r id (Some s.context)) is_page ∙ used;
              owned = s.owned;
              kept = ap (λ k. option_or k s.context.keep_ms) page.no_keep ∙ s.kept;
              used = record { ask = ask; live = a.live; passed = rw (itself t) refl; parent = parent.1 ∙ ap Some one; asked = is ∙ is_page; shows = shows };
            }

        of_request : (r : Option Request) → request ≡ r → Stands said owner id (Pass t ∷ h)
        of_request None e = same (ap (λ r. after_taking (clock h) t r id (Some s.context)) e)
        of_request (Some (asks.Search ask)) e = same (ap (λ r. after_taking (clock h) t r id (Some s.context)) e)
        of_request (Some (asks.Query ask)) e = same (ap (λ r. after_taking (clock h) t r id (Some s.context)) e)
        of_request (Some (asks.Fetch ask)) e = same (ap (λ r. after_taking (clock h) t r id (Some s.context)) e)
        of_request (Some (asks.Reindex ask)) e = same (ap (λ r. after_taking (clock h) t r id (Some s.context)) e)
        of_request (Some (asks.Slice ask)) e = same (ap (λ r. after_taking (clock h) t r id (Some s.context)) e)
        of_request (Some (asks.Bulk ask)) e = same (ap (λ r. after_taking (clock h) t r id (Some s.context)) e)
        of_request (Some (asks.BulkShard ask)) e = same (ap (λ r. after_taking (clock h) t r id (Some s.context)) e)
        of_request (Some (asks.Scroll ask)) e = of_case (same_task_tells ask.id id)
          where
            of_case : ((same_task ask.id id ≡ true) × (ask.id ≡ id)) ⊎ ((same_task ask.id id ≡ false) × (ask.id ≢ id)) → Stands said owner id (Pass t ∷ h)
            of_case (inl (is_one, shows)) = takes_it ask e shows
            of_case (inr (differs, apart)) = same (ap (λ r. after_taking (clock h) t r id (Some s.context)) e ∙ rw differs refl)

    -- ---- a task ends

    ended_stands : (t : TaskId) (reply : Reply) → Allowed cluster (End t reply) h → (request : Option Request) → request_of said t h ≡ request → IsSearchOf said owner id h → same_task owner t ≡ false → Stands said owner id (End t reply ∷ h)
    ended_stands t reply a request is own goes_on = of_request request refl
      where
        ends : Option Request → Option Context
        ends r = after_end (clock h) t r reply id (Some s.context)

        left : context_at said id (End t reply ∷ h) ≡ without_owned t (after_end (clock h) t request reply id (Some s.context))
        left = λ i. without_owned t (after_end (clock h) t (is i) reply id (s.there i))

        -- a task that shows no page of it does not use it
        same : after_end (clock h) t request reply id (Some s.context) ≡ Some s.context → ((ask : ScrollAsk) → request ≡ Some (asks.Scroll ask) → ask.id ≢ id) → Stands said owner id (End t reply ∷ h)
        same stays no_page = same_stands (End t reply) a (left ∙ ap (without_owned t) stays ∙ not_left owner s.context s.owned t goes_on) (λ user busy. of_user user (subst (IsUsedByOwn said owner id h) busy s.used) (same_task_tells user t))
          where
            of_user : (user : TaskId) → IsShownBy said owner id user h → ((same_task user t ≡ true) × (user ≡ t)) ⊎ ((same_task user t ≡ false) × (user ≢ t)) → same_task user t ≡ false
            of_user user shown (inl (is_one, one)) = absurd (no_page shown.ask (sym is ∙ ap (λ x. request_of said x h) (sym one) ∙ shown.asked) shown.shows)
            of_user user shown (inr (differs, apart)) = differs

        gives_back : (ask : ScrollAsk) → request ≡ Some (asks.Scroll ask) → ask.id ≡ id → Stands said owner id (End t reply ∷ h)
        gives_back ask is_page shows =
            let equal : same_task ask.id id ≡ true = ap (same_task ask.id) (sym shows) ∙ itself ask.id in
            let back : after_end (clock h) t (Some (asks.Scroll ask)) reply id (Some s.context) ≡ Some (given_back (cursor_in reply) (clock h) s.context) = rw equal refl in
            record {
              context = given_back (cursor_in reply) (clock h) s.context;
              there = left ∙ ap (λ r. without_owned t (after_end (clock h) t r reply id (Some s.context))) is_page ∙ ap (without_owned t) back ∙ not_left owner (given_back (cursor_in reply) (clock h) s.context) s.owned t goes_on;
              owned = s.owned;
              kept = s.kept;
              used = tt;
            }

        of_request : (r : Option Request) → request ≡ r → Stands said owner id (End t reply ∷ h)
        of_request None e = same (ap (λ r. after_end (clock h) t r reply id (Some s.context)) e) (λ ask f. absurd (cc))
        of_request (Some (asks.Query ask)) e = same (ap (λ r. after_end (clock h) t r reply id (Some s.context)) e) (λ ask f. absurd (cc))
        of_request (Some (asks.Fetch ask)) e = same (ap (λ r. after_end (clock h) t r reply id (Some s.context)) e) (λ ask f. absurd (cc))
        of_request (Some (asks.Reindex ask)) e = same (ap (λ r. after_end (clock h) t r reply id (Some s.context)) e) (λ ask f. absurd (cc))
        of_request (Some (asks.Slice ask)) e = same (ap (λ r. after_end (clock h) t r reply id (Some s.context)) e) (λ ask f. absurd (cc))
        of_request (Some (asks.Bulk ask)) e = same (ap (λ r. after_end (clock h) t r reply id (Some s.context)) e) (λ ask f. absurd (cc))
        of_request (Some (asks.BulkShard ask)) e = same (ap (λ r. after_end (clock h) t r reply id (Some s.context)) e) (λ ask f. absurd (cc))
        of_request (Some (asks.Search ask)) e =
            let apart = ended_apart id t h (search_ended cluster said h facts owner id own) (facts.live_or_ended t a.goes_on.live) in
            let back : same_task t id ≡ false = grind (arith, same_tests) in
            same (ap (λ r. after_end (clock h) t r reply id (Some s.context)) e ∙ opens_other (clock h) t ask reply id s.context back) (λ other f. absurd (cc))
        of_request (Some (asks.Scroll ask)) e = of_case (same_task_tells ask.id id)
          where
            of_case : ((same_task ask.id id ≡ true) × (ask.id ≡ id)) ⊎ ((same_task ask.id id ≡ false) × (ask.id ≢ id)) → Stands said owner id (End t reply ∷ h)
            of_case (inl (is_one, shows)) = gives_back ask e shows
            of_case (inr (differs, apart)) =
                same (ap (λ r. after_end (clock h) t r reply id (Some s.context)) e ∙ rw differs refl) (λ other f. let one : ask ≡ other = cc in λ shows. apart (ap (λ (x : ScrollAsk). x.id) one ∙ shows))

    -- ---- any event

    stands_on : (e : Event) → Allowed cluster e h → LeavesOwned said e h → IsSearchOf said owner id h → has_ended owner (e ∷ h) ≡ false → Stands said owner id (e ∷ h)
    stands_on (Begin k) a leaves own goes_on = same_stands (Begin k) a (ap (after_begin (said.clears k h) id) s.there ∙ not_cleared owner s.context s.owned (said.clears k h) id) (λ t busy. refl)
    stands_on (Root k t) a leaves own goes_on = same_stands (Root k t) a (ap (after_taking (clock h) t (said.root k h) id) s.there ∙ not_taken owner s.context s.owned said h (clock h) t id (said.root k h) s.there leaves) (λ user busy. refl)
    stands_on (Pass t) a leaves own goes_on = passed_stands t a (request_of said t h) refl own
    stands_on (End t reply) a leaves own goes_on = ended_stands t reply a (request_of said t h) refl own (not_this owner t reply h goes_on)
    stands_on (Tick ms) a leaves own goes_on = same_stands (Tick ms) a (ap (unexpired (clock h + ms)) s.there ∙ not_expired s.context s.kept (clock h + ms)) (λ t busy. refl)
    stands_on _ a leaves own goes_on = same_stands _ a s.there (λ t busy. refl)

  -- a search that ends with hits opens its context
  opened_stands : (t : TaskId) (reply : Reply) (owner : TaskId) → IsSearchOf said owner t (End t reply ∷ h) → same_task owner t ≡ false → Stands said owner t (End t reply ∷ h)
  opened_stands t reply owner own goes_on =
      let ends = rw (itself t) at own.ended in
      let good : reply ≡ Search own.found = cc in
      let asked : request_of_ask owner (ask_of t h) h ≡ Some (asks.Search own.ask) = sym (child_request cluster said t owner h lawful own.parent) ∙ own.asked in
      let no_keep : own.ask.scroll ≡ None = (o.searches owner (ask_of t h) own.ask asked).no_keep in
      let c : Context = opened t own.ask own.found (clock h) in
      let opens : after_end (clock h) t (Some (asks.Search own.ask)) (Search own.found) t (context_at said t h) ≡ Some c = rw (itself t, no_keep, own.own) refl in
      record {
        context = c;
        there = (λ i. without_owned t (after_end (clock h) t (own.asked i) (good i) t (context_at said t h))) ∙ ap (without_owned t) opens ∙ not_left owner c own.own t goes_on;
        owned = own.own;
        kept = no_keep;
        used = tt;
      }

  stands_after : (e : Event) → Allowed cluster e h → LeavesOwned said e h → (owner search : TaskId) → IsSearchOf said owner search (e ∷ h) → has_ended owner (e ∷ h) ≡ false → Stands said owner search (e ∷ h)
  stands_after (End t reply) a leaves owner search own goes_on = of_case (same_task_tells search t)
    where
      of_case : ((same_task search t ≡ true) × (search ≡ t)) ⊎ ((same_task search t ≡ false) × (search ≢ t)) → Stands said owner search (End t reply ∷ h)
      of_case (inl (is_one, same)) = subst (λ x. Stands said owner x (End t reply ∷ h)) (sym same) (opened_stands t reply owner (subst (λ x. IsSearchOf said owner x (End t reply ∷ h)) same own) (not_this owner t reply h goes_on))
      of_case (inr (differs, apart)) =
          let was = search_back cluster said h facts (End t reply) a owner search differs own in
          stands_on owner search (o.stands owner search was (ended_before owner (End t reply) h goes_on)) (End t reply) a leaves was goes_on
  stands_after (Refuse t c) a leaves owner search own goes_on =
      let was = search_back cluster said h facts (Refuse t c) a owner search refl own in
      stands_on owner search (o.stands owner search was (ended_before owner (Refuse t c) h goes_on)) (Refuse t c) a leaves was goes_on
  stands_after e a leaves owner search own goes_on =
      let was = search_back cluster said h facts e a owner search refl own in
      stands_on owner search (o.stands owner search was goes_on) e a leaves was goes_on

  -- ---- what tasks ask for

  searches_after : (e : Event) → LeavesOwned said e h → (p : TaskId) (k : ℕ) (ask : SearchAsk) → request_of_ask p k (e ∷ h) ≡ Some (asks.Search ask) → IsOwnSearch p ask
  searches_after (Ask q j n r) leaves p k ask is = of_case (same_pair_tells p k q j)
    where
      of_case : ((same_pair p k q j ≡ true) × (p ≡ q) × (k ≡ j)) ⊎ ((same_pair p k q j ≡ false) × (p ≡ q → k ≢ j)) → IsOwnSearch p ask
      of_case (inl (is_one, same, number)) =
          let its = rw is_one at is in
          let one : r ≡ asks.Search ask = cc in
          subst (λ x. IsOwnSearch x ask) (sym same) (subst (λ x. MayAskOwn said q x h) one leaves)
      of_case (inr (differs, apart)) = o.searches p k ask (rw differs at is)
  searches_after _ leaves p k ask is = o.searches p k ask is

  page_on : (e : Event) → Allowed cluster e h → (p : TaskId) (ask : ScrollAsk) → IsOwnPage said p ask h → IsOwnPage said p ask (e ∷ h)
  page_on e a p ask own = record { own = own.own; no_keep = own.no_keep; opened = search_on cluster said h facts e a p ask.id own.opened }

  pages_after : (e : Event) → Allowed cluster e h → LeavesOwned said e h → (p : TaskId) (k : ℕ) (ask : ScrollAsk) → request_of_ask p k (e ∷ h) ≡ Some (asks.Scroll ask) → IsOwnPage said p ask (e ∷ h)
  pages_after (Ask q j n r) a leaves p k ask is = page_on (Ask q j n r) a p ask (of_case (same_pair_tells p k q j))
    where
      of_case : ((same_pair p k q j ≡ true) × (p ≡ q) × (k ≡ j)) ⊎ ((same_pair p k q j ≡ false) × (p ≡ q → k ≢ j)) → IsOwnPage said p ask h
      of_case (inl (is_one, same, number)) =
          let its = rw is_one at is in
          let one : r ≡ asks.Scroll ask = cc in
          subst (λ x. IsOwnPage said x ask h) (sym same) (subst (λ x. MayAskOwn said q x h) one leaves).0
      of_case (inr (differs, apart)) = o.pages p k ask (rw differs at is)
  pages_after e a leaves p k ask is = page_on e a p ask (o.pages p k ask is)

  -- ---- one page at a time

  -- the page for which a task waits was asked for just now, or before
  awaited_page : (q : TaskId) (j n : ℕ) (r : Request) → MayAskOwn said q r h → (p : TaskId) (k : ℕ) → AwaitsPage p k (Ask q j n r ∷ h) → ((p ≡ q) × (k ≡ j) × ((i : ℕ) → is_unanswered q i h ≡ false)) ⊎ AwaitsPage p k h
  awaited_page q j n r leaves p k waits = of_case (same_pair_tells p k q j)
    where
      of_case : ((same_pair p k q j ≡ true) × (p ≡ q) × (k ≡ j)) ⊎ ((same_pair p k q j ≡ false) × (p ≡ q → k ≢ j)) → ((p ≡ q) × (k ≡ j) × ((i : ℕ) → is_unanswered q i h ≡ false)) ⊎ AwaitsPage p k h
      of_case (inl (is_one, same, number)) =
          let its = rw is_one at waits.asked in
          let one : r ≡ asks.Scroll waits.ask = cc in
          inl (same, number, (subst (λ x. MayAskOwn said q x h) one leaves).1)
      of_case (inr (differs, apart)) = inr (record { ask = waits.ask; waits = rw differs at waits.waits; asked = rw differs at waits.asked })

  none_waits : (p q : TaskId) (k : ℕ) → p ≡ q → ((i : ℕ) → is_unanswered q i h ≡ false) → AwaitsPage p k h → ⊥
  none_waits p q k same none waits = let f : true ≡ false = sym waits.waits ∙ ap (λ x. is_unanswered x k h) same ∙ none k in cc

  alone_after : (e : Event) → LeavesOwned said e h → (p : TaskId) (j k : ℕ) → AwaitsPage p j (e ∷ h) → AwaitsPage p k (e ∷ h) → j ≡ k
  alone_after (Ask q i n r) leaves p j k one other = of_both (awaited_page q i n r leaves p j one) (awaited_page q i n r leaves p k other)
    where
      of_both : ((p ≡ q) × (j ≡ i) × ((m : ℕ) → is_unanswered q m h ≡ false)) ⊎ AwaitsPage p j h → ((p ≡ q) × (k ≡ i) × ((m : ℕ) → is_unanswered q m h ≡ false)) ⊎ AwaitsPage p k h → j ≡ k
      of_both (inl (same, number, none)) (inl (also, count, all)) = number ∙ sym count
      of_both (inl (same, number, none)) (inr before) = absurd (none_waits p q k same none before)
      of_both (inr before) (inl (same, number, none)) = absurd (none_waits p q j same none before)
      of_both (inr before) (inr earlier) = o.alone p j k before earlier
  alone_after (Answered q i) leaves p j k one other = o.alone p j k (before j one) (before k other)
    where
      before : (m : ℕ) → AwaitsPage p m (Answered q i ∷ h) → AwaitsPage p m h
      before m waits = record {
        ask = waits.ask;
        waits = by_test (same_pair p m q i) (λ same. absurd (let f : false ≡ true = rw same at waits.waits in cc)) (λ apart. rw apart at waits.waits);
        asked = waits.asked;
      }
  alone_after _ leaves p j k one other =
      o.alone p j k (record { ask = one.ask; waits = one.waits; asked = one.asked }) (record { ask = other.ask; waits = other.waits; asked = other.asked })

  pub owning_after : (e : Event) → Allowed cluster e h → LeavesOwned said e h → Owning said (e ∷ h)
  owning_after e a leaves = record { stands = stands_after e a leaves; searches = searches_after e leaves; pages = pages_after e a leaves; alone = alone_after e leaves }
