-- What letters tell a search, and what a search tells by letters.
use Rattle.std.specs.Prelude.{◌≡◌, ℕ, List, Option, Some, None, IfSome, length, slice_get, refl}
use Rattle.std.specs.List.{AllByRecursion}
use Rattle.std.proofs.Common.{sym, ◌∙◌, ap, subst, arith}
use Rattle.search_phase.proofs.Answered.{IsAwaited, awaited_at}
use Rattle.search_phase.specs.Awaiting.{LooksAlike}
use Rattle.search_phase.specs.Searching.{Searching, awaited}
use Rattle.task_ids.proofs.Each.{all_here, all_so}
use Rattle.task_events.specs.Answered.{as_answered}
use Rattle.task_events.specs.Answers.{fetched}
use Rattle.task_events.specs.Readings.{Reading}
use Rattle.task_events.specs.Searches.{failure_in, query_of, fetch_of, requests_of, winners_among, tops_in}
use Rattle.task_events.specs.declared.answered.AnsweredRequest.{AnsweredRequest}
use Rattle.task_events.specs.declared.answered.AnsweredRequest.TheVariants as told
use Rattle.task_events.specs.declared.reply.Reply.{Reply}
use Rattle.task_events.specs.declared.reply.ShardFailure.{ShardFailure}
use Rattle.task_events.specs.declared.reply.ShardTop.{ShardTop}
use Rattle.task_events.specs.declared.request.Request.{Request}
use Rattle.task_events.specs.declared.request.Request.TheVariants as asks
use Rattle.task_events.specs.declared.step.Asked.{Asked}
use Rattle.node_link.specs.declared.body.Place.{Place}
use Rattle.node_link.specs.declared.page.Page.{Page}
use Rattle.reply_facts.specs.Letters.{IsAnswerAt, IsFetchFor, IsQueryFor, IsRequestAt, RepliesTo}
use Rattle.reply_facts.specs.Plainly.{top_over}
use Rattle.reply_facts.specs.Settings.{IsSteady, Setting, Sought, lines_in, sought_at, sought_by}
use Rattle.work_facts.specs.Searches.{AsksAll, SaysAll}
use Rattle.work_facts.specs.Works.{IsOfReading, IsSearchFor}
use Rattle.search_phase.proofs.EachRequest.{each_request}
use Rattle.work_facts.proofs.Searches.{asks_all}

-- ---- a reply that a search is told

module _ (run : Setting) (q : Sought) (steady : IsSteady run q.index) (page : Option Page) where
  -- of what is asked of a shard of its index
  pub reply_says : (request : Request) (reply : Reply) (place : Place) → sought_at run place ≡ Some q → IsAnswerAt run place (as_answered request) page reply → SaysAll (lines_in run q.index) request reply
  reply_says (asks.Query ask) reply place is tells = λ top e.
      let asked = subst (λ o. IfSome o (λ q. IsQueryFor run q ask)) is tells.asked in
      let says = subst (λ o. IfSome o (λ q. IsSteady run q.index → RepliesTo run (told.Query ask) page reply)) is tells.replied steady top e in
      subst (λ i. top ≡ top_over ask (lines_in run i ask.shard)) asked.index says
  reply_says (asks.Fetch ask) reply place is tells = λ hits e.
      let asked = subst (λ o. IfSome o (λ q. IsFetchFor run q ask)) is tells.asked in
      let says = subst (λ o. IfSome o (λ q. IsSteady run q.index → RepliesTo run (told.Fetch ask) page reply)) is tells.replied steady hits e in
      let all : ask.version ≡ length (lines_in run q.index ask.shard) = asked.reads steady in
      record { within = omega arith; says = subst (λ i. hits ≡ fetched ask (lines_in run i ask.shard)) asked.index says }
  reply_says (asks.Search ask) reply place is tells = tt
  reply_says (asks.Scroll ask) reply place is tells = tt
  reply_says (asks.Reindex ask) reply place is tells = tt
  reply_says (asks.Slice ask) reply place is tells = tt
  reply_says (asks.Bulk ask) reply place is tells = tt
  reply_says (asks.BulkShard ask) reply place is tells = tt

-- ---- what a search asks for

-- a request of its own: a query or a fetch for what it looks for
abbrev pub IsOwn : Reading → Request → Type 0
IsOwn r (asks.Query ask) = IsOfReading r (told.Query ask)
IsOwn r (asks.Fetch ask) = IsOfReading r (told.Fetch ask)
IsOwn r _ = ⊥

module _ (s : Searching) where
  requests_own : AllByRecursion (IsOwn s.reading) (requests_of s.reading s.asked)
  requests_own =
      let tops : List ShardTop = tops_in (length s.reading.shards) s.asked in
      each_request (IsOwn s.reading) s.reading s.asked
      (all_so (λ at. IsOwn s.reading (asks.Query (query_of s.reading at))) (λ at. (refl, refl, refl)) s.reading.shards)
      (all_so (λ top. IsOwn s.reading (asks.Fetch (fetch_of s.reading.ask (winners_among s.reading.ask.body tops) top))) (λ top. refl) tops)

  pub own_request : (place : ℕ) (request : Request) → slice_get (requests_of s.reading s.asked) place ≡ Some request → IsOwn s.reading request
  own_request place request at = all_here (IsOwn s.reading) (requests_of s.reading s.asked) place request requests_own at

module _ (run : Setting) (q : Sought) (s : Searching) (h : IsSearchFor run q s) where
  reads_all : (place : ℕ) (request : Request) → slice_get (requests_of s.reading s.asked) place ≡ Some request → IsSteady run q.index → AsksAll (lines_in run q.index) request
  reads_all place request at steady = all_here (AsksAll (lines_in run q.index)) (requests_of s.reading s.asked) place request (asks_all (lines_in run q.index) s (h.plain steady)) at

  -- for what it looks for
  asks_for : (place : Place) (request : Request) → IsOwn s.reading request → (IsSteady run q.index → AsksAll (lines_in run q.index) request) → sought_at run place ≡ Some q → IsRequestAt run place (as_answered request)
  asks_for place (asks.Query ask) own all is = subst (λ o. IfSome o (λ q. IsQueryFor run q ask)) (sym is) (record {
    index = own.0 ∙ ap (λ (k : Sought). k.index) h.looks;
    body = own.1 ∙ ap (λ (k : Sought). k.body) h.looks;
    slice = own.2 ∙ ap (λ (k : Sought). k.slice) h.looks;
    reads = all;
  })
  asks_for place (asks.Fetch ask) own all is = subst (λ o. IfSome o (λ q. IsFetchFor run q ask)) (sym is) (record { index = own ∙ ap (λ (k : Sought). k.index) h.looks; reads = all })
  asks_for place (asks.Search ask) own all is = absurd own
  asks_for place (asks.Scroll ask) own all is = absurd own
  asks_for place (asks.Reindex ask) own all is = absurd own
  asks_for place (asks.Slice ask) own all is = absurd own
  asks_for place (asks.Bulk ask) own all is = absurd own
  asks_for place (asks.BulkShard ask) own all is = absurd own

  pub search_asks_for : (i : ℕ) (place : Place) (request : Request) → slice_get (requests_of s.reading s.asked) i ≡ Some request → sought_at run place ≡ Some q → IsRequestAt run place (as_answered request)
  search_asks_for i place request at is = asks_for place request (own_request s i request at) (reads_all i request at) is

-- ---- the answer to what a search asked for

-- what a letter of its place is for
of_reading : (run : Setting) (q : Sought) (r : Reading) (place : Place) (request : AnsweredRequest) → sought_by r.ask ≡ q → sought_at run place ≡ Some q → IsRequestAt run place request → IsOfReading r request
of_reading run q r place (told.Query ask) looks is asked =
    let query = subst (λ o. IfSome o (λ q. IsQueryFor run q ask)) is asked in
    (query.index ∙ sym (ap (λ (k : Sought). k.index) looks), query.body ∙ sym (ap (λ (k : Sought). k.body) looks), query.slice ∙ sym (ap (λ (k : Sought). k.slice) looks))
of_reading run q r place (told.Fetch ask) looks is asked =
    let fetch = subst (λ o. IfSome o (λ q. IsFetchFor run q ask)) is asked in
    fetch.index ∙ sym (ap (λ (k : Sought). k.index) looks)
of_reading run q r place (told.Search ask) looks is asked = tt
of_reading run q r place (told.Scroll ask) looks is asked = tt
of_reading run q r place (told.Reindex ask) looks is asked = tt
of_reading run q r place (told.Slice ask) looks is asked = tt
of_reading run q r place (told.Bulk dest docs) looks is asked = tt
of_reading run q r place (told.BulkShard dest shard docs) looks is asked = tt

-- one that looks alike is the same
same_request : (r : Reading) (own : Request) (request : AnsweredRequest) → IsOwn r own → LooksAlike own request → IsOfReading r request → request ≡ as_answered own
same_request r (asks.Query own) (told.Query ask) is alike of_it = λ i. told.Query (record {
  index = (of_it.0 ∙ sym is.0) i;
  shard = alike.shard_is i;
  body = (of_it.1 ∙ sym is.1) i;
  version = alike.version_is i;
  after = alike.after_is i;
  slice = (of_it.2 ∙ sym is.2) i;
})
same_request r (asks.Query own) (told.Search ask) is alike of_it = absurd alike
same_request r (asks.Query own) (told.Fetch ask) is alike of_it = absurd alike
same_request r (asks.Query own) (told.Scroll ask) is alike of_it = absurd alike
same_request r (asks.Query own) (told.Reindex ask) is alike of_it = absurd alike
same_request r (asks.Query own) (told.Slice ask) is alike of_it = absurd alike
same_request r (asks.Query own) (told.Bulk dest docs) is alike of_it = absurd alike
same_request r (asks.Query own) (told.BulkShard dest shard docs) is alike of_it = absurd alike
same_request r (asks.Fetch own) (told.Fetch ask) is alike of_it = λ i. told.Fetch (record { index = (of_it ∙ sym is) i; shard = (sym alike.shard_is) i; version = (sym alike.version_is) i; places = (sym alike.places_are) i })
same_request r (asks.Fetch own) (told.Search ask) is alike of_it = absurd alike
same_request r (asks.Fetch own) (told.Query ask) is alike of_it = absurd alike
same_request r (asks.Fetch own) (told.Scroll ask) is alike of_it = absurd alike
same_request r (asks.Fetch own) (told.Reindex ask) is alike of_it = absurd alike
same_request r (asks.Fetch own) (told.Slice ask) is alike of_it = absurd alike
same_request r (asks.Fetch own) (told.Bulk dest docs) is alike of_it = absurd alike
same_request r (asks.Fetch own) (told.BulkShard dest shard docs) is alike of_it = absurd alike
same_request r (asks.Search own) request is alike of_it = absurd is
same_request r (asks.Scroll own) request is alike of_it = absurd is
same_request r (asks.Reindex own) request is alike of_it = absurd is
same_request r (asks.Slice own) request is alike of_it = absurd is
same_request r (asks.Bulk own) request is alike of_it = absurd is
same_request r (asks.BulkShard own) request is alike of_it = absurd is

module _ (run : Setting) (q : Sought) (s : Searching) (looks : sought_by s.reading.ask ≡ q) (child : Place) (is : sought_at run child ≡ Some q) where
  pub asked_itself : (ask : ℕ) (own : Request) (request : AnsweredRequest) → awaited s ask ≡ Some own → LooksAlike own request → IsRequestAt run child request → request ≡ as_answered own
  asked_itself ask own request e alike asked = of_place (awaited_at s ask own e)
    where
      of_place : (place : ℕ) × (a : Asked) × IsAwaited s ask own place a → request ≡ as_answered own
      of_place (place, a, here) = same_request s.reading own request (own_request s place own here.asks_for) alike (of_reading run q s.reading child request looks is asked)

-- where nothing is known of what a search looks for, what it asks for tells nothing
pub asks_unknown : (run : Setting) (place : Place) (r : Reading) (request : Request) → IsOwn r request → sought_at run place ≡ None → IsRequestAt run place (as_answered request)
asks_unknown run place r (asks.Query ask) own none = rw none tt
asks_unknown run place r (asks.Fetch ask) own none = rw none tt
asks_unknown run place r (asks.Search ask) own none = absurd own
asks_unknown run place r (asks.Scroll ask) own none = absurd own
asks_unknown run place r (asks.Reindex ask) own none = absurd own
asks_unknown run place r (asks.Slice ask) own none = absurd own
asks_unknown run place r (asks.Bulk ask) own none = absurd own
asks_unknown run place r (asks.BulkShard ask) own none = absurd own

-- ---- replies of failures

no_failure : (f : ShardFailure) (reply : Reply) → failure_in reply ≡ Some f → failure_in reply ≡ None → ⊥
no_failure f reply e none = let g : Some f ≡ None = sym e ∙ none in cc

-- a task that was cancelled or rejected tells nothing of its shard
pub failure_tells : (run : Setting) (request : AnsweredRequest) (page : Option Page) (reply : Reply) (f : ShardFailure) → failure_in reply ≡ Some f → RepliesTo run request page reply
failure_tells run (told.Search ask) page reply f e = λ none. absurd (no_failure f reply e none)
failure_tells run (told.Scroll ask) page reply f e = λ none. absurd (no_failure f reply e none)
failure_tells run (told.Query ask) page reply f e = λ top is. absurd (no_failure f reply e (ap failure_in is))
failure_tells run (told.Fetch ask) page reply f e = λ hits is. absurd (no_failure f reply e (ap failure_in is))
failure_tells run (told.Reindex ask) page reply f e = tt
failure_tells run (told.Slice ask) page reply f e = tt
failure_tells run (told.Bulk dest docs) page reply f e = tt
failure_tells run (told.BulkShard dest shard docs) page reply f e = tt
