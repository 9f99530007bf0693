-- What the plan of a task asks for is what tasks of its kind ask for.
use Rattle.std.proofs.Common.{◌≡◌, ◌-◌, ◌%◌, ℕ, zero, suc, Bool, true, false, cond, ◌||◌, List, [], ◌∷◌, ◌++◌, length, map, Option, Some, None, refl, sym, ap, ◌∙◌}
use Rattle.std.specs.Prelude.{◌==◌, nat_le, nat_lt, option_and_then, option_map, slice_get}
use Rattle.task_ids.specs.declared.cluster.Cluster.{Cluster}
use Rattle.task_ids.specs.declared.corpus.Corpus.{Corpus}
use Rattle.task_ids.specs.declared.task_id.TaskId.{TaskId}
use Rattle.task_events.specs.declared.context.Context.{Context}
use Rattle.task_events.specs.declared.reading.ShardRead.{ShardRead}
use Rattle.task_events.specs.declared.reply.Reply.{Reply}
use Rattle.task_events.specs.declared.request.BulkShardAsk.{BulkShardAsk}
use Rattle.task_events.specs.declared.request.FetchAsk.{FetchAsk}
use Rattle.task_events.specs.declared.request.ReindexAsk.{ReindexAsk}
use Rattle.task_events.specs.declared.request.Request.{Request}
use Rattle.task_events.specs.declared.request.Request.TheVariants.{Search, Query, Fetch, Scroll, Reindex, Slice, Bulk, BulkShard}
use Rattle.task_events.specs.declared.request.SliceAsk.{SliceAsk}
use Rattle.task_events.specs.declared.step.Asked.{Asked}
use Rattle.task_events.specs.declared.step.Do.{Do}
use Rattle.task_events.specs.declared.step.Do.TheVariants.{AskNext, Turn, Wait, Finish}
use Rattle.task_events.specs.BulkTask.{parts_of}
use Rattle.task_events.specs.Kind.{Progress}
use Rattle.task_events.specs.Kinds.{kind_of}
use Rattle.task_events.specs.Looking.{work_or_end}
use Rattle.task_events.specs.Readings.{Reading, page_reading, search_reading}
use Rattle.task_events.specs.ReindexTask.{cut_step, reindex_step}
use Rattle.task_events.specs.ScrollTask.{scroll_step}
use Rattle.task_events.specs.SearchTask.{ask_or_end, search_step}
use Rattle.task_events.specs.Searches.{are_answered, fetches_of, has_queried, query_of, requests_of, search_reply, tops_in}
use Rattle.task_events.specs.SliceTask.{after_bulk, after_page, answer_at, bulk_of, context_in, docs_on, due_after, is_clean, later_page, most_asks, page_from, slice_step}
use Rattle.task_events.specs.Counting.{is_batch}
use Rattle.task_events.specs.Slicing.{slice_at}
use Rattle.write_laws.specs.KindsAsked.{is_part, is_slice, is_step_of_slice, may_ask, reads_shard}

-- a step that asks for something asks for what passes a test
abbrev pub asks_only : (Request → Bool) → Do → Bool
asks_only test (AskNext child) = test child
asks_only test _ = true

-- what is asked for in the end, if anything, passes it
asks_or_ends : (test : Request → Bool) (o : Option Request) (answered : Bool) (reply : Reply) → ((child : Request) → o ≡ Some child → test child ≡ true) → asks_only test (ask_or_end o answered reply) ≡ true
asks_or_ends test (Some child) answered reply each = each child refl
asks_or_ends test None true reply each = refl
asks_or_ends test None false reply each = refl

works_or_ends : (test : Request → Bool) (done : Bool) (reply : Reply) → asks_only test (work_or_end done reply) ≡ true
works_or_ends test true reply = refl
works_or_ends test false reply = refl

-- ---- searches and pages

in_rest : (f : ShardRead → Request) → ((at : ShardRead) → reads_shard (f at) ≡ true) → (ats : List ShardRead) (rest : List Request) → ((n : ℕ) (child : Request) → slice_get rest n ≡ Some child → reads_shard child ≡ true)
    → (n : ℕ) (child : Request) → slice_get (map f ats ++ rest) n ≡ Some child → reads_shard child ≡ true
in_rest f each [] rest others n child e = others n child e
in_rest f each (at ∷ ats) rest others zero child e = let same : f at ≡ child = cc in ap reads_shard (sym same) ∙ each at
in_rest f each (at ∷ ats) rest others (suc n) child e = in_rest f each ats rest others n child e

of_fetches : (asks : List FetchAsk) (n : ℕ) (child : Request) → slice_get (map Fetch asks) n ≡ Some child → reads_shard child ≡ true
of_fetches [] n child e = absurd (cc)
of_fetches (ask ∷ asks) zero child e = let same : Fetch ask ≡ child = cc in ap reads_shard (sym same)
of_fetches (ask ∷ asks) (suc n) child e = of_fetches asks n child e

where_queried : (b : Bool) (asks : List FetchAsk) (n : ℕ) (child : Request) → slice_get (cond b (map Fetch asks) []) n ≡ Some child → reads_shard child ≡ true
where_queried true asks n child e = of_fetches asks n child e
where_queried false asks n child e = absurd (cc)

search_asks : (r : Reading) (asked : List Asked) → asks_only reads_shard (search_step r asked) ≡ true
search_asks r asked =
    asks_or_ends reads_shard (slice_get (requests_of r asked) (length asked)) (are_answered asked) (search_reply r asked)
    (λ child e. in_rest (λ at. Query (query_of r at)) (λ at. refl) r.shards _ (where_queried (has_queried (length r.shards) asked) (fetches_of r.ask (tops_in (length r.shards) asked))) (length asked) child e)

page_asks : (page : Option Context) (asked : List Asked) → asks_only reads_shard (scroll_step page asked) ≡ true
page_asks None asked = refl
page_asks (Some context) asked = search_asks (page_reading context) asked

-- ---- bulks

of_parts : (parts : List BulkShardAsk) (n : ℕ) (child : Request) → slice_get (map BulkShard parts) n ≡ Some child → is_part child ≡ true
of_parts [] n child e = absurd (cc)
of_parts (part ∷ parts) zero child e = let same : BulkShard part ≡ child = cc in ap is_part (sym same)
of_parts (part ∷ parts) (suc n) child e = of_parts parts n child e

-- ---- slices

module _ (t : TaskId) (ask : ReindexAsk) where
  after_page_asks : (counts : Reply) (o : Option Reply) → asks_only is_step_of_slice (after_page ask (Finish counts) o) ≡ true
  after_page_asks counts None = refl
  after_page_asks counts (Some page) = by_batch (is_batch page)
    where
      by_batch : (b : Bool) → asks_only is_step_of_slice (cond b (AskNext (bulk_of ask (docs_on page))) (Finish counts)) ≡ true
      by_batch true = refl
      by_batch false = refl

  page_from_asks : (o : Option TaskId) (due now : ℕ) → asks_only is_step_of_slice (page_from t o due now) ≡ true
  page_from_asks None due now = refl
  page_from_asks (Some context) due now = by_time (nat_le due now)
    where
      by_time : (b : Bool) → asks_only is_step_of_slice (cond b (AskNext (later_page t context)) (Wait (Some due))) ≡ true
      by_time true = refl
      by_time false = refl

  either : (b : Bool) (d e : Do) → asks_only is_step_of_slice d ≡ true → asks_only is_step_of_slice e ≡ true → asks_only is_step_of_slice (cond b d e) ≡ true
  either true d e x y = x
  either false d e x y = y

  after_bulk_asks : (goes_on : Do) (reply : Reply) (o : Option Reply) → asks_only is_step_of_slice goes_on ≡ true → asks_only is_step_of_slice (after_bulk goes_on (Finish reply) o) ≡ true
  after_bulk_asks goes_on reply None e = refl
  after_bulk_asks goes_on reply (Some answer) e = either (is_clean answer) goes_on (Finish reply) e refl

  slice_asks : (slice shards : ℕ) (asked : List Asked) (came : List ℕ) (now : ℕ) → asks_only is_step_of_slice (slice_step t ask slice shards asked came now) ≡ true
  slice_asks slice shards asked came now =
      let made = length asked in
      let newest = made - 1 in
      let context = option_and_then context_in (answer_at asked 0) in
      either (made == 0) _ _ refl
      (either (made % 2 == 1) _ _ (after_page_asks _ (answer_at asked newest))
      (after_bulk_asks _ _ (answer_at asked newest) (either (nat_lt made most_asks) _ _ (page_from_asks context (due_after ask asked came newest) now) refl)))

-- ---- reindexes

weaker : (d : Do) (test wider : Request → Bool) → ((child : Request) → test child ≡ true → wider child ≡ true) → asks_only test d ≡ true → asks_only wider d ≡ true
weaker (AskNext child) test wider each e = each child e
weaker Turn test wider each e = refl
weaker (Wait due) test wider each e = refl
weaker (Finish reply) test wider each e = refl

either_way : (a b : Bool) → b ≡ true → (a || b) ≡ true
either_way true b e = refl
either_way false b e = e

of_slice : (o : Option SliceAsk) (child : Request) → option_map Slice o ≡ Some child → (is_slice child || is_step_of_slice child) ≡ true
of_slice None child e = absurd (cc)
of_slice (Some s) child e = let same : Slice s ≡ child = cc in ap (λ x. is_slice x || is_step_of_slice x) (sym same)

reindex_asks : (t : TaskId) (ask : ReindexAsk) (shards : ℕ) (asked : List Asked) (came : List ℕ) (now : ℕ) → asks_only (may_ask (Reindex ask)) (reindex_step t ask shards asked came now) ≡ true
reindex_asks t ask shards asked came now = by_slices (ask.slices == 1)
  where
    by_slices : (b : Bool) → asks_only (may_ask (Reindex ask)) (cond b (slice_step t ask 0 shards asked came now) (cut_step ask asked)) ≡ true
    by_slices true = weaker (slice_step t ask 0 shards asked came now) is_step_of_slice (may_ask (Reindex ask)) (λ child e. either_way (is_slice child) (is_step_of_slice child) e) (slice_asks t ask 0 shards asked came now)
    by_slices false = asks_or_ends (may_ask (Reindex ask)) _ (are_answered asked) _ (of_slice (slice_at ask (length asked)))

-- ---- each kind

pub asks_by_kind : (request : Request) (cluster : Cluster) (corpus : Corpus) (t : TaskId) (p : Progress) (now : ℕ) → asks_only (may_ask request) ((kind_of request).step cluster corpus t p now) ≡ true
asks_by_kind (Search ask) cluster corpus t p now = search_asks (search_reading t ask cluster.shards) p.asked
asks_by_kind (Scroll ask) cluster corpus t p now = page_asks p.page p.asked
asks_by_kind (Query ask) cluster corpus t p now = works_or_ends (may_ask (Query ask)) _ _
asks_by_kind (Fetch ask) cluster corpus t p now = works_or_ends (may_ask (Fetch ask)) _ _
asks_by_kind (Reindex ask) cluster corpus t p now = reindex_asks t ask cluster.shards p.asked p.came now
asks_by_kind (Slice s) cluster corpus t p now = slice_asks t s.reindex s.slice cluster.shards p.asked p.came now
asks_by_kind (Bulk ask) cluster corpus t p now = asks_or_ends is_part _ (are_answered p.asked) _ (of_parts (parts_of ask cluster.shards) (length p.asked))
asks_by_kind (BulkShard ask) cluster corpus t p now = works_or_ends (may_ask (BulkShard ask)) _ _
