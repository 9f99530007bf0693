-- A search that is new, that asks and that takes an answer keeps that it has been told what its rows say, and what it asks for reads all of them.
use Rattle.std.specs.Prelude.{◌≡◌, ℕ, ◌≤◌, List, true, Some, length, option_and_then, slice_get, refl}
use Rattle.std.specs.List.{AllByRecursion, range_with_len}
use Rattle.std.proofs.Common.{sym, ap, subst, arith}
use Rattle.search_phase.proofs.Answered.{IsAwaited, EachAnswer-answer, IsSearching-answer, awaited_at, taken}
use Rattle.search_phase.proofs.Asks.{EachAnswer-ask}
use Rattle.search_phase.proofs.QueryTops.{answer_of_top}
use Rattle.search_phase.proofs.Requests.{request_of_query}
use Rattle.search_phase.specs.Searching.{AllHonest, EachAnswer, IsHonest, IsSearching, Searching, awaited, new_search, takes, with_answer, with_ask}
use Rattle.task_ids.specs.declared.doc.Doc.{Doc}
use Rattle.task_ids.specs.declared.task_id.TaskId.{TaskId}
use Rattle.task_events.specs.Answers.{shard_top}
use Rattle.task_events.specs.Kinds.{can_have}
use Rattle.task_events.specs.Readings.{Reading, page_reading, search_reading, shard_read}
use Rattle.task_events.specs.Searches.{fetch_of, query_of, requests_of, top_of, tops_in, winners_among}
use Rattle.task_events.specs.declared.context.Context.{Context}
use Rattle.task_events.specs.declared.reading.ShardRead.{ShardRead}
use Rattle.task_events.specs.declared.reading.ShardRead.TheVariants.{Newest, Kept}
use Rattle.task_events.specs.declared.reply.Reply.{Reply}
use Rattle.task_events.specs.declared.reply.Reply.TheVariants.{Search, Top, Hits, AllFailed, Wrote, Cancelled, Rejected}
use Rattle.task_events.specs.declared.reply.ShardCount.{ShardCount}
use Rattle.task_events.specs.declared.reply.ShardTop.{ShardTop}
use Rattle.task_events.specs.declared.request.Request.{Request}
use Rattle.task_events.specs.declared.request.Request.TheVariants as asks
use Rattle.task_events.specs.declared.request.SearchAsk.{SearchAsk}
use Rattle.task_events.specs.declared.request.ShardAsk.{ShardAsk}
use Rattle.task_events.specs.declared.step.Asked.{Asked}
use Rattle.reply_facts.specs.Plainly.{AreWhole, top_over}
use Rattle.work_facts.specs.Searches.{AsksAll, IsPlainSearch, IsReadWhole, SaysAll}
use Rattle.search_phase.proofs.EachRequest.{each_request, each_top}
use Rattle.task_ids.proofs.Each.{all_mapped, all_so, all_weaker}

-- ---- a new search

none_answered : (P : Request → Reply → Type 0) (r : Reading) → EachAnswer P (new_search r)
none_answered P r place a request reply at wants answered = absurd cc

module _ (rows : ℕ → List Doc) where
  pub new_search_plain : (task : TaskId) (ask : SearchAsk) (shards : ℕ) → IsPlainSearch rows (new_search (search_reading task ask shards))
  new_search_plain task ask shards = record {
    reads = all_mapped (IsReadWhole ask rows) Newest (range_with_len 0 shards) (all_so (λ shard. IsReadWhole ask rows (Newest shard)) (λ shard. tt) (range_with_len 0 shards));
    answers = none_answered (SaysAll rows) (search_reading task ask shards);
  }

  -- a page whose context counts all rows
  pub new_page_plain : (c : Context) → AreWhole c.ask rows c.shards → IsPlainSearch rows (new_search (page_reading c))
  new_page_plain c whole = record {
    reads = all_mapped (IsReadWhole c.ask rows) Kept c.shards whole;
    answers = none_answered (SaysAll rows) (page_reading c);
  }

-- ---- asks and answers

module _ (rows : ℕ → List Doc) (s : Searching) (h : IsPlainSearch rows s) where
  pub ask_keeps_plain : (ask : ℕ) → IsPlainSearch rows (with_ask s ask)
  ask_keeps_plain ask = record { reads = h.reads; answers = EachAnswer-ask (SaysAll rows) s ask h.answers }

  pub answer_keeps_plain : (ask : ℕ) (reply : Reply) → IsSearching s → takes s ask reply ≡ true → ((request : Request) → awaited s ask ≡ Some request → SaysAll rows request reply) → IsPlainSearch rows (with_answer s ask reply)
  answer_keeps_plain ask reply sound t says = of_request (taken s ask reply t)
    where
      of_place : (request : Request) → awaited s ask ≡ Some request → (place : ℕ) × (a : Asked) × IsAwaited s ask request place a → IsPlainSearch rows (with_answer s ask reply)
      of_place request e (place, a, here) = record {
        reads = h.reads;
        answers = EachAnswer-answer s ask reply request place a sound here (SaysAll rows) h.answers (says request e);
      }

      of_request : (request : Request) × (awaited s ask ≡ Some request) × (can_have (length s.reading.shards) request reply ≡ true) → IsPlainSearch rows (with_answer s ask reply)
      of_request (request, e, can) = of_place request e (awaited_at s ask request e)

  -- ---- what it was told

  -- of a shard that is read
  pub top_says : (i : ℕ) (at : ShardRead) (a : Asked) (top : ShardTop) → slice_get s.reading.shards i ≡ Some at → slice_get s.asked i ≡ Some a → option_and_then top_of a.answer ≡ Some top
      → top ≡ top_over (query_of s.reading at) (rows (shard_read at))
  top_says i at a top here there e = h.answers i a (asks.Query (query_of s.reading at)) (Top top) there (request_of_query s.reading s.asked i at here) (answer_of_top a.answer top e) top refl

  -- ---- what it asks for

  abbrev IsTopOfAll : ShardTop → Type 0
  IsTopOfAll top = top.version ≡ length (rows top.shard)

  tops_of_all : AllByRecursion IsTopOfAll (tops_in (length s.reading.shards) s.asked)
  tops_of_all = each_top IsTopOfAll s.reading.shards s.asked (λ i at a top here there e. subst IsTopOfAll (sym (top_says i at a top here there e)) refl)

  query_asks_all : (at : ShardRead) → IsReadWhole s.reading.ask rows at → AsksAll rows (asks.Query (query_of s.reading at))
  query_asks_all (Newest shard) whole = tt
  query_asks_all (Kept n) whole = ap (λ (count : ShardCount). count.version) whole

  pub asks_all : AllByRecursion (AsksAll rows) (requests_of s.reading s.asked)
  asks_all =
      let tops : List ShardTop = tops_in (length s.reading.shards) s.asked in
      each_request (AsksAll rows) s.reading s.asked
      (all_weaker (IsReadWhole s.reading.ask rows) (λ at. AsksAll rows (asks.Query (query_of s.reading at))) query_asks_all s.reading.shards h.reads)
      (all_weaker IsTopOfAll (λ top. AsksAll rows (asks.Fetch (fetch_of s.reading.ask (winners_among s.reading.ask.body tops) top))) (λ top e. e) tops tops_of_all)

  -- ---- its answers are honest

  pub all_honest : AllHonest rows s
  all_honest place a request reply at wants answered = honest_so request reply (h.answers place a request reply at wants answered)
    where
      top_honest : (ask : ShardAsk) (top : ShardTop) → top ≡ top_over ask (rows ask.shard) → IsHonest rows (asks.Query ask) (Top top)
      top_honest ask top says = record {
        within = subst (λ (t : ShardTop). t.version ≤ length (rows ask.shard)) (sym says) (omega arith);
        says = subst (λ (t : ShardTop). t ≡ shard_top ask t.version (rows ask.shard)) (sym says) refl;
      }

      honest_so : (request : Request) (reply : Reply) → SaysAll rows request reply → IsHonest rows request reply
      honest_so (asks.Query ask) (Top top) says = top_honest ask top (says top refl)
      honest_so (asks.Query ask) (Search reply) says = tt
      honest_so (asks.Query ask) (Hits hits) says = tt
      honest_so (asks.Query ask) (AllFailed failed) says = tt
      honest_so (asks.Query ask) (Wrote counts) says = tt
      honest_so (asks.Query ask) (Cancelled task cancel counts) says = tt
      honest_so (asks.Query ask) (Rejected node) says = tt
      honest_so (asks.Fetch ask) (Hits hits) says = says hits refl
      honest_so (asks.Fetch ask) (Search reply) says = tt
      honest_so (asks.Fetch ask) (Top top) says = tt
      honest_so (asks.Fetch ask) (AllFailed failed) says = tt
      honest_so (asks.Fetch ask) (Wrote counts) says = tt
      honest_so (asks.Fetch ask) (Cancelled task cancel counts) says = tt
      honest_so (asks.Fetch ask) (Rejected node) says = tt
      honest_so (asks.Search ask) reply says = tt
      honest_so (asks.Scroll ask) reply says = tt
      honest_so (asks.Reindex ask) reply says = tt
      honest_so (asks.Slice ask) reply says = tt
      honest_so (asks.Bulk ask) reply says = tt
      honest_so (asks.BulkShard ask) reply says = tt

-- ---- the state of a search

pub answer_keeps_searching : (s : Searching) (ask : ℕ) (reply : Reply) → IsSearching s → takes s ask reply ≡ true → IsSearching (with_answer s ask reply)
answer_keeps_searching s ask reply sound t = of_request (taken s ask reply t)
  where
    of_place : (request : Request) → can_have (length s.reading.shards) request reply ≡ true → (place : ℕ) × (a : Asked) × IsAwaited s ask request place a → IsSearching (with_answer s ask reply)
    of_place request can (place, a, here) = IsSearching-answer s ask reply request place a sound here can

    of_request : (request : Request) × (awaited s ask ≡ Some request) × (can_have (length s.reading.shards) request reply ≡ true) → IsSearching (with_answer s ask reply)
    of_request (request, e, can) = of_place request can (awaited_at s ask request e)
