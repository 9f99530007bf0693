-- The state of a search or of a page of one: what it looks through, what it has asked for, and what was answered.
use Rattle.std.specs.Prelude.{◌≡◌, ℕ, ◌<◌, ◌≤◌, ◌^◌, List, [], ◌∷◌, ◌++◌, Bool, true, false, not, ◌&&◌, ◌==◌, nat_lt, if◌then◌else◌, Option, Some, None, is_some, option_map, option_and_then, map, filter_map, find, zip, slice_get, length}
use Rattle.std.specs.List.{list_all, sum_by, last_or}
use Rattle.std.specs.Option.{option_map_or}
use Rattle.task_ids.specs.declared.task_id.TaskId.{TaskId}
use Rattle.task_ids.specs.declared.doc.Doc.{Doc}
use Rattle.task_events.specs.declared.context.Context.{Context}
use Rattle.task_events.specs.declared.reading.ShardRead.{ShardRead}
use Rattle.task_events.specs.declared.reading.ShardRead.TheVariants.{Newest, Kept}
use Rattle.task_events.specs.declared.request.SearchAsk.{SearchAsk}
use Rattle.task_events.specs.declared.request.ShardAsk.{ShardAsk}
use Rattle.task_events.specs.declared.request.FetchAsk.{FetchAsk}
use Rattle.task_events.specs.declared.request.Request.{Request}
use Rattle.task_events.specs.declared.request.Request.TheVariants as asks
use Rattle.task_events.specs.declared.reply.Reply.{Reply}
use Rattle.task_events.specs.declared.reply.Reply.TheVariants.{Search, Top, Hits, AllFailed}
use Rattle.task_events.specs.declared.reply.SearchReply.{SearchReply}
use Rattle.task_events.specs.declared.reply.Hit.{Hit}
use Rattle.task_events.specs.declared.reply.ShardTop.{ShardTop}
use Rattle.task_events.specs.declared.reply.ShardCount.{ShardCount}
use Rattle.task_events.specs.declared.step.Asked.{Asked}
use Rattle.task_events.specs.declared.step.Do.{Do}
use Rattle.task_events.specs.declared.step.Do.TheVariants.{AskNext, Turn, Wait, Finish}
use Rattle.task_events.specs.Answers.{shard_top, fetched, plain_answer, count_read}
use Rattle.task_events.specs.Kinds.{can_have}
use Rattle.task_events.specs.Readings.{Reading, search_reading, page_reading, shard_read}
use Rattle.task_events.specs.Searches.{requests_of, top_of, tops_in, winners_among, failed_in, hit_in, counts_in, search_reply}
use Rattle.task_events.specs.SearchTask.{search_step}
pub use Rattle.task_events.specs.Waiting.{does_wait}

pub record Searching : Type 0 where
  -- what it looks through
  pub reading : Reading
  pub asked : List Asked

-- ---- what it looks through

-- a page of a context, or else a search of an index with so many shards
abbrev pub reading_for : TaskId → SearchAsk → ℕ → Option Context → Reading
reading_for task ask shards None = search_reading task ask shards
reading_for task ask shards (Some context) = page_reading context

-- each shard is below all that come later
abbrev pub AreApart : List ShardRead → Type 0
AreApart [] = Unit {0}
AreApart (at ∷ later) = (list_all (λ other. nat_lt (shard_read at) (shard_read other)) later ≡ true) × AreApart later

-- fewer than 2^32 rows match, where that is known
abbrev pub is_low : ShardRead → Bool
is_low (Newest shard) = true
is_low (Kept kept) = nat_lt kept.count (2 ^ 32)

-- What holds of whatever is looked through.
pub record IsReading (r : Reading) : Type 0 where
  pub few : length r.shards < 4294967296
  pub apart : AreApart r.shards
  pub low : list_all is_low r.shards ≡ true

-- ---- what it does

abbrev pub new_search : Reading → Searching
new_search r = record { reading = r; asked = [] }

-- the request that comes next, while there is one
abbrev pub next_request : Searching → Option Request
next_request s = slice_get (requests_of s.reading s.asked) (length s.asked)

abbrev pub next_step : Searching → Do
next_step s = search_step s.reading s.asked

abbrev pub wants_to_ask : Do → Bool
wants_to_ask (AskNext request) = true
wants_to_ask Turn = false
wants_to_ask (Wait until) = false
wants_to_ask (Finish reply) = false

abbrev pub has_ended : Do → Bool
has_ended (Finish reply) = true
has_ended (AskNext request) = false
has_ended Turn = false
has_ended (Wait until) = false

-- ---- asks and answers

-- every ask so far has a lower number
abbrev pub is_above : ℕ → List Asked → Bool
is_above ask asked = list_all (λ a. nat_lt a.ask ask) asked

abbrev pub with_ask : Searching → ℕ → Searching
with_ask s ask = record s { asked = s.asked ++ record { ask = ask; answer = None } ∷ [] }

-- the ask of this number has no answer yet
abbrev pub is_open : ℕ → Asked → Bool
is_open ask a = (a.ask == ask) && not (is_some a.answer)

-- the request of an ask that has no answer yet
abbrev pub awaited : Searching → ℕ → Option Request
awaited s ask = option_map (λ p. p.1) (find (λ p. is_open ask p.0) (zip s.asked (requests_of s.reading s.asked)))

-- the ask has no answer yet, and the reply is one that its request can have
abbrev pub takes : Searching → ℕ → Reply → Bool
takes s ask reply = option_map_or (λ request. can_have (length s.reading.shards) request reply) (awaited s ask) false

abbrev pub answered_by : ℕ → Reply → Asked → Asked
answered_by ask reply a = if a.ask == ask then record a { answer = Some reply } else a

abbrev pub with_answer : Searching → ℕ → Reply → Searching
with_answer s ask reply = record s { asked = map (answered_by ask reply) s.asked }

-- ---- what holds of each answer

-- P of the request and the reply of each ask that is answered
abbrev pub EachAnswer : (Request → Reply → Type 0) → Searching → Type 0
EachAnswer P s = (place : ℕ) (a : Asked) (request : Request) (reply : Reply) → slice_get s.asked place ≡ Some a
    → slice_get (requests_of s.reading s.asked) place ≡ Some request → a.answer ≡ Some reply → P request reply

-- The top of a query is what the writes of its shard say at its version.
pub record IsHonestTop (ask : ShardAsk) (writes : List Doc) (top : ShardTop) : Type 0 where
  -- the version lies within the writes
  pub within : top.version ≤ length writes
  pub says : top ≡ shard_top ask top.version writes

-- The hits of a fetch are what the writes of its shard say at the version that it asks for.
pub record AreHonestHits (ask : FetchAsk) (writes : List Doc) (hits : List Hit) : Type 0 where
  -- the version lies within the writes
  pub within : ask.version ≤ length writes
  pub says : hits ≡ fetched ask writes

-- What a shard answers is what its writes say. A cancelled or rejected task says nothing of the shard.
abbrev pub IsHonest : (ℕ → List Doc) → Request → Reply → Type 0
IsHonest writes (asks.Query ask) (Top top) = IsHonestTop ask (writes ask.shard) top
IsHonest writes (asks.Fetch ask) (Hits hits) = AreHonestHits ask (writes ask.shard) hits
IsHonest writes request reply = Unit {0}

-- each answer that the search has is honest
abbrev pub AllHonest : (ℕ → List Doc) → Searching → Type 0
AllHonest writes s = EachAnswer (IsHonest writes) s

-- the number of each ask is above those before it
abbrev pub AreRising : List Asked → Type 0
AreRising [] = Unit {0}
AreRising (a ∷ later) = (list_all (λ b. nat_lt a.ask b.ask) later ≡ true) × AreRising later

-- What holds of every search: it asks for its requests in order, and takes what they can have.
pub record IsSearching (s : Searching) : Type 0 where
  pub reading : IsReading s.reading
  pub numbers : AreRising s.asked
  pub in_order : length s.asked ≤ length (requests_of s.reading s.asked)
  pub possible : EachAnswer (λ request reply. can_have (length s.reading.shards) request reply ≡ true) s

-- ---- the reply

-- how many rows match in each shard that answered the query: as its writes say, or as a context keeps it
abbrev pub plain_counts : (ℕ → List Doc) → Searching → List ShardCount
plain_counts writes s =
    filter_map (λ p. option_map (λ top. count_read s.reading.ask writes p.0 top.version) (option_and_then top_of p.1.answer)) (zip s.reading.shards s.asked)

-- the plain answer over the shards that answered the query, at the versions of their answers
abbrev pub plain_reply : (ℕ → List Doc) → Searching → Reply
plain_reply writes s = plain_answer s.reading writes (plain_counts writes s) (failed_in s.reading s.asked)

-- The answer of a search whose asks are all answered. Its failed shards may be all.
abbrev pub search_answer : Reading → List Asked → SearchReply
search_answer r asked =
    let shards = length r.shards in
    let won = winners_among r.ask.body (tops_in shards asked) in
    let counts = counts_in r asked in
    record {
      context = r.context;
      shards = counts;
      failed = failed_in r asked;
      total = sum_by (λ n. n.count) counts;
      hits = filter_map (hit_in r.ask shards asked) won;
      last = last_or None won;
    }

abbrev pub answer_of : Searching → SearchReply
answer_of s = search_answer s.reading s.asked

-- the reply with an answer, which tells of the failed shards alone where all have failed
abbrev pub reply_with : ℕ → SearchReply → Reply
reply_with shards answer = if length answer.failed == shards then AllFailed answer.failed else Search answer

-- the reply of a search whose asks are all answered
abbrev pub reply_of : Searching → Reply
reply_of s = search_reply s.reading s.asked
