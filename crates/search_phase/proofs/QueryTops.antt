-- What the answers to the queries of a search tell.
use Rattle.std.specs.Prelude.{◌≡◌, ℕ, ◌<◌, ◌^◌, ◌==◌, Bool, true, false, ◌&&◌, nat_lt, nat_le, Option, Some, None, option_and_then, length, slice_get, refl}
use Rattle.std.proofs.Common.{ap}
use Rattle.std.proofs.lemmas.Bool.{ltb-true, eqb-true}
use Rattle.std.specs.List.{list_all}
use Rattle.std.specs.Option.{option_map_or}
use Rattle.task_events.specs.declared.reading.ShardRead.{ShardRead}
use Rattle.task_events.specs.declared.request.HitKey.{HitKey}
use Rattle.task_events.specs.declared.request.Request.TheVariants as asks
use Rattle.task_events.specs.declared.reply.ShardTop.{ShardTop}
use Rattle.task_events.specs.declared.reply.Reply.{Reply}
use Rattle.task_events.specs.declared.reply.Reply.TheVariants.{Search, Top, Hits, AllFailed, Wrote, Cancelled, Rejected}
use Rattle.task_events.specs.declared.step.Asked.{Asked}
use Rattle.task_events.specs.Answers.{window}
use Rattle.task_events.specs.HitOrder.{is_after}
use Rattle.task_events.specs.QueryTask.{ascend, is_top_for}
use Rattle.task_events.specs.Readings.{Reading, shard_read, version_read}
use Rattle.task_events.specs.Searches.{query_of, top_of}
use Rattle.search_phase.specs.Searching.{Searching, IsSearching}
use Rattle.search_phase.proofs.Lookups.{Beside, beside_by_place}
use Rattle.search_phase.proofs.Requests.{request_of_query}

-- an answer with a top is a top
pub answer_of_top : (o : Option Reply) (top : ShardTop) → option_and_then top_of o ≡ Some top → o ≡ Some (Top top)
answer_of_top None top e = absurd cc
answer_of_top (Some (Top other)) top e = let f : other ≡ top = cc in ap (λ t. Some (Top t)) f
answer_of_top (Some (Search reply)) top e = absurd cc
answer_of_top (Some (Hits hits)) top e = absurd cc
answer_of_top (Some (AllFailed failed)) top e = absurd cc
answer_of_top (Some (Wrote counts)) top e = absurd cc
answer_of_top (Some (Cancelled task cancel counts)) top e = absurd cc
answer_of_top (Some (Rejected node)) top e = absurd cc

-- the top of a shard that is read: at the version that is asked for, where one is
pub record IsTopOf (at : ShardRead) (top : ShardTop) : Type 0 where
  pub own : top.shard ≡ shard_read at
  pub version : option_map_or (λ version. top.version == version) (version_read at) true ≡ true
  pub low : top.count < 2 ^ 32

-- P of the shard that is read and of its top, where its query was answered
abbrev pub IsAnswered : (ShardRead → ShardTop → Type 0) → ShardRead → Asked → Type 0
IsAnswered P at a = (top : ShardTop) → option_and_then top_of a.answer ≡ Some top → P at top

three : (a b c d e f : Bool) → (a && b && c && d && e && f) ≡ true → (a ≡ true) × (b ≡ true) × (c ≡ true)
three true true true d e f h = (refl, refl, refl)
three true true false d e f h = absurd cc
three true false c d e f h = absurd cc
three false b c d e f h = absurd cc

top_for : (r : Reading) (at : ShardRead) (top : ShardTop) → is_top_for (query_of r at) top ≡ true → IsTopOf at top
top_for r at top h =
    let keys : Bool = list_all (λ (key : HitKey). (key.shard == shard_read at) && is_after r.after key) top.keys in
    let parts = three (top.shard == shard_read at) (option_map_or (λ version. top.version == version) (version_read at) true) (nat_lt top.count (2 ^ 32)) (nat_le (length top.keys) (window r.ask.body)) keys (ascend top.keys) h in
    record { own = eqb-true top.shard (shard_read at) parts.0; version = parts.1; low = ltb-true top.count (2 ^ 32) parts.2 }

module _ (s : Searching) (h : IsSearching s) where
  pub top_at : (i : ℕ) (at : ShardRead) (a : Asked) → slice_get s.reading.shards i ≡ Some at → slice_get s.asked i ≡ Some a → IsAnswered IsTopOf at a
  top_at i at a read asked top e =
      top_for s.reading at top (h.possible i a (asks.Query (query_of s.reading at)) (Top top) asked (request_of_query s.reading s.asked i at read) (answer_of_top a.answer top e))

  pub tops_are : Beside (IsAnswered IsTopOf) s.reading.shards s.asked
  tops_are = beside_by_place (IsAnswered IsTopOf) s.reading.shards s.asked top_at
