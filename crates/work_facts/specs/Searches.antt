-- What a search, or a page of one, keeps where the rows that it looks through stay as they are.
use Rattle.std.specs.Prelude.{◌≡◌, ℕ, List, length, IfSome, ⊤}
use Rattle.std.specs.List.{AllByRecursion}
use Rattle.search_phase.specs.Searching.{Searching, EachAnswer, AreHonestHits}
use Rattle.task_events.specs.declared.reading.ShardRead.{ShardRead}
use Rattle.task_events.specs.declared.reading.ShardRead.TheVariants.{Newest, Kept}
use Rattle.task_events.specs.declared.reply.Hit.{Hit}
use Rattle.task_events.specs.declared.reply.Reply.{Reply}
use Rattle.task_events.specs.declared.reply.Reply.TheVariants.{Top, Hits}
use Rattle.task_events.specs.declared.reply.ShardTop.{ShardTop}
use Rattle.task_events.specs.declared.request.Request.{Request}
use Rattle.task_events.specs.declared.request.Request.TheVariants as asks
use Rattle.task_events.specs.declared.request.SearchAsk.{SearchAsk}
use Rattle.task_ids.specs.declared.doc.Doc.{Doc}
use Rattle.reply_facts.specs.Plainly.{count_over, top_over}

-- where a context counts the rows of a shard, it counts all
abbrev pub IsReadWhole : SearchAsk → (ℕ → List Doc) → ShardRead → Type 0
IsReadWhole ask rows (Newest shard) = ⊤
IsReadWhole ask rows (Kept n) = n ≡ count_over ask rows n.shard

-- a query and a fetch read all rows of their shard
abbrev pub AsksAll : (ℕ → List Doc) → Request → Type 0
AsksAll rows (asks.Query ask) = IfSome ask.version (λ version. version ≡ length (rows ask.shard))
AsksAll rows (asks.Fetch ask) = ask.version ≡ length (rows ask.shard)
AsksAll rows _ = ⊤

-- and tell what these say
abbrev pub SaysAll : (ℕ → List Doc) → Request → Reply → Type 0
SaysAll rows (asks.Query ask) reply = (top : ShardTop) → reply ≡ Top top → top ≡ top_over ask (rows ask.shard)
SaysAll rows (asks.Fetch ask) reply = (hits : List Hit) → reply ≡ Hits hits → AreHonestHits ask (rows ask.shard) hits
SaysAll rows _ reply = ⊤

-- It reads all rows of its shards, and has been told what they say.
pub record IsPlainSearch (rows : ℕ → List Doc) (s : Searching) : Type 0 where
  pub reads : AllByRecursion (IsReadWhole s.reading.ask rows) s.reading.shards
  pub answers : EachAnswer (SaysAll rows) s
