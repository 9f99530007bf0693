-- What the past says of the work of a query.
use Rattle.std.specs.Prelude.{◌≡◌, ℕ, ◌≤◌, List, [], length, Option, Some}
use Rattle.task_ids.specs.declared.cluster.Cluster.{Cluster}
use Rattle.task_ids.specs.declared.corpus.Corpus.{Corpus}
use Rattle.task_ids.specs.declared.doc.Doc.{Doc}
use Rattle.search_phase.specs.Queries.{QueryState}
use Rattle.search_phase.specs.Runs.{IsQueryAt}
use Rattle.task_events.specs.declared.request.ShardAsk.{ShardAsk}
use Rattle.task_events.specs.declared.reply.ShardTop.{ShardTop}
use Rattle.task_work.specs.Works.{found_top}
use Rattle.task_work.specs.declared.work.Work.{Work}
use Rattle.task_work.specs.declared.work.Work.TheVariants as works
use Rattle.world_moves.specs.Good.{written}

-- A query has come as far as the turns that its task has taken, and reads the version that its shard had at the first of them where it names none.
pub record QueriesFor (ask : ShardAsk) (version : Option ℕ) (turns : ℕ) (awaited : List (Option ℕ)) (writes : List Doc) (q : QueryState) (top : Option ShardTop) : Type 0 where
  pub here : IsQueryAt ask version turns writes q
  pub found : top ≡ found_top q writes
  pub asks_nothing : awaited ≡ []
  -- that version was written
  pub within : (v : ℕ) → q.version ≡ Some v → v ≤ length writes

abbrev pub RunsQuery : Cluster → Corpus → Option ℕ → ℕ → List (Option ℕ) → ShardAsk → Work → Type 0
RunsQuery cluster corpus version turns awaited ask (works.Query q top) = QueriesFor ask version turns awaited (written cluster corpus ask.index ask.shard) q top
RunsQuery cluster corpus version turns awaited ask _ = ⊥
