-- What the past says of the work of a fetch.
use Rattle.std.specs.Prelude.{◌≡◌, ℕ, ◌≤◌, List, [], length, Option}
use Rattle.task_ids.specs.declared.cluster.Cluster.{Cluster}
use Rattle.task_ids.specs.declared.corpus.Corpus.{Corpus}
use Rattle.task_ids.specs.declared.doc.Doc.{Doc}
use Rattle.search_phase.specs.Fetches.{FetchState}
use Rattle.search_phase.specs.Runs.{IsFetchAt}
use Rattle.task_events.specs.declared.request.FetchAsk.{FetchAsk}
use Rattle.task_events.specs.declared.reply.Hit.{Hit}
use Rattle.task_work.specs.Works.{found_hits}
use Rattle.task_work.specs.declared.work.Work.{Work}
use Rattle.task_work.specs.declared.work.Work.TheVariants as works
use Rattle.world_moves.specs.Good.{written}

-- A fetch has come as far as the turns that its task has taken.
pub record FetchesFor (ask : FetchAsk) (turns : ℕ) (awaited : List (Option ℕ)) (writes : List Doc) (f : FetchState) (hits : Option (List Hit)) : Type 0 where
  pub here : IsFetchAt ask turns writes f
  pub found : hits ≡ found_hits f writes
  pub asks_nothing : awaited ≡ []
  -- the version that it names was written
  pub within : ask.version ≤ length writes

abbrev pub RunsFetch : Cluster → Corpus → ℕ → List (Option ℕ) → FetchAsk → Work → Type 0
RunsFetch cluster corpus turns awaited ask (works.Fetch f hits) = FetchesFor ask turns awaited (written cluster corpus ask.index ask.shard) f hits
RunsFetch cluster corpus turns awaited ask _ = ⊥
