-- What holds of the fields of a search's root.
use Rattle.std.specs.Prelude.{◌≡◌, ℕ, ◌*◌, ◌≤◌, Option, length}
use Rattle.search_phase.specs.declared.fetching.Fetching.{Fetching}
use Rattle.search_phase.specs.Searching.{Searching, IsSearching}
use Rattle.search_phase.specs.FetchPhase.{fetching_in}

pub record IsRoot (s : Searching) (fetching : Option Fetching) (capacity : ℕ) : Type 0 where
  pub search : IsSearching s
  -- the fetch phase is known once all queries are answered
  pub fetching_is : fetching ≡ fetching_in s.reading.ask (length s.reading.shards) s.asked
  -- there is room for all asks: each shard's query and fetch
  pub room : 2 * length s.reading.shards ≤ capacity
