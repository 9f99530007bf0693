-- What the counts of a track say.
use Rattle.std.specs.Prelude.{ℕ, ◌≡◌, ◌<◌, ◌^◌, List, Option, length, is_some, count_by, slice_index_or, All, IfSome}
use Rattle.task_ids.specs.Limits.{IsNode}
use Rattle.child_track.specs.Track.{is_at}

-- each node's count of unanswered asks, and that of all of them
pub record CountsAreRight (asks : List (Option ℕ)) (waiting : List ℕ) (open_asks : ℕ) : Type 0 where
  pub few : length asks < 2 ^ 32
  pub of_nodes : All (λ ask. IfSome ask IsNode) asks
  pub at_each : (node : ℕ) → node < 16 → slice_index_or waiting node 0 ≡ count_by (is_at node) asks
  pub in_all : open_asks ≡ count_by is_some asks
