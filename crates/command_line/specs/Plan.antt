-- What the words of a command line ask for.
use Rattle.std.specs.Prelude.{◌≡◌, ◌≤◌, ℕ, List, [], codes, if◌then◌else◌, Option, Some, None, option_map, option_and_then}
use Rattle.std.specs.Str.{bytes_eq}
use Rattle.std.specs.Str.Parse.{digits_value, without_leading_plus}
use Rattle.clap.specs.Walk.{Row, is_empty, one_of}
use Rattle.clap.specs.Simple.{subcommand_of}
use Rattle.clap.specs.Faults.{fault_of}
use Rattle.task_ids.specs.declared.cluster.Cluster.{Cluster}
use Rattle.command_line.specs.declared.plans.Plan.{Plan}
use Rattle.command_line.specs.declared.plans.Plan.TheVariants.{Sim, Run, Pool, Gen}
use Rattle.command_line.specs.Command.{tasktree}

-- how many nodes, shards of an index, and slots of a node
pub record Size : Type 0 where
  pub nodes : ℕ
  pub shards : ℕ
  pub slots : ℕ

abbrev pub size_of : Cluster → Size
size_of cluster = record { nodes = cluster.nodes; shards = cluster.shards; slots = cluster.slots }

-- a script that is replayed or run on a cluster of a size, or run there by a pool of so many data workers on each node, or an input that is made by a number
pub data Asked : Type 0 where
  to_replay : Size → Asked
  to_run : Size → Asked
  to_pool : Size → ℕ → Asked
  to_make : ℕ → Asked

-- to replay on so many nodes, shards and slots
abbrev pub sized : (nodes shards slots : ℕ) → Asked
sized nodes shards slots = to_replay (record { nodes = nodes; shards = shards; slots = slots })

abbrev pub asked_of : Plan → Asked
asked_of (Sim cluster) = to_replay (size_of cluster)
asked_of (Run cluster) = to_run (size_of cluster)
asked_of (Pool cluster workers) = to_pool (size_of cluster) workers
asked_of (Gen number) = to_make number

-- a pool has 1 to 4 data workers on each node
abbrev pub HasWorkers : Plan → Type 0
HasWorkers (Sim cluster) = Unit {0}
HasWorkers (Run cluster) = Unit {0}
HasWorkers (Pool cluster workers) = (1 ≤ workers) × (workers ≤ 4)
HasWorkers (Gen number) = Unit {0}

-- ---- where the command takes the words

-- the command's definition takes the words
abbrev pub Takes : List (List ℕ) → Type 0
Takes words = fault_of tasktree words ≡ []

-- the number that the matches of a subcommand have for an argument, as it was given or by default
abbrev pub number_of : List ℕ → List Row → Option ℕ
number_of name rows = option_map (λ text. digits_value 10 (without_leading_plus text)) (one_of name rows)

infixl 10 ◌>>=◌
abbrev pub ◌>>=◌ : {A B : Type 0} → Option A → (A → Option B) → Option B
found >>= f = option_and_then f found

abbrev pub size_in : List Row → Option Size
size_in rows = do
  nodes ← number_of (codes "nodes") rows
  shards ← number_of (codes "shards") rows
  slots ← number_of (codes "slots") rows
  Some (record { nodes = nodes; shards = shards; slots = slots })

-- a run is one by a pool exactly where the number of data workers is given
abbrev pub run_with : Option ℕ → Size → Asked
run_with None size = to_run size
run_with (Some workers) size = to_pool size workers

abbrev pub run_in : List Row → Option Asked
run_in rows = option_map (run_with (number_of (codes "data") rows)) (size_in rows)

-- what a subcommand asks for, by its name and its matches
unfoldable pub asked_by : List ℕ → List Row → Option Asked
asked_by name rows =
    if bytes_eq name (codes "sim") then option_map to_replay (size_in rows)
    else if bytes_eq name (codes "run") then run_in rows
    else if bytes_eq name (codes "gen") then option_map to_make (number_of (codes "number") rows)
    else None

-- the same, where one was found
abbrev pub asked_in : Option (List ℕ × List Row) → Option Asked
asked_in found = option_and_then (λ p. asked_by p.0 p.1) found

-- what words ask for that the command takes
unfoldable pub asked : List (List ℕ) → Option Asked
asked words = if is_empty (fault_of tasktree words) then asked_in (subcommand_of tasktree words) else None
