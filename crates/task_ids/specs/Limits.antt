-- The ranges of nodes, task numbers, shards and slots.
use Rattle.std.specs.Prelude.{ℕ, ◌≤◌}

-- nodes are called n1 to n15
abbrev pub IsNode : ℕ → Type 0
IsNode n = (1 ≤ n) × (n ≤ 15)

-- a node numbers its tasks upwards from 1
abbrev pub IsNumber : ℕ → Type 0
IsNumber n = (1 ≤ n) × (n ≤ 1048575)

-- an index has 1 to 15 shards
abbrev pub IsShardCount : ℕ → Type 0
IsShardCount n = (1 ≤ n) × (n ≤ 15)

-- a node runs 1 to 1,024 tasks at once
abbrev pub IsSlotCount : ℕ → Type 0
IsSlotCount n = (1 ≤ n) × (n ≤ 1024)

-- a cancellation is numbered by the command that made it, 1 to 65,535
abbrev pub IsCancel : ℕ → Type 0
IsCancel n = (1 ≤ n) × (n ≤ 65535)
