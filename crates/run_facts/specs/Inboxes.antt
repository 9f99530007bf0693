-- The inboxes of a cluster, by their numbers.
use Rattle.std.specs.Prelude.{ℕ, nat_le, nat_lt, ◌≤◌, ◌+◌, ◌*◌, ◌-◌, ◌&&◌, if◌then◌else◌, Option, None, Some}
use Rattle.run_facts.specs.declared.To.{To}
use Rattle.run_facts.specs.declared.To.TheVariants as to

-- a node has 1 to 4 data workers
abbrev pub IsPoolSize : ℕ → Type 0
IsPoolSize n = (1 ≤ n) × (n ≤ 4)

-- The inboxes of a node with so many data workers stand together: first that of its control worker, and then those of its data workers,
-- which are numbered from 0.
abbrev pub control_of : ℕ → ℕ → ℕ
control_of workers node = (workers + 1) * (node - 1)

abbrev pub data_of : ℕ → ℕ → ℕ → ℕ
data_of workers node worker = control_of workers node + 1 + worker

-- the driver's comes after those of so many nodes
abbrev pub driver_of : ℕ → ℕ → ℕ
driver_of workers nodes = (workers + 1) * nodes

-- the inbox of a worker, which is there where the cluster has the node, and the node the worker
abbrev pub inbox_of : ℕ → ℕ → To → Option ℕ
inbox_of nodes workers (to.Control node) = if nat_le 1 node && nat_le node nodes then Some (control_of workers node) else None
inbox_of nodes workers (to.Data node worker) = if nat_le 1 node && nat_le node nodes && nat_lt worker workers then Some (data_of workers node worker) else None
inbox_of nodes workers to.Driver = Some (driver_of workers nodes)
