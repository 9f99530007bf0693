-- The nodes of a set.
use Rattle.std.specs.Prelude.{◌≡◌, ℕ, List, Bool, ◌==◌, ◌&&◌, nat_lt, filter}
use Rattle.std.specs.List.{range_with_len}
use Rattle.std.specs.Int.{bit_at}
use Rattle.child_track.specs.declared.nodes.NodeSet.{NodeSet}

-- bit X stands for node X
unfoldable pub has_node : NodeSet → ℕ → Bool
has_node set node = nat_lt node 16 && (bit_at set.0 node == 1)

-- 1 to 15
unfoldable pub all_nodes : List ℕ
all_nodes = range_with_len 1 15

-- the nodes of a set, ascending
abbrev pub nodes_of : NodeSet → List ℕ
nodes_of set = filter (has_node set) all_nodes

-- where the test of each number is known, so is the list
pub nodes_of-from_test : (set : NodeSet) (test : ℕ → Bool) → ((node : ℕ) → has_node set node ≡ test node) → nodes_of set ≡ filter test all_nodes
nodes_of-from_test set test same = λ i. filter (λ node. same node i) all_nodes
