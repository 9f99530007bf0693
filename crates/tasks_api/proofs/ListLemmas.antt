-- Lists by parents and by nodes.
use Rattle.std.proofs.Common.{◌≡◌, ℕ, zero, suc, ◌+◌, ◌-◌, ◌≤◌, List, [], ◌∷◌, ◌++◌, filter, fold, length, codes, sym, ap, ◌∙◌, arith, add-zero}
use Rattle.std.specs.List.{range_with_len}
use Rattle.std.proofs.lemmas.List.Sums.{fold-append}
use Rattle.serde_json.specs.Data.{Data, object, Members, no_members}
use Rattle.task_ids.specs.declared.task_id.TaskId.{TaskId}
use Rattle.task_ids.specs.declared.task_info.TaskInfo.{TaskInfo}
use Rattle.tasks_api.specs.declared.list.GroupBy.TheVariants as groups
use Rattle.tasks_api.specs.Objects.{object_with}
use Rattle.tasks_api.specs.Lists.{children_of, tree_json, is_top, by_id, on_node, with_node, list_json}

-- the tasks below each parent are its children among the rows
pub parents_are : (look : List Data → TaskInfo → Data) (below : TaskId → List TaskInfo) (rows tops : List TaskInfo) (levels : ℕ) (tasks : Data) → ((t : TaskId) → below t ≡ children_of rows t)
    → tops ≡ filter (λ row. is_top rows row) rows → levels ≡ length rows → tasks ≡ by_id (tree_json look below levels) tops
    → object_with ((codes "tasks", tasks) ∷ []) ≡ list_json groups.Parents look rows
parents_are look below rows tops levels tasks children top all are =
    ap (λ t. object_with ((codes "tasks", t) ∷ [])) (are ∙ (λ i. by_id (tree_json look (λ t. children t i) (all i)) (top i)))

-- the nodes from 1 up to one
abbrev pub first_nodes : (TaskInfo → Data) → List TaskInfo → ℕ → Members
first_nodes look rows n = fold (λ members node. with_node look node (on_node node rows) members) no_members (range_with_len 1 n)

range_more : (n from : ℕ) → range_with_len from (suc n) ≡ range_with_len from n ++ (from + n) ∷ []
range_more zero from = ap (λ k. k ∷ []) (sym (add-zero from))
range_more (suc n) from =
    let last : from + 1 + n ≡ from + suc n = omega arith in
    ap (λ l. from ∷ l) (range_more n (from + 1) ∙ ap (λ k. range_with_len (from + 1) n ++ k ∷ []) last)

one_node_more : (look : TaskInfo → Data) (rows here : List TaskInfo) (done now : Members) (n node : ℕ) → node ≡ 1 + n → here ≡ on_node node rows → done ≡ first_nodes look rows n
    → now ≡ with_node look node here done → now ≡ first_nodes look rows (suc n)
one_node_more look rows here done now n node one is before did =
    did ∙ (λ i. with_node look (one i) ((is ∙ ap (λ k. on_node k rows) one) i) (before i))
    ∙ sym (ap (fold (λ members k. with_node look k (on_node k rows) members) no_members) (range_more n 1)
    ∙ fold-append (λ members k. with_node look k (on_node k rows) members) no_members (range_with_len 1 n) ((1 + n) ∷ []))

pub nodes_more : (look : TaskInfo → Data) (rows here : List TaskInfo) (done now : Members) (node : ℕ) → 1 ≤ node → here ≡ on_node node rows → done ≡ first_nodes look rows (node - 1)
    → now ≡ with_node look node here done → now ≡ first_nodes look rows (node + 1 - 1)
nodes_more look rows here done now node low is before did =
    let back : suc (node - 1) ≡ node + 1 - 1 = omega arith in
    one_node_more look rows here done now (node - 1) node (omega arith) is before did ∙ ap (first_nodes look rows) back

-- the nodes from 1 up to the last
pub nodes_are : (look : List Data → TaskInfo → Data) (rows : List TaskInfo) (nodes : Members) (node : ℕ) (whole : Data) → node ≡ 16 → nodes ≡ first_nodes (look []) rows (node - 1) → whole ≡ object nodes
    → object_with ((codes "nodes", whole) ∷ []) ≡ list_json groups.Nodes look rows
nodes_are look rows nodes node whole last are is = ap (λ w. object_with ((codes "nodes", w) ∷ [])) (is ∙ ap object (are ∙ ap (first_nodes (look []) rows) (ap (λ n. n - 1) last)))
