-- Which nodes are awaited: those of a test over all nodes.
use Rattle.std.proofs.Common.{◌≡◌, ℕ, zero, suc, ◌+◌, ◌<◌, ◌≤◌, ◌==◌, nat_lt, List, [], ◌∷◌, Bool, true, false, not, ◌&&◌, ◌||◌, cond, filter, Contains, None, length, get_or, refl, sym, ap, subst, ◌∙◌, arith, inl, inr}
use Rattle.std.specs.List.{range_with_len}
use Rattle.std.specs.Int.{bit_at}
use Rattle.std.proofs.lemmas.List.Elements.{All-contains, All-filter, filter_passes, Contains-append_right}
use Rattle.std.proofs.lemmas.List.FromFn.{length-range_with_len, get_or-range_with_len}
use Rattle.std.proofs.lemmas.Bool.{cases_eq, and_parts}
use Rattle.std.proofs.lemmas.Bool.Decides.{nat_tests}
use Rattle.task_ids.specs.Limits.{IsNode}
use Rattle.child_track.specs.declared.nodes.NodeSet.{NodeSet}
use Rattle.child_track.specs.NodeSet.{has_node, all_nodes, nodes_of}
use Rattle.child_track.proofs.NodeLemmas.{has_node-none}
use Rattle.cancel_core.specs.declared.act.Waiter.{Waiter}
use Rattle.cancel_core.specs.declared.stage.Stage.{Stage}
use Rattle.cancel_core.specs.Cancellation.{opened, with_ack}
use Rattle.cancel_core.specs.Stage.{is_open_at, seen}

and_not : (a b : Bool) → b ≡ false → (a && not b) ≡ a
and_not true b e = ap not e
and_not false b e = refl

-- where no node has acknowledged, each banned node is awaited
pub seen-opened : (cancel : ℕ) (asked : NodeSet) (waiters : List Waiter) → waiters ≡ [] → seen (record { cancel = cancel; banned = asked; acked = record { 0 = 0 }; receipt = None }) waiters ≡ opened cancel (nodes_of asked)
seen-opened cancel asked waiters e = λ i. record {
  cancel = cancel;
  banned = nodes_of asked;
  awaited = filter (λ n. and_not (has_node asked n) (has_node (record { 0 = 0 }) n) (has_node-none n) i) all_nodes;
  waiters = e i;
  receipt = None;
}

without_one : (a b e : Bool) → (a && not (b || e)) ≡ ((a && not b) && not e)
without_one false b e = refl
without_one true true e = refl
without_one true false e = refl

filter_twice : (p q : ℕ → Bool) (ns : List ℕ) → filter (λ n. p n && q n) ns ≡ filter q (filter p ns)
filter_twice p q [] = refl
filter_twice p q (n ∷ ns) = elim (p n) as (λ b. cond (b && q n) (n ∷ filter (λ m. p m && q m) ns) (filter (λ m. p m && q m) ns) ≡ filter q (cond b (n ∷ filter p ns) (filter p ns))) [
  | true ↦ ap (λ ms. cond (q n) (n ∷ ms) ms) (filter_twice p q ns)
  | false ↦ filter_twice p q ns
]

-- a node that acknowledges is no longer awaited
pub seen-ack : (stage next : Stage) (from : ℕ) (waiters : List Waiter) → next.cancel ≡ stage.cancel → next.banned ≡ stage.banned → next.receipt ≡ stage.receipt → ((n : ℕ) → has_node next.acked n ≡ (has_node stage.acked n || (n == from))) → seen next waiters ≡ with_ack (seen stage waiters) from
seen-ack stage next from waiters cancels banned receipts acked =
    let test : (n : ℕ) → is_open_at next n ≡ (is_open_at stage n && not (n == from)) = λ n.
    (λ i. has_node (banned i) n && not (acked n i)) ∙ without_one (has_node stage.banned n) (has_node stage.acked n) (n == from) in
    let nodes : filter (is_open_at next) all_nodes ≡ filter (λ n. not (n == from)) (filter (is_open_at stage) all_nodes) =
    (λ i. filter (λ n. test n i) all_nodes) ∙ filter_twice (is_open_at stage) (λ n. not (n == from)) all_nodes in
    λ i. record { cancel = cancels i; banned = nodes_of (banned i); awaited = nodes i; waiters = waiters; receipt = receipts i }

range_in : (a k i d : ℕ) → i < length (range_with_len a k) → (a ≤ get_or (range_with_len a k) i d) × (get_or (range_with_len a k) i d < a + k)
range_in a k i d h =
    let within : i < k = omega (arith, length-range_with_len a k) in
    let item = get_or-range_with_len a k i d within in
    (omega (arith, item), omega (arith, item))

-- what passes over the nodes is a node
pub node_awaited : (p : ℕ → Bool) (n : ℕ) → Contains (filter p all_nodes) n → IsNode n × (p n ≡ true)
unfolding all_nodes
node_awaited p n within =
    let node = All-contains (λ m. (1 ≤ m) × (m < 16)) (filter p all_nodes) n (All-filter p (λ m. (1 ≤ m) × (m < 16)) all_nodes (range_in 1 15)) within in
    ((node.0, omega (arith, node.1)), All-contains (λ m. p m ≡ true) (filter p all_nodes) n (filter_passes p all_nodes) within)

found_in_range : (p : ℕ → Bool) (n a k : ℕ) → a ≤ n → n < a + k → p n ≡ true → Contains (filter p (range_with_len a k)) n
found_in_range p n a zero low high passes = absurd (omega arith)
found_in_range p n a (suc k) low high passes =
    elim (cases_eq n a) [
      | inl same ↦ subst (λ b. Contains (cond b (a ∷ filter p (range_with_len (a + 1) k)) (filter p (range_with_len (a + 1) k))) n) (sym (ap p (sym same) ∙ passes)) (0, omega arith, sym same)
      | inr other ↦ (let later = found_in_range p n (a + 1) k (omega arith) (omega arith) passes in
          elim (p a) as (λ b. Contains (cond b (a ∷ filter p (range_with_len (a + 1) k)) (filter p (range_with_len (a + 1) k))) n) [
            | true ↦ Contains-append_right (a ∷ []) (filter p (range_with_len (a + 1) k)) n later
            | false ↦ later
          ])
    ]

-- a node that passes is found
pub awaited_node : (p : ℕ → Bool) (n : ℕ) → IsNode n → p n ≡ true → Contains (filter p all_nodes) n
unfolding all_nodes
awaited_node p n node passes = found_in_range p n 1 15 node.0 (omega (arith, node.1)) passes

below_16 : (set : NodeSet) (n : ℕ) → has_node set n ≡ true → n < 16
unfolding has_node
below_16 set n h = let parts = and_parts (nat_lt n 16) (bit_at set.0 n == 1) h in grind (arith, nat_tests, parts.0)

-- only nodes up to 15 are in a set
pub open_below : (stage : Stage) (n : ℕ) → is_open_at stage n ≡ true → n ≤ 15
open_below stage n h =
    let parts = and_parts (has_node stage.banned n) (not (has_node stage.acked n)) h in
    let below = below_16 stage.banned n parts.0 in
    omega arith
