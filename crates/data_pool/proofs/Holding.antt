-- What is kept of a range has each number of the range that passes.
use Rattle.std.proofs.Common.{◌≡◌, ℕ, zero, suc, ◌+◌, ◌<◌, ◌≤◌, Bool, true, false, cond, List, [], ◌∷◌, Contains, filter, inl, inr, subst, sym, arith, refl, eq-eqb}
use Rattle.std.proofs.lemmas.Bool.{and_from}
use Rattle.std.proofs.lemmas.Bool.Decides.{eqb_tells}
use Rattle.std.proofs.lemmas.List.Elements.{Contains-append_right}
use Rattle.std.specs.List.{range_with_len}
use Rattle.task_ids.specs.Placing.{node_of}
use Rattle.data_pool.specs.Workers.{worker_of_shard, is_held, shards_of}
use Rattle.data_pool.specs.declared.pool.Pool.{Pool}

kept : (b : Bool) (x y : ℕ) (rest : List ℕ) → Contains rest y → Contains (cond b (x ∷ rest) rest) y
kept true x y rest there = Contains-append_right (x ∷ []) rest y there
kept false x y rest there = there

first : (b : Bool) (x y : ℕ) (rest : List ℕ) → x ≡ y → b ≡ true → Contains (cond b (x ∷ rest) rest) y
first true x y rest e h = (0, omega arith, e)
first false x y rest e h = absurd cc

passes : (p : ℕ → Bool) (from n y : ℕ) → from ≤ y → y < from + n → p y ≡ true → Contains (filter p (range_with_len from n)) y
passes p from zero y low high h = absurd (omega arith)
passes p from (suc n) y low high h = elim (eqb_tells from y) [
  | inl t ↦ first (p from) from y (filter p (range_with_len (from + 1) n)) t.1 (subst (λ (z : ℕ). p z ≡ true) (sym t.1) h)
  | inr t ↦ kept (p from) from y (filter p (range_with_len (from + 1) n)) (passes p (from + 1) n y (let ne = t.1 in omega arith) (omega arith) h)
]

-- each shard is held by its worker, on its node
pub is_held_there : (pool : Pool) (shard : ℕ) → shard < pool.shards → Contains (shards_of pool (node_of shard pool.nodes) (worker_of_shard pool shard)) shard
is_held_there pool shard low =
    passes (is_held pool (node_of shard pool.nodes) (worker_of_shard pool shard)) 0 pool.shards shard (omega arith) (omega arith)
    (and_from _ _ (eq-eqb (node_of shard pool.nodes) _ refl) (eq-eqb (worker_of_shard pool shard) _ refl))
