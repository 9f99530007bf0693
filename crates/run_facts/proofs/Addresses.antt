-- Two addresses with one inbox are one.
use Rattle.std.proofs.Common.{◌≡◌, ℕ, ◌+◌, ◌*◌, ◌-◌, ◌<◌, ◌≤◌, ◌&&◌, nat_le, nat_lt, Bool, true, false, if◌then◌else◌, Some, None, refl, sym, ap, ◌∙◌, subst, arith}
use Rattle.std.specs.Prelude.{◌/◌}
use Rattle.std.proofs.Math.Nat.{mul_comm}
use Rattle.std.proofs.lemmas.Bool.{and_parts}
use Rattle.std.proofs.lemmas.Nat.{div-mul-add}
use Rattle.std.proofs.lemmas.Bool.Decides.{nat_tests}
use Rattle.run_facts.specs.declared.To.{To}
use Rattle.run_facts.specs.declared.To.TheVariants as to
use Rattle.run_facts.specs.Inboxes.{inbox_of}

-- the place of an address's node among the nodes, and of its worker on the node; the driver's is past the last node
abbrev row : ℕ → To → ℕ
row nodes (to.Control node) = node - 1
row nodes (to.Data node worker) = node - 1
row nodes to.Driver = nodes

abbrev column : To → ℕ
column (to.Control node) = 0
column (to.Data node worker) = 1 + worker
column to.Driver = 0

-- the cluster has the worker
abbrev IsThere : ℕ → ℕ → To → Type 0
IsThere nodes workers (to.Control node) = (1 ≤ node) × (node ≤ nodes)
IsThere nodes workers (to.Data node worker) = (1 ≤ node) × (node ≤ nodes) × (worker < workers)
IsThere nodes workers to.Driver = Unit {0}

-- so its inbox is this
abbrev IsAt : ℕ → ℕ → To → ℕ → Type 0
IsAt nodes workers a i = IsThere nodes workers a × (i ≡ (workers + 1) * row nodes a + column a) × (column a < workers + 1)

given : (b : Bool) (n i : ℕ) → (if b then Some n else None) ≡ Some i → (b ≡ true) × (i ≡ n)
given true n i is = (refl, cc)
given false n i is = absurd (cc)

in_range : (n nodes : ℕ) → (nat_le 1 n && nat_le n nodes) ≡ true → (1 ≤ n) × (n ≤ nodes)
in_range n nodes is = let parts = and_parts (nat_le 1 n) (nat_le n nodes) is in (grind (arith, nat_tests, parts.0), grind (arith, nat_tests, parts.1))

below : (n m : ℕ) → nat_lt n m ≡ true → n < m
below n m is = grind (arith, nat_tests, is)

found : (nodes workers i : ℕ) (a : To) → inbox_of nodes workers a ≡ Some i → IsAt nodes workers a i
found nodes workers i (to.Control node) is =
    let (there, at) = given (nat_le 1 node && nat_le node nodes) ((workers + 1) * (node - 1)) i is in
    let within = in_range node nodes there in
    (within, (let e = at in omega (arith, e)), omega arith)
found nodes workers i (to.Data node worker) is =
    let (there, at) = given (nat_le 1 node && nat_le node nodes && nat_lt worker workers) ((workers + 1) * (node - 1) + 1 + worker) i is in
    let (node_there, worker_there) = and_parts (nat_le 1 node && nat_le node nodes) (nat_lt worker workers) there in
    let within = in_range node nodes node_there in
    let low = below worker workers worker_there in
    ((within.0, within.1, low), (let e = at in omega (arith, e)), omega (arith, low))
found nodes workers i to.Driver is = (tt, (let e : (workers + 1) * nodes ≡ i = cc in omega (arith, e)), omega arith)

-- places in rows of one width
same_place : (w a b x y : ℕ) → x < w → y < w → w * a + x ≡ w * b + y → (a ≡ b) × (x ≡ y)
same_place w a b x y low high is =
    let left : w * a + x ≡ a * w + x = ap (λ n. n + x) (mul_comm w a) in
    let right : w * b + y ≡ b * w + y = ap (λ n. n + y) (mul_comm w b) in
    let rows : a ≡ b = sym (div-mul-add a w x low) ∙ ap (λ n. n / w) (sym left ∙ is ∙ right) ∙ div-mul-add b w y high in
    (rows, let now : w * b + x ≡ w * b + y = subst (λ n. w * n + x ≡ w * b + y) rows is in omega (arith, now))

same_worker : (nodes workers : ℕ) (a b : To) → IsThere nodes workers a → IsThere nodes workers b → row nodes a ≡ row nodes b → column a ≡ column b → a ≡ b
same_worker nodes workers (to.Control n) (to.Control m) (low, high) (low', high') rows columns = ap to.Control (omega (arith, low, low', rows))
same_worker nodes workers (to.Control n) (to.Data m k) p q rows columns = absurd (omega (arith, columns))
same_worker nodes workers (to.Control n) to.Driver (low, high) q rows columns = absurd (omega (arith, low, high, rows))
same_worker nodes workers (to.Data n j) (to.Control m) p q rows columns = absurd (omega (arith, columns))
same_worker nodes workers (to.Data n j) (to.Data m k) (low, high, p) (low', high', q) rows columns =
    let one : n ≡ m = omega (arith, low, low', rows) in
    let other : j ≡ k = omega (arith, columns) in
    λ i. to.Data (one i) (other i)
same_worker nodes workers (to.Data n j) to.Driver p q rows columns = absurd (omega (arith, columns))
same_worker nodes workers to.Driver (to.Control m) p (low, high) rows columns = absurd (omega (arith, low, high, rows))
same_worker nodes workers to.Driver (to.Data m k) p q rows columns = absurd (omega (arith, columns))
same_worker nodes workers to.Driver to.Driver p q rows columns = refl

pub one_address : (nodes workers i : ℕ) (a b : To) → inbox_of nodes workers a ≡ Some i → inbox_of nodes workers b ≡ Some i → a ≡ b
one_address nodes workers i a b one other =
    let (there, at, low) = found nodes workers i a one in
    let (there', at', low') = found nodes workers i b other in
    let (rows, columns) = same_place (workers + 1) (row nodes a) (row nodes b) (column a) (column b) low low' (sym at ∙ at') in
    same_worker nodes workers a b there there' rows columns
