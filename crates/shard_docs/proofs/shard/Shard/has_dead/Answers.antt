use Rattle.std.proofs.Common.{◌≡◌, ◌≤◌, not, length, deque_len, ap, subst, ◌∙◌, arith, rules}
use Rattle.std.specs.Prelude.{◌==◌}
use Rattle.std.proofs.lemmas.List.{length-map}
use Rattle.shard_docs.specs.SeenRows.{SeenRow}
use Rattle.shard_docs.specs.ShardView.{ShardView, has_dead}
use Rattle.shard_docs.proofs.DeathQueue.{some_kept}
use Rattle.shard_docs.proofs.TableLemmas.{docs_of}
use Rattle.shard_docs.proofs.shard.Shard.has_dead.Goals as goal

pub returns : goal.returns
returns c =
    let s = c.self.inside.rows in
    let many : deque_len c.self.inside.deaths ≡ length c.self.inside.deaths.items = search rules in
    let low : s.oldest ≤ length (docs_of s.rows) = let all = length-map s.rows (λ (r : SeenRow). r.doc) in omega (arith, c.self.invariant.0.1, all) in
    subst (λ (v : ShardView). not c.is_empty.result ≡ has_dead v) c.self.view_is (some_kept s.oldest (docs_of s.rows) c.self.inside.deaths.items c.self.invariant.1 low c.is_empty.result (c.is_empty.ensures ∙ ap (λ n. n == 0) many))
