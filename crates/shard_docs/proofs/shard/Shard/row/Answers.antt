use Rattle.std.proofs.Common.{cond, None, sym, ap, ◌∙◌}
use Rattle.std.proofs.lemmas.Bool.{lt-ltb, le-ltb}
use Rattle.task_ids.specs.Rows.{row_at}
use Rattle.shard_docs.specs.SeenRows.{doc_alive}
use Rattle.std.specs.List.{slice_get}
use Rattle.shard_docs.proofs.RowLemmas.{row_seen}
use Rattle.shard_docs.proofs.ShardParts.{same_writes}
use Rattle.shard_docs.proofs.shard.Shard.row.Goals as goal

pub returns-then-place-version : goal.returns-then-place-version
returns-then-place-version c =
    let rows = c.self.inside.rows.rows in
    let there = doc_alive c.args.version (slice_get rows c.args.place) in
    c.alive.ensures ∙ sym (ap (λ l. row_at c.args.version c.args.place l) (sym (same_writes c.self.view_is)) ∙ row_seen rows c.self.invariant.0.0.died c.args.version c.args.place ∙ ap (λ b. cond b there None) (lt-ltb c.args.place c.args.version c.if-place-version.true))

pub returns-else-place-version : goal.returns-else-place-version
returns-else-place-version c =
    let rows = c.self.inside.rows.rows in
    let there = doc_alive c.args.version (slice_get rows c.args.place) in
    sym (ap (λ l. row_at c.args.version c.args.place l) (sym (same_writes c.self.view_is)) ∙ row_seen rows c.self.invariant.0.0.died c.args.version c.args.place ∙ ap (λ b. cond b there None) (le-ltb c.args.place c.args.version c.if-place-version.false))
