use Rattle.std.proofs.Common.{ℕ, List, ◌∙◌, length, ap, arith}
use Rattle.task_ids.specs.declared.doc.Doc.{Doc}
use Rattle.task_events.specs.BulkTask.{part_with, docs_in}
use Rattle.reindex.proofs.BatchLemmas.{flat_map_next, few_parts}
use Rattle.reindex.proofs.batch.parts_of.Goals as goal

pub loop-shard-preserved : goal.loop-shard-preserved
loop-shard-preserved c =
    flat_map_next (λ (shard : ℕ). part_with c.args.ask.now.dest shard (docs_in c.args.ask.now.docs c.args.shards shard)) c.loop-shard.shard _ _ _ c.loop-shard.invariant c.in_ok-add_part.ensures
    (ap (part_with c.args.ask.now.dest c.loop-shard.shard) (c.in_ok-docs.ensures ∙ ap (λ (docs : List Doc). docs_in docs c.args.shards c.loop-shard.shard) c.as_slice.ensures))

pub returns-clause-few : goal.returns-clause-few
returns-clause-few c = omega (arith, ap length c.loop-shard.invariant, few_parts c.args.ask.now c.args.shards 0 c.loop-shard.shard)
