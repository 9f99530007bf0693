use Rattle.std.proofs.Common.{◌∷◌, [], ◌++◌, ◌∙◌, List, ap, sym, map, take}
use Rattle.std.proofs.lemmas.List.{map_more, take_all}
use Rattle.serde_json.specs.Data.{Data, array}
use Rattle.serde_json.specs.View.{items_of}
use Rattle.serde_json.proofs.Views.{view-Array}
use Rattle.task_events.specs.declared.reply.FailedShard.{FailedShard}
use Rattle.line_print.specs.Errors.{failed_shard}
use Rattle.line_print.proofs.errors.failed_shards.Goals as goal

pub loop-shard-preserved : goal.loop-shard-preserved
loop-shard-preserved c =
    c.in_ok-push_failed.ensures
    ∙ ap (λ (told : List Data). told ++ failed_shard c.shard-item.result ∷ []) c.loop-shard.invariant
    ∙ ap (λ (shard : FailedShard). map failed_shard (take c.loop-shard.shard-index c.args.failed.now) ++ failed_shard shard ∷ []) c.shard-item.is
    ∙ sym (map_more failed_shard c.args.failed.now c.loop-shard.shard-index c.shard-item.result c.loop-shard-test.true)

pub returns : goal.returns
returns c =
    view-Array c.loop-shard.values
    ∙ ap (λ (told : List Data). array (items_of told))
    (c.loop-shard.invariant ∙ ap (map failed_shard) (take_all c.loop-shard.shard-index c.args.failed.now c.loop-shard-test.false))
