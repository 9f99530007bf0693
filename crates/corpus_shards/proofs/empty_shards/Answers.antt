use Rattle.std.proofs.Common.{◌∙◌, arith, [], ◌∷◌, ◌++◌, ap}
use Rattle.std.proofs.lemmas.List.FromFn.{map-range_with_len_more}
use Rattle.shard_docs.specs.ShardView.{ShardView, empty_shard}
use Rattle.corpus_shards.proofs.empty_shards.Goals as goal

pub loop-preserved : goal.loop-preserved
loop-preserved c = rw (map-range_with_len_more {X = ShardView} (λ _. empty_shard) 0 c.loop.counter c.loop.counter (omega arith)) (c.in_ok-push.ensures.items ∙ ap (λ x. c.loop.shards.items ++ x ∷ []) c.new.ensures ∙ ap (λ xs. xs ++ empty_shard ∷ []) c.loop.invariant)
