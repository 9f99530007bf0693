use Rattle.std.proofs.Common.{◌∙◌, ◌||◌, ap, refl}
use Rattle.std.specs.List.{list_any}
use Rattle.std.specs.Str.{bytes_eq}
use Rattle.std.proofs.lemmas.List.{take_all}
use Rattle.corpus_shards.specs.Stored.{was_there}
use Rattle.corpus_shards.proofs.Known.{none_more, one_more}
use Rattle.corpus_shards.proofs.Shards.know_all.Goals as goal

pub loop-index-init : goal.loop-index-init
loop-index-init c = (c.requires.none_made, λ q. none_more (was_there c.args.self.now q), λ corpus shards oldest has. has, λ q shard. refl, refl)

pub loop-index-preserved : goal.loop-index-preserved
loop-index-preserved c = (
  c.in_ok-know.ensures.none_made,
  λ q. one_more c.args.indices.now c.loop-index.index-index c.index-item.result q c.as_str.result.now (was_there c.args.self.now q) (was_there c.loop-index.self q) (was_there c.know.new.self q)
      c.loop-index-test.true c.index-item.is c.as_str.ensures (c.in_ok-know.ensures.known q) (c.loop-index.invariant.1 q),
  λ corpus shards oldest has. c.in_ok-know.ensures.written corpus shards oldest (c.loop-index.invariant.2 corpus shards oldest has),
  λ q shard. c.know.ensures.same q shard ∙ c.loop-index.invariant.3 q shard,
  c.know.ensures.stale ∙ c.loop-index.invariant.4,
)

pub returns-clause-known : goal.returns-clause-known
returns-clause-known c = λ q. c.loop-index.invariant.1 q ∙ ap (λ indices. was_there c.args.self.now q || list_any (bytes_eq q) indices) (take_all c.loop-index.index-index c.args.indices.now c.loop-index-test.false)

pub returns-in_err-know-clause-written : goal.returns-in_err-know-clause-written
returns-in_err-know-clause-written c = λ corpus shards oldest has. c.know.ensures.written corpus shards oldest (c.loop-index.invariant.2 corpus shards oldest has)

pub returns-in_err-know-clause-same : goal.returns-in_err-know-clause-same
returns-in_err-know-clause-same c = λ q shard. c.know.ensures.same q shard ∙ c.loop-index.invariant.3 q shard

pub returns-in_err-know-clause-stale : goal.returns-in_err-know-clause-stale
returns-in_err-know-clause-stale c = c.know.ensures.stale ∙ c.loop-index.invariant.4

pub returns-clause-same : goal.returns-clause-same
returns-clause-same c = c.loop-index.invariant.3

pub returns-clause-stale : goal.returns-clause-stale
returns-clause-stale c = c.loop-index.invariant.4
