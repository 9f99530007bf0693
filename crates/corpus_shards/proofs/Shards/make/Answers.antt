use Rattle.std.proofs.Common.{sym, ap, ◌∙◌}
use Rattle.std.specs.HashSet.{contains_text}
use Rattle.corpus_shards.proofs.Made.{noted, start_still, others_either, noted_written}
use Rattle.corpus_shards.proofs.Shards.make.Goals as goal

pub returns-clause-from_start : goal.returns-clause-from_start
returns-clause-from_start c =
    let s = c.args.self.now in
    start_still s c.add.new.self c.args.index.now (sym c.if-contains_key.ensures) (others_either s c.add.new.self c.args.index.now c.add.result c.add.ensures.added c.add.ensures.err)
    (λ q. ap (λ made. contains_text made q) c.add.ensures.made ∙ noted s.made c.insert.new.self c.in_ok-from_str.field-0 c.args.index.now c.in_ok-from_str.ensures.ok c.in_ok-insert.ensures.updates q)

pub returns-clause-written : goal.returns-clause-written
returns-clause-written c = λ corpus shards oldest has. c.add.ensures.written corpus shards oldest (noted_written c.args.self.now c.insert.new.self corpus shards oldest has)
