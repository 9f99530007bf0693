use Rattle.std.proofs.Common.{refl}
use Rattle.corpus_shards.proofs.Made.{entered, has_made, same_shards, still_written}
use Rattle.corpus_shards.proofs.Shards.add.Goals as goal

pub returns-clause-added : goal.returns-clause-added
returns-clause-added c =
    let s = c.args.self.now in
    has_made s (record s { by_index = c.insert.new.self }) c.args.index.now c.requires.none c.in_ok-shards.shards c.in_ok-shards.ensures
    (entered s.by_index c.insert.new.self c.in_ok-from_str.field-0 c.args.index.now c.in_ok-shards.shards c.in_ok-from_str.ensures.ok c.in_ok-insert.ensures.updates)

pub returns-clause-same : goal.returns-clause-same
returns-clause-same c =
    let s = c.args.self.now in
    same_shards s (record s { by_index = c.insert.new.self }) c.args.index.now c.requires.none c.in_ok-shards.shards c.in_ok-shards.ensures
    (entered s.by_index c.insert.new.self c.in_ok-from_str.field-0 c.args.index.now c.in_ok-shards.shards c.in_ok-from_str.ensures.ok c.in_ok-insert.ensures.updates)

pub returns-clause-written : goal.returns-clause-written
returns-clause-written c =
    let s = c.args.self.now in
    still_written s (record s { by_index = c.insert.new.self }) c.args.index.now c.requires.none c.in_ok-shards.shards c.in_ok-shards.ensures
    (entered s.by_index c.insert.new.self c.in_ok-from_str.field-0 c.args.index.now c.in_ok-shards.shards c.in_ok-from_str.ensures.ok c.in_ok-insert.ensures.updates)
    refl refl
