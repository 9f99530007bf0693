use Rattle.std.proofs.Common.{false}
use Rattle.scroll_table.specs.Versions.{keeps}
use Rattle.scroll_table.proofs.Versioned.{all_written}
use Rattle.scroll_table.proofs.versions.Versions.remove.Goals as goal

pub returns : goal.returns
returns c =
    let counts = c.as_slice-count-items in
    all_written false c.args.id c.args.context.now counts.result.now c.loop-count.count-index counts.ensures.shards c.loop-count-test.false counts.ensures.counts.ascend (keeps c.args.self.now) (keeps c.loop-count.self) c.loop-count.invariant
