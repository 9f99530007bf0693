-- The next number is above those of all asks, whether one more was answered or not.
use Rattle.std.specs.Prelude.{◌+◌}
use Rattle.work_tests.proofs.AskedAbove.{fed}
use Rattle.work_tests.proofs.pages.step.Goals as goal

pub returns : goal.returns
returns c = fed c.feed.result (c.args.number + 1) c.args.number c.in_ok-reply.reply c.ask_next.new.root c.feed.new.self c.feed.ensures.ok c.feed.ensures.err c.ask_next.ensures
