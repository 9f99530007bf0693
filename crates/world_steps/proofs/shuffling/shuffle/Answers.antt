use Rattle.world_steps.proofs.Shuffled.{none_left, part_of_shuffle, stop_of_shuffle, shuffled_on}
use Rattle.world_steps.proofs.shuffling.shuffle.Goals as goal

pub loop-preserved : goal.loop-preserved
loop-preserved c =
    shuffled_on c.args.state.now c.loop.state c.args.seed c.args.moves c.loop.ready c.loop.counter c.loop.chance c.next_number-chance.result c.loop-test.true c.loop.invariant c.next_number-chance.ensures c.in-Some.chosen c.in-Some.ensures.chosen
    c.make.new.state c.make.new.ready c.in-Ok.ensures.tied c.in-Ok.ensures.known c.in-Ok.ensures.keeps c.in-Ok.ensures.made

pub returns-in_default-clause-shuffled : goal.returns-in_default-clause-shuffled
returns-in_default-clause-shuffled c =
    none_left c.args.state.now c.loop.state c.args.seed c.args.moves c.loop.ready c.loop.counter c.loop.chance c.next_number-chance.result c.loop-test.true c.loop.invariant c.next_number-chance.ensures c.in_default.ensures.none

pub returns-in-Err-clause-part : goal.returns-in-Err-clause-part
returns-in-Err-clause-part c =
    part_of_shuffle c.args.state.now c.loop.state c.args.seed c.args.moves c.loop.ready c.loop.counter c.loop.chance c.next_number-chance.result c.loop-test.true c.loop.invariant c.next_number-chance.ensures c.in-Some.chosen c.in-Some.ensures.chosen
    _ c.in-Err.ensures.part

pub returns-in-Err-clause-stop : goal.returns-in-Err-clause-stop
returns-in-Err-clause-stop c =
    stop_of_shuffle c.args.state.now c.loop.state c.args.seed c.args.moves c.loop.ready c.loop.counter c.loop.chance c.next_number-chance.result c.loop-test.true c.loop.invariant c.next_number-chance.ensures c.in-Some.chosen c.in-Some.ensures.chosen
    _ c.in-Err.stop c.in-Err.ensures.stop
