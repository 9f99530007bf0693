use Rattle.std.proofs.Common.{◌<◌, ◌≤◌, length, suc, arith}
use Rattle.shard_docs.proofs.LinesLemmas.{lines-unended, lines-ended, rest_after, ends_at, ends_empty}
use Rattle.shard_docs.proofs.lines.split_line.Goals as goal

pub returns-in_default-clause-found : goal.returns-in_default-clause-found
returns-in_default-clause-found c =
    let some : 0 < length c.args.bytes.now = grind (arith, c.if-is_empty.ensures) in
    lines-unended c.args.bytes.now some c.in_default.ensures

pub returns-in_default-clause-ends : goal.returns-in_default-clause-ends
returns-in_default-clause-ends c = ends_empty c.args.bytes.now

pub returns-clause-found : goal.returns-clause-found
returns-clause-found c =
    let first = c.in-Some.ensures in
    rw (c.without_carriage_return.ensures, c.split_at.ensures.front, c.split_at.ensures.back, rest_after c.args.bytes.now c.in-Some.end first.0.high)
    (lines-ended c.args.bytes.now c.in-Some.end first.0 first.1)

pub returns-clause-ends : goal.returns-clause-ends
returns-clause-ends c =
    let first = c.in-Some.ensures in
    let within : suc c.in-Some.end ≤ length c.args.bytes.now = omega (arith, first.0.high) in
    rw (c.split_at.ensures.back, rest_after c.args.bytes.now c.in-Some.end first.0.high)
    (ends_at c.args.bytes.now (suc c.in-Some.end) within)
