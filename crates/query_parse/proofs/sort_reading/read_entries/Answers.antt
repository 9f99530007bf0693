use Rattle.std.proofs.lemmas.Result.{err_from_is_err_and}
use Rattle.query_parse.proofs.Entries.{goes_on, ends, is_done}
use Rattle.query_parse.proofs.sort_reading.read_entries.Goals as goal

pub returns-in_err-read_entry : goal.returns-in_err-read_entry
returns-in_err-read_entry c =
    let p = err_from_is_err_and c.from_residual-in_err-read_entry.result c.from_residual-in_err-read_entry.ensures.1 in
    rw (p.1, p.2)
    (ends c.in_err-read_entry.field-0.0 c.loop-value.entries.items c.loop-value.value-index c.args.values.now c.value-item.result _ c.loop-value-test.true c.value-item.is c.in_err-read_entry.ensures c.loop-value.invariant)

pub loop-value-preserved : goal.loop-value-preserved
loop-value-preserved c =
    rw c.in_ok-push.ensures.items
    (goes_on c.loop-value.entries.items c.loop-value.value-index c.args.values.now c.value-item.result _ _ c.loop-value-test.true c.value-item.is c.in_ok-read_entry.ensures c.loop-value.invariant)

pub returns : goal.returns
returns c = is_done c.loop-value.entries.items c.loop-value.value-index c.args.values.now _ c.loop-value-test.false c.loop-value.invariant
