use Rattle.std.proofs.Common.{◌≡◌, sym, arith, subst}
use Rattle.std.specs.Prelude.{None}
use Rattle.task_events.specs.Readings.{Reading, search_reading}
use Rattle.search_phase.specs.Searching.{IsReading}
use Rattle.search_phase.proofs.Readings.{search_is_reading}
use Rattle.search_phase.proofs.reading.search_reading.Goals as goal

pub returns-clause-sound : goal.returns-clause-sound
returns-clause-sound c =
    let reading : Reading = record { ask = c.in_ok-copy.field-0; shards = c.in_ok-newest_shards.field-0; after = None; context = c.context_of.result } in
    let same : reading ≡ search_reading c.args.task c.args.ask.now c.args.shards = λ i. record { ask = c.in_ok-copy.ensures i; shards = c.in_ok-newest_shards.ensures i; after = None; context = c.context_of.ensures i } in
    subst IsReading (sym same) (search_is_reading c.args.task c.args.ask.now c.args.shards (omega arith))
