use Rattle.std.proofs.Common.{◌≡◌, sym, ◌∙◌, ap, map, subst}
use Rattle.std.specs.Prelude.{Some}
use Rattle.task_events.specs.declared.reading.ShardRead.TheVariants.{Kept}
use Rattle.task_events.specs.Readings.{Reading, page_reading}
use Rattle.search_phase.specs.Searching.{IsReading}
use Rattle.search_phase.proofs.Readings.{page_is_reading}
use Rattle.search_phase.proofs.reading.page_reading.Goals as goal

pub returns-clause-sound : goal.returns-clause-sound
returns-clause-sound c =
    let context = c.args.context.now in
    let ask = c.in_ok-ask.ensures ∙ c.get.ensures in
    let shards = c.in_ok-shards.ensures ∙ ap (map Kept) c.as_slice.ensures.shards in
    let reading : Reading = record { ask = c.in_ok-ask.ask; shards = c.in_ok-shards.shards; after = c.in_ok-after.after; context = Some context.id } in
    let same : reading ≡ page_reading context = λ i. record { ask = ask i; shards = shards i; after = c.in_ok-after.ensures i; context = Some context.id } in
    subst IsReading (sym same) (page_is_reading context c.as_slice.ensures.counts)
