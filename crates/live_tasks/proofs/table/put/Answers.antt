-- The place is free again where the task cannot be kept.
use Rattle.std.proofs.Common.{None, Some}
use Rattle.std.specs.BTreeMap as tree
use Rattle.live_tasks.specs.Order.{place_cmp}
use Rattle.live_tasks.proofs.Keys.{place_updated, places_eq, taken_back}
use Rattle.live_tasks.proofs.table.put.Goals as goal

pub returns-in-Err-keep-clause-err : goal.returns-in-Err-keep-clause-err
returns-in-Err-keep-clause-err c = (
  c.in-Err-keep.ensures.err,
  taken_back places_eq (tree.get place_cmp c.args.places.now) (tree.get place_cmp c.insert.new.self) (tree.get place_cmp c.remove.new.self) c.args.entry.place (Some c.args.number) c.requires.place
      (place_updated c.args.places.now c.insert.new.self c.args.entry.place (Some c.args.number) c.in-Ok.ensures.updates) (place_updated c.insert.new.self c.remove.new.self c.args.entry.place None c.remove.ensures.updates),
)
