use Rattle.std.proofs.Common.{◌≡◌, drop}
use Rattle.task_ids.specs.Json.{json_items}
use Rattle.query_parse.specs.Bodies.{entries_of}
use Rattle.query_parse.proofs.Entries.{with_entries}
use Rattle.query_parse.proofs.sort_reading.read_entries.Given as goal

abbrev pub invariant-loop-value : goal.invariant-loop-value
invariant-loop-value l = with_entries l.entries.items (entries_of (json_items (drop l.value-index l.values))) ≡ entries_of (json_items l.values)
