use Rattle.std.proofs.Common.{◌≡◌, ◌+◌, ◌*◌, drop}
use Rattle.task_ids.specs.Json.{json_view, json_items, json_members}
use Rattle.query_parse.specs.Paths.{path_text}
use Rattle.query_parse.specs.Reading.{queries_at}
use Rattle.query_parse.proofs.Nodes.{with_nodes}
use Rattle.query_parse.proofs.Sizes.{data_size, items_size, members_size}
use Rattle.query_parse.proofs.reading.+read.Given as goal

abbrev pub decreases-read_node : goal.decreases-read_node
decreases-read_node l = 2 * data_size (json_view l.value.now)

abbrev pub decreases-read_entry : goal.decreases-read_entry
decreases-read_entry l = 2 * members_size (json_members l.members.now)

abbrev pub decreases-read_named : goal.decreases-read_named
decreases-read_named l = 2 * data_size (json_view l.value.now)

abbrev pub decreases-read_bool : goal.decreases-read_bool
decreases-read_bool l = 2 * members_size (json_members l.members.now) + 1

abbrev pub decreases-read_clause : goal.decreases-read_clause
decreases-read_clause l = 2 * members_size (json_members l.members.now)

abbrev pub decreases-read_queries : goal.decreases-read_queries
decreases-read_queries l = 2 * data_size (json_view l.value.now)

abbrev pub decreases-read_list : goal.decreases-read_list
decreases-read_list l = 2 * items_size (json_items l.values.now)

abbrev pub invariant-read_list-loop-i : goal.invariant-read_list-loop-i
invariant-read_list-loop-i l = with_nodes l.nodes.items (queries_at (path_text l.path) l.i (json_items (drop l.i l.values))) ≡ queries_at (path_text l.path) 0 (json_items l.values)
