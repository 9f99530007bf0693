-- The filter of a command, each of whose fields may be missing.
use Rattle.std.specs.Prelude.{Bool, ◌||◌, codes, is_some, Result, Ok}
use Rattle.serde_json.specs.Data.{Members}
use Rattle.serde_json.specs.Find.{get_member}
use Rattle.task_ids.specs.declared.cause.Cause.{Cause}
use Rattle.shard_docs.specs.Fault.{◌>>=◌}
use Rattle.tasks_api.specs.Filters.{patterns_in}
use Rattle.tasks_api.specs.declared.filter.Filter.{Filter}
use Rattle.script_lang.specs.Fields.{both, optional_text, optional_task}

-- a field of a filter is there
abbrev pub has_filter : Members → Bool
has_filter fields = is_some (get_member (codes "actions") fields) || (is_some (get_member (codes "nodes") fields) || is_some (get_member (codes "parent_task_id") fields))

unfoldable pub filter_in : Members → Result Filter Cause
filter_in fields = do
  found ← both (optional_text (get_member (codes "actions") fields)) (both (optional_text (get_member (codes "nodes") fields)) (optional_task (get_member (codes "parent_task_id") fields)))
  Ok (record { actions = patterns_in found.0; nodes = patterns_in found.1.0; parent = found.1.1 })
