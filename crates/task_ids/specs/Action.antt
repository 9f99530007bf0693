-- The names of the actions.
use Rattle.std.specs.Prelude.{ℕ, List, codes}
use Rattle.task_ids.specs.declared.action.Action.{Action}
use Rattle.task_ids.specs.declared.action.Action.TheVariants.{Search, Query, Fetch, Scroll, Reindex, Bulk, BulkShard}

abbrev pub action_text : Action → List ℕ
action_text Search = codes "indices:data/read/search"
action_text Query = codes "indices:data/read/search[phase/query]"
action_text Fetch = codes "indices:data/read/search[phase/fetch/id]"
action_text Scroll = codes "indices:data/read/scroll"
action_text Reindex = codes "indices:data/write/reindex"
action_text Bulk = codes "indices:data/write/bulk"
action_text BulkShard = codes "indices:data/write/bulk[s]"
