-- What a line says, as the command that it becomes.
use Rattle.std.specs.Prelude.{option_map}
use Rattle.serde_json.specs.View.{view}
use Rattle.tasks_api.specs.Filters.{patterns_in}
use Rattle.tasks_api.specs.declared.filter.Filter.{Filter}
use Rattle.script_lang.specs.declared.cancels.CancelParts.{CancelParts}
use Rattle.script_lang.specs.declared.command.CancelTarget.{CancelTarget}
use Rattle.script_lang.specs.declared.command.CancelTarget.TheVariants as targets
use Rattle.script_lang.specs.declared.command.Command.{Command}
use Rattle.script_lang.specs.declared.command.Command.TheVariants.{Search, Scroll, Reindex, Cancel, ListTasks}
use Rattle.script_lang.specs.declared.filters.FilterParts.{FilterParts}
use Rattle.script_lang.specs.declared.lists.ListParts.{ListParts}
use Rattle.script_lang.specs.declared.reindexes.ReindexParts.{ReindexParts}
use Rattle.script_lang.specs.declared.scrolls.ScrollParts.{ScrollParts}
use Rattle.script_lang.specs.declared.searches.SearchParts.{SearchParts}
use Rattle.script_lang.specs.declared.targets.NamedTarget.{NamedTarget}
use Rattle.script_lang.specs.declared.targets.NamedTarget.TheVariants as named
use Rattle.script_lang.specs.Fields.{body_or_empty}

abbrev pub filter_seen : FilterParts → Filter
filter_seen parts = record { actions = patterns_in (option_map (λ text. text.now) parts.actions); nodes = patterns_in (option_map (λ text. text.now) parts.nodes); parent = parts.parent }

abbrev pub target_seen : NamedTarget → CancelTarget
target_seen (named.Task id) = targets.Task id
target_seen (named.Command number) = targets.Command number
target_seen (named.Matching filter) = targets.Matching (filter_seen filter)

abbrev pub search_seen : SearchParts → Command
search_seen parts = Search parts.index.now parts.node parts.scroll (body_or_empty (option_map (λ v. view v.now) parts.body)) (option_map (λ text. text.now) parts.opaque_id)

abbrev pub scroll_seen : ScrollParts → Command
scroll_seen parts = Scroll parts.context parts.keep (option_map (λ text. text.now) parts.opaque_id)

abbrev pub reindex_seen : ReindexParts → Command
reindex_seen parts = Reindex parts.node (view parts.body.now) parts.slices parts.rate (option_map (λ text. text.now) parts.opaque_id) parts.store

abbrev pub cancel_seen : CancelParts → Command
cancel_seen parts = Cancel (target_seen parts.target) parts.reason.now parts.wait

abbrev pub list_seen : ListParts → Command
list_seen parts = ListTasks (filter_seen parts.filter) parts.group parts.detailed
