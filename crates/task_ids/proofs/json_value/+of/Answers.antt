use Rattle.std.proofs.Common.{◌≡◌, map, rules, ap, sym, ◌∙◌}
use Rattle.serde_json.specs.Data.{object}
use Rattle.serde_json.specs.View.{view}
use Rattle.serde_json.proofs.Views.{view-Object}
use Rattle.task_ids.specs.Json.{member_view}
use Rattle.task_ids.proofs.Jsons.{json_view-Object, entry_view, same_members}
use Rattle.task_ids.proofs.json_value.+of.Goals as goal

pub json_of-returns-in_ok-members_of-in-Object : goal.json_of-returns-in_ok-members_of-in-Object
json_of-returns-in_ok-members_of-in-Object t c =
    json_view-Object c.in_ok-members_of-in-Object.field-0 ∙ ap object c.in_ok-members_of-in-Object.ensures ∙ sym (ap view c.in-Object.is ∙ view-Object c.in-Object.members)

pub members_of-returns : goal.members_of-returns
members_of-returns t c =
    let all : map member_view c.loop-key.members.items ≡ map entry_view c.args.map.now.entries = search rules in
    same_members _ _ all
