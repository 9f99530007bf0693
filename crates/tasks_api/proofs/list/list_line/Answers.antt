use Rattle.std.proofs.Common.{◌≡◌, map, ap, ◌∙◌}
use Rattle.serde_json.specs.View.{view}
use Rattle.serde_json.specs.Written.{has_float, compact_text}
use Rattle.tasks_api.specs.Lists.{list_json, task_json, shown}
use Rattle.tasks_api.proofs.WholeLemmas.{list_whole}
use Rattle.tasks_api.proofs.list.list_line.Goals as goal

pub returns : goal.returns
returns c =
    let look = task_json c.args.detailed c.args.now in
    let rows : map (λ row. row.now) c.as_slice.result.now ≡ shown c.args.filter.now c.args.rows.now = ap (map (λ row. row.now)) c.as_slice.ensures.value ∙ c.in_ok-shown.ensures in
    let list : view c.in_ok-list.list ≡ list_json c.args.group look (shown c.args.filter.now c.args.rows.now) = c.in_ok-list.ensures ∙ ap (list_json c.args.group look) rows in
    ap (λ bytes. bytes.items) c.into_bytes.ensures.value ∙ c.in_ok-text.ensures.text (ap has_float list ∙ list_whole c.args.group c.args.detailed c.args.now (shown c.args.filter.now c.args.rows.now)) ∙ ap compact_text list
