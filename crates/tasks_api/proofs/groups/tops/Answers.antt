use Rattle.std.proofs.Common.{◌≡◌, map, filter, not, false, ◌∙◌, arith}
use Rattle.std.specs.HashSet as bag
use Rattle.std.specs.Option.{option_map_or}
use Rattle.std.proofs.lemmas.Grind.{common_steps}
use Rattle.tasks_api.specs.Filters.{is_task}
use Rattle.tasks_api.proofs.TopLemmas.{tops_are}
use Rattle.tasks_api.proofs.groups.tops.Goals as goal

pub returns : goal.returns
returns c =
    let all = map (λ row. row.now) c.args.rows.now in
    let looped : map (λ row. row.now) c.loop-row.tops.items ≡ filter (λ row. not (option_map_or (λ t. bag.contains is_task c.in_ok-ids.ids t) row.parent false)) all = grind (arith, common_steps) in
    looped ∙ tops_are (λ t. bag.contains is_task c.in_ok-ids.ids t) all all c.in_ok-ids.ensures
