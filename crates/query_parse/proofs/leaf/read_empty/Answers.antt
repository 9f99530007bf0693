use Rattle.std.proofs.Common.{ap, ◌∙◌, arith}
use Rattle.std.proofs.lemmas.Bool.Decides.{nat_tests}
use Rattle.task_ids.specs.Json.{json_view}
use Rattle.task_ids.proofs.Jsons.{json_view-Object}
use Rattle.query_parse.specs.declared.fault.QueryFault.TheVariants.{BadValue}
use Rattle.query_parse.specs.Paths.{path_text}
use Rattle.query_parse.specs.Reading.{empty_at}
use Rattle.query_parse.proofs.Shapes.{empty-other}
use Rattle.query_parse.proofs.Each.{fails_of_fault}
use Rattle.query_parse.proofs.leaf.read_empty.Goals as goal

pub returns-else-is_empty : goal.returns-else-is_empty
returns-else-is_empty c =
    let path = path_text c.args.path.now in
    let m = c.in-Object.members in
    fails_of_fault c.fault.result path BadValue _ c.fault.ensures
    (ap (empty_at path) (ap json_view c.in-Object.is ∙ json_view-Object m) ∙ empty-other path m.items (λ e. grind (arith, nat_tests)))
