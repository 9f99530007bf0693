use Rattle.std.proofs.Common.{ap, ◌∙◌}
use Rattle.std.specs.FinMap as map
use Rattle.task_ids.proofs.TaskIdKeys.{one_put}
use Rattle.run_book.proofs.openers.Openers.note.Goals as goal

pub returns : goal.returns
returns c =
    one_put c.self.inside.numbers.entries c.insert.new.self.entries c.args.id c.args.command c.in_ok-insert.ensures.updates.0
    ∙ ap (λ m. map.insert m c.args.id c.args.command) c.self.view_is
