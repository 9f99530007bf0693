use Rattle.std.proofs.Common.{◌-◌, arith, sym, ap, ◌∙◌}
use Rattle.std.specs.FinMap.{get}
use Rattle.task_ids.proofs.TaskIdKeys.{get_id, one_put, one_removed}
use Rattle.cancel_core.specs.Fields.{map_of}
use Rattle.cancel_core.specs.Listings.{with_number}
use Rattle.cancel_core.proofs.Leaving.{number_there, some_left, none_left}
use Rattle.cancel_core.proofs.listings.Listings.count_down.Goals as goal

pub returns-then-number-gt1-clause-numbers : goal.returns-then-number-gt1-clause-numbers
returns-then-number-gt1-clause-numbers c =
    let numbers = c.args.self.now.numbers in
    let number = c.number-number.result in
    let there = number_there (get (map_of numbers) c.args.parent.now) number c.number-number.ensures (omega arith) in
    one_put numbers.entries c.set_number.new.numbers.entries c.args.parent.now (number - 1) (c.set_number.ensures number (sym (get_id numbers.entries c.args.parent.now) ∙ there))
    ∙ sym (some_left (map_of numbers) c.args.parent.now (number - 1) (omega arith))
    ∙ ap (λ n. with_number (map_of numbers) c.args.parent.now (n - 1)) c.number-number.ensures

pub returns-else-number-gt1-clause-numbers : goal.returns-else-number-gt1-clause-numbers
returns-else-number-gt1-clause-numbers c =
    let numbers = c.args.self.now.numbers in
    let number = c.number-number.result in
    one_removed numbers.entries c.remove.new.self.entries c.args.parent.now c.remove.ensures.updates.0
    ∙ sym (none_left (map_of numbers) c.args.parent.now (number - 1) (omega arith))
    ∙ ap (λ n. with_number (map_of numbers) c.args.parent.now (n - 1)) c.number-number.ensures
