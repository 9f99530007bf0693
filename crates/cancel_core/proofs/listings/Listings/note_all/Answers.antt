use Rattle.std.proofs.Common.{◌≡◌, ◌<◌, length, arith, sym, ap, ◌∙◌}
use Rattle.std.proofs.lemmas.Bool.Decides.{nat_tests}
use Rattle.std.specs.FinMap.{get, insert}
use Rattle.task_ids.proofs.TaskIdKeys.{one_put}
use Rattle.cancel_core.specs.Fields.{map_of}
use Rattle.cancel_core.proofs.Noting.{removed_absent, nothing_there}
use Rattle.cancel_core.proofs.Leaving.{some_left, none_left}
use Rattle.cancel_core.proofs.listings.Listings.note_all.Goals as goal

pub returns-then-is_empty-clause-numbers : goal.returns-then-is_empty-clause-numbers
returns-then-is_empty-clause-numbers c =
    let numbers = map_of c.args.self.now.numbers in
    let none : length c.note_each.new.fresh.items ≡ 0 = grind (arith, nat_tests) in
    sym (none_left numbers c.args.parent (length c.note_each.new.fresh.items) none ∙ removed_absent numbers c.args.parent (nothing_there (get numbers c.args.parent) c.requires.once))

pub returns-clause-numbers : goal.returns-clause-numbers
returns-clause-numbers c =
    let numbers = c.args.self.now.numbers in
    let fresh = c.note_each.new.fresh.items in
    let some : 0 < length fresh = grind (arith, nat_tests) in
    let all : c.len.result ≡ length fresh = omega (arith, c.len.ensures) in
    one_put numbers.entries c.insert.new.self.entries c.args.parent c.len.result c.in_ok-insert.ensures.updates.0
    ∙ ap (insert (map_of numbers) c.args.parent) all
    ∙ sym (some_left (map_of numbers) c.args.parent (length fresh) some)
