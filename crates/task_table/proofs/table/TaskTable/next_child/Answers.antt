use Rattle.std.proofs.Common.{◌≡◌, ◌<◌, ◌∙◌, rules, length, ap, refl, subst, sym}
use Rattle.task_table.proofs.Lowest.{lowest_from_first}
use Rattle.task_table.proofs.table.TaskTable.next_child.Goals as goal

-- the place of the row that is looked at
within : (c : goal.Then-is_unmarked_child) → c.loop-place.place < length c.args.self.now.live
within c =
    let live_is = ap (λ t. t.live) c.self.view_is in
    let len : length c.self.inside.rows.items ≡ c.self.inside.rows.len = search rules in
    let inside : c.loop-place.place < length c.self.inside.rows.items = subst (λ n. c.loop-place.place < n) (c.len-place-end.ensures ∙ sym len) c.loop-place-test.true in
    rw live_is at inside

pub returns-then-is_unmarked_child-clause-found : goal.returns-then-is_unmarked_child-clause-found
returns-then-is_unmarked_child-clause-found c =
    let live_is = ap (λ t. t.live) c.self.view_is in
    let read = rw live_is at c.index-row.ensures in
    (c.loop-place.place, c.index-row.result.now, within c, sym read, (c.if-is_unmarked_child.ensures.0 refl, refl))

pub returns-then-is_unmarked_child-clause-lowest : goal.returns-then-is_unmarked_child-clause-lowest
returns-then-is_unmarked_child-clause-lowest c =
    let live_is = ap (λ t. t.live) c.self.view_is in
    let read = rw live_is at c.index-row.ensures in
    let up = rw live_is at c.self.invariant.ascending in
    lowest_from_first c.args.self.now.live c.args.parent c.loop-place.place c.index-row.result.now up (within c) read c.loop-place.invariant
