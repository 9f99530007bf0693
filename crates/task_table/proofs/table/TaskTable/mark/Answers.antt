use Rattle.std.proofs.Common.{◌∙◌, ap, refl, List}
use Rattle.task_ids.specs.declared.task_info.TaskInfo.{TaskInfo}
use Rattle.task_table.specs.Table.{Table}
use Rattle.task_table.proofs.ByNumber.{row_among_none, row_among_at, marked_at}
use Rattle.task_table.proofs.table.TaskTable.mark.Goals as goal

pub returns-in_default-clause-answer : goal.returns-in_default-clause-answer
returns-in_default-clause-answer c =
    let live_is = ap (λ t. t.live) c.self.view_is in
    let differ = rw live_is at c.in_default.ensures.none in
    rw (row_among_none c.args.number _ differ) refl

pub returns-in-Some-cancelled-clause-answer : goal.returns-in-Some-cancelled-clause-answer
returns-in-Some-cancelled-clause-answer c =
    let items = c.self.inside.rows.items in
    let live_is = ap (λ t. t.live) c.self.view_is in
    let found = c.in-Some.ensures.found in
    let row = c.index.result.now in
    let at = row_among_at c.args.number items c.in-Some.place row c.self.invariant.ascending found.0 (found.1 row) in
    rw (← live_is, at, ← c.index.ensures, c.in-Some-cancelled.is) refl

pub returns-clause-answer : goal.returns-clause-answer
returns-clause-answer c =
    let items = c.self.inside.rows.items in
    let live_is = ap (λ t. t.live) c.self.view_is in
    let found = c.in-Some.ensures.found in
    let row = c.index.result.now in
    let at = row_among_at c.args.number items c.in-Some.place row c.self.invariant.ascending found.0 (found.1 row) in
    rw (← live_is, at, ← c.index.ensures, c.in_default-cancelled.is) refl

pub returns-clause-after : goal.returns-clause-after
returns-clause-after c =
    let items = c.self.inside.rows.items in
    let found = c.in-Some.ensures.found in
    let row = c.index_mut.result.now in
    let marked = marked_at c.args.number c.args.cancel items c.in-Some.place row c.self.invariant.ascending found.0 c.index_mut.ensures.value (found.1 row) in
    let with_live : List TaskInfo → Table = λ live. record { node = c.self.inside.node; slots = c.self.inside.slots; last = c.self.inside.last; live = live } in
    rw (← c.self.view_is) (ap with_live marked)
