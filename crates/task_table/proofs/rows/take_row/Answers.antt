use Rattle.std.proofs.Common.{◌≡◌, ◌∙◌, ◌<◌, Option, None, Some, rules, length, subst, ap, sym}
use Rattle.std.specs.Prelude.{IsSome}
use Rattle.task_table.proofs.ByNumber.{row_among_none, without_number_none, row_among_at, without_number_at}
use Rattle.task_table.proofs.rows.take_row.Goals as goal

none_there : {A : Type 0} (o : Option A) → o ≡ None → IsSome o → ⊥
none_there None none there = cc
none_there (Some x) none there = cc

pub returns-in_err-place-clause-mark : goal.returns-in_err-place-clause-mark
returns-in_err-place-clause-mark c =
    let differ = c.in_err-place.ensures.none in
    rw (row_among_none c.args.number c.args.rows.now.items differ) c.from_residual.ensures

pub returns-in_err-place-clause-rows : goal.returns-in_err-place-clause-rows
returns-in_err-place-clause-rows c =
    let differ = c.in_err-place.ensures.none in
    sym (without_number_none c.args.number c.args.rows.now.items differ)

pub returns-in_err-row : goal.returns-in_err-row
returns-in_err-row c =
    let len : length c.args.rows.now.items ≡ c.args.rows.now.len = search rules in
    let found = c.in_ok-place.ensures.found in
    let there : IsSome c.remove.result = c.remove.ensures.variant.1 (subst (λ n. c.in_ok-place.place < n) len found.0) in
    absurd (none_there c.remove.result c.in_err-row.was there)

pub returns : goal.returns
returns c =
    let items = c.args.rows.now.items in
    let row = c.in_ok-row.row in
    let found = c.in_ok-place.ensures.found in
    let at = row_among_at c.args.number items c.in_ok-place.place row c.requires found.0 (found.1 row) in
    record {
      mark = rw at (ap (λ r. r.cancelled) c.in_ok-row.ensures.value);
      rows = c.in_ok-row.ensures.items ∙ without_number_at c.args.number items c.in_ok-place.place row c.requires found.0 (found.1 row);
    }
