use Rattle.std.proofs.Common.{◌≡◌, ◌≤◌, ◌<◌, length, get_or, sym, ap, subst, ◌∙◌, arith}
use Rattle.held_shards.specs.Held.{is_row}
use Rattle.held_shards.proofs.Rows.{found_at, found_none}
use Rattle.held_shards.proofs.HeldShards.found.Goals as goal

pub returns-then-is_of : goal.returns-then-is_of
returns-then-is_of c =
    let rows = c.args.self.now.rows in
    let same : c.deref-row-items.result.now ≡ rows.items = c.deref-row-items.ensures.value in
    let within : c.loop-row.row-index < length rows.items = omega (arith, c.loop-row-test.true, ap length same) in
    let item = subst (λ xs. c.row-item.result ≡ get_or xs c.loop-row.row-index c.row-item.result) same c.row-item.is in
    found_at (is_row c.args.index.now c.args.number) rows.items c.loop-row.place c.loop-row.row-index c.row-item.result c.loop-row.invariant.at c.loop-row.invariant.none within item (sym c.is_of.ensures ∙ c.if-is_of.true)

pub returns : goal.returns
returns c =
    let rows = c.args.self.now.rows in
    let same : c.deref-row-items.result.now ≡ rows.items = c.deref-row-items.ensures.value in
    let most : c.loop-row.row-index ≤ length rows.items = omega (arith, c.loop-row.auto.row-index-end, ap length same) in
    let least : length rows.items ≤ c.loop-row.row-index = omega (arith, c.loop-row-test.false, ap length same) in
    found_none (is_row c.args.index.now c.args.number) rows.items c.loop-row.place c.loop-row.row-index c.loop-row.invariant.at c.loop-row.invariant.none most least
