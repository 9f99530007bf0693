use Rattle.std.proofs.Common.{refl, sym, rules, ap, ◌∙◌}
use Rattle.point_in_time.specs.Pits.{Pits, cursor_at}
use Rattle.point_in_time.proofs.table.PitTable.cursor.Goals as goal

pub returns-then-is_same_sort-clause-left : goal.returns-then-is_same_sort-clause-left
returns-then-is_same_sort-clause-left c = (
  c.in_ok-cursor.cursor.now,
  ap (λ (p : Pits). cursor_at c.args.id c.args.search p.cursors) (sym c.self.view_is) ∙ sym c.in_ok-cursor.ensures,
  refl,
  sym c.as_slice.ensures ∙ c.if-is_same_sort.ensures.0 (search rules),
)
