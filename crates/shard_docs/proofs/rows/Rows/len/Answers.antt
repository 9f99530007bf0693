use Rattle.std.specs.List.{slice_get}
use Rattle.std.proofs.Common.{◌-◌, ap, sym, ◌∙◌, arith, length}
use Rattle.shard_docs.specs.SeenRows.{SeenRows}
use Rattle.shard_docs.proofs.KeptLemmas.{many_shown}
use Rattle.shard_docs.proofs.KeptPlaces.{end_of_last}
use Rattle.shard_docs.proofs.rows.Rows.len.Goals as goal

pub returns-in-Some : goal.returns-in-Some
returns-in-Some c =
    let rows = c.self.inside.kept.items in
    let counted = ap (λ (s : SeenRows). length s.rows) c.self.view_is in
    omega (arith, many_shown c.self.inside.oldest 0 rows c.self.invariant, counted, end_of_last rows c.in-Some.row.now (ap (λ l. slice_get l (length l - 1)) (sym c.deref.ensures.value) ∙ sym c.in-Some.ensures.value))
