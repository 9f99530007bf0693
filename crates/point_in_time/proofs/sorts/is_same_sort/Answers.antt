use Rattle.std.proofs.lemmas.Slice.Eq.{slice_eq-Decides}
use Rattle.point_in_time.proofs.Entries.{entry_decides}
use Rattle.point_in_time.proofs.sorts.is_same_sort.Goals as goal

pub returns : goal.returns
returns c = slice_eq-Decides entry_decides c.args.one.now c.args.other.now c.eq.result c.eq.ensures
