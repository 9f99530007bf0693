use Rattle.std.proofs.Common.{◌++◌, length, flat_map, ap, arith}
use Rattle.std.proofs.lemmas.List.{length-reverse}
use Rattle.task_events.proofs.Pieces.{length_joined}
use Rattle.task_events.proofs.history.History.left.Goals as goal

pub overflow_mul-result : goal.overflow_mul-result
overflow_mul-result c =
    omega (arith, length_joined (λ piece. piece.items) c.self.inside.full.items c.self.inside.last.items c.self.invariant.0, c.self.invariant.2, c.len.ensures)

pub overflow_sub-result : goal.overflow_sub-result
overflow_sub-result c =
    omega (arith, length_joined (λ piece. piece.items) c.self.inside.full.items c.self.inside.last.items c.self.invariant.0, c.self.invariant.2, c.len.ensures)

pub overflow_sub-result-2 : goal.overflow_sub-result-2
overflow_sub-result-2 c =
    omega (arith, length_joined (λ piece. piece.items) c.self.inside.full.items c.self.inside.last.items c.self.invariant.0, c.self.invariant.2, c.len.ensures, c.len-2.ensures)

pub returns : goal.returns
returns c =
    omega (arith, length_joined (λ piece. piece.items) c.self.inside.full.items c.self.inside.last.items c.self.invariant.0, c.self.invariant.2, c.len.ensures, c.len-2.ensures, ap length c.self.view_is, length-reverse (flat_map (λ piece. piece.items) c.self.inside.full.items ++ c.self.inside.last.items))
