use Rattle.std.proofs.Common.{◌<◌, ap, ◌∙◌, sym, refl, length, slice_get, arith}
use Rattle.ranked.proofs.Joined.{first_of_first, piece_read, lent_if_within}
use Rattle.ranked.proofs.queue.Queue.first.Goals as goal

-- the first piece has the first item
pub returns-clause-found : goal.returns-clause-found
returns-clause-found g c =
    let pieces = c.self.inside.pieces.items in
    let some : 0 < length pieces = omega (arith, c.in_ok-front.ensures.variant.0 refl) in
    c.get.ensures
    ∙ ap (λ p. slice_get p 0) (piece_read pieces 0 some _ c.in_ok-front.ensures.lookup)
    ∙ sym (first_of_first pieces c.self.invariant.1 some)
    ∙ ap (λ items. slice_get items 0) c.self.view_is

pub returns-clause-variant : goal.returns-clause-variant
returns-clause-variant g c = lent_if_within c.args.self.now 0 c.get.result (returns-clause-found g c)
