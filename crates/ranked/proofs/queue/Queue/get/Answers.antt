use Rattle.std.proofs.Common.{ap, ◌∙◌, sym, slice_get}
use Rattle.ranked.specs.Pieces.{joined}
use Rattle.ranked.proofs.Joined.{slice_get-joined, piece_there, piece_read, lent_if_within}
use Rattle.ranked.proofs.queue.Queue.get.Goals as goal

-- the spot has the item of that rank
pub returns-clause-found : goal.returns-clause-found
returns-clause-found g c =
    let pieces = c.self.inside.pieces.items in
    let spot = c.in_ok-spot.spot in
    let there = piece_there pieces spot.piece spot.place c.in_ok-spot.ensures.spot in
    c.get.ensures
    ∙ ap (λ p. slice_get p spot.place) (piece_read pieces spot.piece there _ c.index.ensures)
    ∙ sym (slice_get-joined pieces spot.piece there spot.place c.in_ok-spot.ensures.spot)
    ∙ ap (slice_get (joined pieces)) c.in_ok-spot.ensures.rank
    ∙ ap (λ items. slice_get items c.args.nth) c.self.view_is

pub returns-clause-variant : goal.returns-clause-variant
returns-clause-variant g c = lent_if_within c.args.self.now c.args.nth c.get.result (returns-clause-found g c)
