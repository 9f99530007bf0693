use Rattle.std.proofs.Common.{ap, ◌∙◌, set, insert}
use Rattle.ranked.specs.Pieces.{joined, rank}
use Rattle.ranked.proofs.Joined.{joined_inserted, piece_read, on_ok_then}
use Rattle.ranked.proofs.pieces.insert_at.Goals as goal

pub returns-in-Ok-clause-ok : goal.returns-in-Ok-clause-ok
returns-in-Ok-clause-ok g c =
    let pieces = c.with_room.new.pieces.items in
    let spot = c.in-Ok.spot in
    let room = c.in-Ok.ensures.room in
    on_ok_then c.insert.result _ _ c.insert.ensures.ok (λ more.
    ap (λ p. joined (set pieces spot.piece p)) (more ∙ ap (λ p. insert p spot.place c.args.item) (piece_read pieces spot.piece room.in_range _ c.index_mut-piece.ensures.value))
    ∙ joined_inserted pieces spot.piece room.in_range spot.place c.args.item room.place
    ∙ ap (λ i. insert (joined pieces) i c.args.item) c.in-Ok.ensures.rank
    ∙ ap (λ items. insert items (rank c.args.pieces.now.items c.args.spot) c.args.item) c.with_room.ensures.items)
