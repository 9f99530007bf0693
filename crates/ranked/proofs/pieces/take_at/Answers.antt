use Rattle.std.proofs.Common.{inl, inr, ◌≡◌, [], ap, ◌∙◌, sym, subst, length, slice_get, remove, set, arith}
use Rattle.std.proofs.lemmas.List.Edits.{length-remove}
use Rattle.std.proofs.lemmas.List.Elements.{All-set}
use Rattle.ranked.specs.Pieces.{joined, piece_at, AreFilled, IsPiece}
use Rattle.ranked.proofs.Joined.{slice_get-joined, joined_taken, joined_taken_last, all_removed, filled_by_item, emptied_alone, piece_there, piece_read, on_some}
use Rattle.ranked.proofs.pieces.take_at.Goals as goal
use Rattle.ranked.proofs.pieces.take_at.Goals.{then-len-eq0+then-len-gt1, else-len-eq0, else-len-eq0-via-then-len-eq0+else-len-gt1, else-len-eq0-via-else-len-eq0}

pub returns-clause-taken : goal.returns-clause-taken
returns-clause-taken g c =
    let pieces = c.args.pieces.now.items in
    let k = c.args.spot.piece in
    let place = c.args.spot.place in
    let there = piece_there pieces k place c.requires.spot in
    sym c.in_ok-item.was ∙ c.take.ensures.taken ∙ ap (λ p. slice_get p place) (piece_read pieces k there _ c.index_mut-piece.ensures.value) ∙ sym (slice_get-joined pieces k there place c.requires.spot)

pub returns-clause-rest : goal.returns-clause-rest
returns-clause-rest g c =
    let pieces = c.args.pieces.now.items in
    let k = c.args.spot.piece in
    let place = c.args.spot.place in
    let there = piece_there pieces k place c.requires.spot in
    let left = c.in_ok-item.ensures.rest ∙ ap (λ p. remove p place) (piece_read pieces k there _ c.index_mut-piece.ensures.value) in
    let without = λ (none : length (remove (piece_at pieces k) place) ≡ 0). ap (λ p. joined (remove (set pieces k p) k)) left ∙ joined_taken_last pieces k there place c.requires.spot none in
    elim c.if-len-eq0.branch [
      | then-len-eq0+then-len-gt1 w ↦ rw w.pieces-is (ap joined (on_some _ _ _ (w.remove.ensures.succeeds [] (omega arith)) w.remove.ensures.items) ∙ without (omega (arith, ap length left)))
      | else-len-eq0 w ↦ rw (w.pieces-is, left) (joined_taken pieces k there place c.requires.spot)
    ]

pub returns-clause-pieces : goal.returns-clause-pieces
returns-clause-pieces g c =
    let pieces = c.args.pieces.now.items in
    let k = c.args.spot.piece in
    let place = c.args.spot.place in
    let there = piece_there pieces k place c.requires.spot in
    let left = c.in_ok-item.ensures.rest ∙ ap (λ p. remove p place) (piece_read pieces k there _ c.index_mut-piece.ensures.value) in
    let filled = filled_by_item pieces k place c.requires.spot c.requires.pieces in
    let was = filled k [] there in
    let fewer = length-remove (piece_at pieces k) place c.requires.spot in
    let without = all_removed pieces k there IsPiece c.take.new.self filled in
    let kept = All-set IsPiece pieces k c.take.new.self in
    elim c.if-len-eq0.branch [
      | then-len-eq0+then-len-gt1 w ↦ rw w.pieces-is (inl (subst AreFilled (sym (on_some _ _ _ (w.remove.ensures.succeeds [] (omega arith)) w.remove.ensures.items)) without))
      | else-len-eq0 w ↦ rw w.pieces-is (elim w.else-len-eq0.branch [
        | else-len-eq0-via-then-len-eq0+else-len-gt1 w' ↦ inr (emptied_alone pieces k c.take.new.self there (omega arith) (omega arith))
        | else-len-eq0-via-else-len-eq0 w' ↦ inl (kept (omega (arith, ap length left), omega (arith, ap length left)) filled)
      ])
    ]
