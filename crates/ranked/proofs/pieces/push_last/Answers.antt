use Rattle.std.proofs.Common.{inl, ◌≡◌, ◌+◌, ◌<◌, ◌∷◌, [], ◌++◌, ap, ◌∙◌, sym, subst, length, set, arith}
use Rattle.std.proofs.lemmas.List.Elements.{All-push}
use Rattle.ranked.specs.Pieces.{joined, AreFilled, IsPiece}
use Rattle.ranked.proofs.Joined.{joined_pushed, piece_read, on_ok_then}
use Rattle.ranked.proofs.pieces.push_last.Goals as goal

-- the last piece has one more
pub returns-in-Some-clause-ok : goal.returns-in-Some-clause-ok
returns-in-Some-clause-ok g c =
    let pieces = c.args.pieces.now.items in
    let k = c.in-Some.last in
    let last : k + 1 ≡ length pieces = c.in-Some.ensures.last in
    let low : k < length pieces = omega arith in
    on_ok_then c.push_back.result _ _ c.push_back.ensures.ok (λ more.
    ap (λ p. joined (set pieces k p)) (more ∙ ap (λ p. p ++ c.args.item ∷ []) (piece_read pieces k low _ c.index_mut-piece.ensures.value)) ∙ joined_pushed pieces k low c.args.item last)

-- or a new piece has the item
pub returns-clause-pieces : goal.returns-clause-pieces
returns-clause-pieces g c =
    let new = c.in_ok-push_back.ensures.ok ∙ ap (λ p. p ++ c.args.item ∷ []) c.new-piece.ensures in
    inl (subst AreFilled (sym (c.push_back_reserved.ensures.items ∙ ap (λ ps. ps ++ c.push_back-2.new.self ∷ []) c.reserve.ensures.items)) (All-push IsPiece c.args.pieces.now.items c.push_back-2.new.self c.in_default.ensures.filled (omega (arith, ap length new), omega (arith, ap length new))))
