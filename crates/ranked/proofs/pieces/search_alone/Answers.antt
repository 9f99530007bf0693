use Rattle.std.proofs.Common.{◌≡◌, ◌+◌, Less, Greater, length, get_or, ap, ◌∙◌, sym, subst, arith}
use Rattle.std.specs.List.Sorted.{IsPartitionPoint, IsNonDecreasingBy}
use Rattle.std.specs.Ordering.{ordering_index}
use Rattle.ranked.specs.Pieces.{joined}
use Rattle.ranked.specs.Ranks.{IsGapFor}
use Rattle.ranked.proofs.Joined.{piece_read}
use Rattle.ranked.proofs.Searched.{joined_alone, found_alone, absent_alone}
use Rattle.ranked.proofs.pieces.search_alone.Goals as goal

pub returns-in-Ok-clause-found : goal.returns-in-Ok-clause-found
returns-in-Ok-clause-found g c =
    let pieces = c.args.pieces.now.items in
    let one : length pieces ≡ 1 = omega arith in
    let read = piece_read pieces 0 (omega arith) _ c.index-piece.ensures in
    found_alone g.met.K.Ord.total pieces one c.requires.ordered c.args.key.now c.in-Ok.place (omega (arith, c.in-Ok.ensures.within, ap length read)) (λ d. ap (λ p. g.K.Ord.cmp (get_or p c.in-Ok.place d) c.args.key.now) (sym read) ∙ c.in-Ok.ensures.place d)

pub returns-then-place-len-clause-absent : goal.returns-then-place-len-clause-absent
returns-then-place-len-clause-absent g c =
    let pieces = c.args.pieces.now.items in
    let cmp = g.K.Ord.cmp in
    let key = c.args.key.now in
    let one : length pieces ≡ 1 = omega arith in
    let read = piece_read pieces 0 (omega arith) _ c.index-piece.ensures in
    let searched = subst (λ p. IsNonDecreasingBy (λ y. ordering_index (cmp y key)) p → IsPartitionPoint (λ y. cmp y key ≡ Less) (λ y. cmp y key ≡ Greater) p c.in-Err.place) read c.in-Err.ensures.place in
    let all : 0 + c.in-Err.place ≡ length (joined pieces) = omega (arith, ap length read, ap length (joined_alone pieces one)) in
    subst (IsGapFor cmp (joined pieces) key) all (absent_alone g.met.K.Ord.total pieces one c.requires.ordered key c.in-Err.place (omega (arith, c.in-Err.ensures.within, ap length read)) searched)

pub returns-else-place-len-clause-absent : goal.returns-else-place-len-clause-absent
returns-else-place-len-clause-absent g c =
    let pieces = c.args.pieces.now.items in
    let cmp = g.K.Ord.cmp in
    let key = c.args.key.now in
    let one : length pieces ≡ 1 = omega arith in
    let read = piece_read pieces 0 (omega arith) _ c.index-piece.ensures in
    let searched = subst (λ p. IsNonDecreasingBy (λ y. ordering_index (cmp y key)) p → IsPartitionPoint (λ y. cmp y key ≡ Less) (λ y. cmp y key ≡ Greater) p c.in-Err.place) read c.in-Err.ensures.place in
    absent_alone g.met.K.Ord.total pieces one c.requires.ordered key c.in-Err.place (omega (arith, c.in-Err.ensures.within, ap length read)) searched
