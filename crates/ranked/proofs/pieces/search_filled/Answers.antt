use Rattle.std.proofs.Common.{◌≡◌, ◌<◌, true, false, Less, Greater, length, get_or, [], ap, ◌∙◌, sym, subst, arith, rules}
use Rattle.std.specs.List.Sorted.{IsPartitionPoint, IsNonDecreasingBy}
use Rattle.std.specs.Ordering.{ordering_index}
use Rattle.std.proofs.lemmas.List.Sorted.{IsPartitionPoint-from_clause}
use Rattle.ranked.specs.Ranks.{ends_below}
use Rattle.ranked.proofs.Joined.{piece_read}
use Rattle.ranked.proofs.Searched.{ends_fall, absent_past, found_there, inside_there, absent_there}
use Rattle.ranked.proofs.pieces.search_filled.Given.{Over}
use Rattle.ranked.proofs.pieces.search_filled.Goals as goal
use Rattle.ranked.proofs.pieces.search_filled.Goals.{After-partition_point-piece}

parted : (g : Over) (c : After-partition_point-piece g) → IsPartitionPoint (λ p. ends_below g.K.Ord.cmp c.args.key.now p ≡ true) (λ p. ends_below g.K.Ord.cmp c.args.key.now p ≡ false) c.args.pieces.now.items c.partition_point-piece.result
parted g c =
    IsPartitionPoint-from_clause (ends_below g.K.Ord.cmp c.args.key.now) c.args.pieces.now.items c.partition_point-piece.result c.partition_point-piece.ensures.partitioned
    (ends_fall g.met.K.Ord.total c.args.pieces.now.items c.requires.pieces c.requires.ordered c.args.key.now) (λ a r f called. search rules)

pub returns-then-piece-len-clause-absent : goal.returns-then-piece-len-clause-absent
returns-then-piece-len-clause-absent g c =
    let parts = parted g (goal.at.returns-then-piece-len-clause-absent g c).After-partition_point-piece in
    absent_past g.met.K.Ord.total c.args.pieces.now.items c.requires.pieces c.requires.ordered c.args.key.now c.partition_point-piece.result parts.0 (omega arith)

pub returns-in-Ok-clause-found : goal.returns-in-Ok-clause-found
returns-in-Ok-clause-found g c =
    let pieces = c.args.pieces.now.items in
    let k = c.partition_point-piece.result in
    let parts = parted g (goal.at.returns-in-Ok-clause-found g c).After-partition_point-piece in
    let low : c.partition_point-piece.result < length c.args.pieces.now.items = omega arith in
    let read = piece_read pieces k low _ c.index.ensures in
    found_there g.met.K.Ord.total pieces c.requires.pieces c.requires.ordered c.args.key.now k parts.0 low c.in-Ok.place (omega (arith, c.in-Ok.ensures.within, ap length read)) (λ d. ap (λ p. g.K.Ord.cmp (get_or p c.in-Ok.place d) c.args.key.now) (sym read) ∙ c.in-Ok.ensures.place d)

pub returns-in-Err-clause-gap : goal.returns-in-Err-clause-gap
returns-in-Err-clause-gap g c =
    let pieces = c.args.pieces.now.items in
    let k = c.partition_point-piece.result in
    let cmp = g.K.Ord.cmp in
    let key = c.args.key.now in
    let parts = parted g (goal.at.returns-in-Err-clause-gap g c).After-partition_point-piece in
    let low : c.partition_point-piece.result < length c.args.pieces.now.items = omega arith in
    let read = piece_read pieces k low _ c.index.ensures in
    let searched = subst (λ p. IsNonDecreasingBy (λ y. ordering_index (cmp y key)) p → IsPartitionPoint (λ y. cmp y key ≡ Less) (λ y. cmp y key ≡ Greater) p c.in-Err.place) read c.in-Err.ensures.place in
    inside_there g.met.K.Ord.total pieces c.requires.pieces c.requires.ordered key k parts.0 low (parts.1 k [] (omega arith) low) c.in-Err.place (omega (arith, c.in-Err.ensures.within, ap length read)) searched

pub returns-in-Err-clause-absent : goal.returns-in-Err-clause-absent
returns-in-Err-clause-absent g c =
    let pieces = c.args.pieces.now.items in
    let k = c.partition_point-piece.result in
    let cmp = g.K.Ord.cmp in
    let key = c.args.key.now in
    let parts = parted g (goal.at.returns-in-Err-clause-absent g c).After-partition_point-piece in
    let low : c.partition_point-piece.result < length c.args.pieces.now.items = omega arith in
    let read = piece_read pieces k low _ c.index.ensures in
    let searched = subst (λ p. IsNonDecreasingBy (λ y. ordering_index (cmp y key)) p → IsPartitionPoint (λ y. cmp y key ≡ Less) (λ y. cmp y key ≡ Greater) p c.in-Err.place) read c.in-Err.ensures.place in
    absent_there g.met.K.Ord.total pieces c.requires.pieces c.requires.ordered key k parts.0 low (parts.1 k [] (omega arith) low) c.in-Err.place (omega (arith, c.in-Err.ensures.within, ap length read)) searched
