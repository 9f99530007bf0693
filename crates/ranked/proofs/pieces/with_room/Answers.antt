use Rattle.std.proofs.Common.{◌≤◌, ◌<◌, ap, length, arith}
use Rattle.ranked.specs.declared.piece.TheConstants.{PIECE}
use Rattle.ranked.specs.declared.pieces.TheConstants.{HALF}
use Rattle.ranked.specs.Pieces.{piece_at}
use Rattle.ranked.proofs.Halves.{halves_are_pieces, halves_joined, first_rank, first_has_room, second_rank, second_has_room}
use Rattle.ranked.proofs.Joined.{piece_there, piece_read}
use Rattle.ranked.proofs.pieces.with_room.Given.{Over}
use Rattle.ranked.proofs.pieces.with_room.Goals as goal
use Rattle.ranked.proofs.pieces.with_room.Goals.{In_ok-cut}

-- the piece was full
full : (g : Over) (c : In_ok-cut g) → PIECE ≤ length (piece_at c.args.pieces.now.items c.args.spot.piece)
full g c = let read = piece_read c.args.pieces.now.items c.args.spot.piece (piece_there c.args.pieces.now.items c.args.spot.piece c.args.spot.place c.requires.spot) _ c.index.ensures in omega (arith, ap length read)

pub returns-then-spot-le-HALF-clause-pieces : goal.returns-then-spot-le-HALF-clause-pieces
returns-then-spot-le-HALF-clause-pieces g c = rw c.in_ok-cut.ensures.ok (halves_are_pieces c.args.pieces.now.items c.args.spot c.requires.spot c.requires.pieces (full g (goal.at.returns-then-spot-le-HALF-clause-pieces g c).In_ok-cut))

pub returns-then-spot-le-HALF-clause-items : goal.returns-then-spot-le-HALF-clause-items
returns-then-spot-le-HALF-clause-items g c = rw c.in_ok-cut.ensures.ok (halves_joined c.args.pieces.now.items c.args.spot c.requires.spot c.requires.pieces (full g (goal.at.returns-then-spot-le-HALF-clause-items g c).In_ok-cut))

pub returns-then-spot-le-HALF-clause-rank : goal.returns-then-spot-le-HALF-clause-rank
returns-then-spot-le-HALF-clause-rank g c = rw c.in_ok-cut.ensures.ok (first_rank c.args.pieces.now.items c.args.spot c.requires.spot c.requires.pieces (full g (goal.at.returns-then-spot-le-HALF-clause-rank g c).In_ok-cut))

pub returns-then-spot-le-HALF-clause-room : goal.returns-then-spot-le-HALF-clause-room
returns-then-spot-le-HALF-clause-room g c = rw c.in_ok-cut.ensures.ok (first_has_room c.args.pieces.now.items c.args.spot c.requires.spot c.requires.pieces (full g (goal.at.returns-then-spot-le-HALF-clause-room g c).In_ok-cut) c.if-spot-le-HALF.true)

pub returns-clause-pieces : goal.returns-clause-pieces
returns-clause-pieces g c = rw c.in_ok-cut.ensures.ok (halves_are_pieces c.args.pieces.now.items c.args.spot c.requires.spot c.requires.pieces (full g (goal.at.returns-clause-pieces g c).In_ok-cut))

pub returns-clause-items : goal.returns-clause-items
returns-clause-items g c = rw c.in_ok-cut.ensures.ok (halves_joined c.args.pieces.now.items c.args.spot c.requires.spot c.requires.pieces (full g (goal.at.returns-clause-items g c).In_ok-cut))

pub returns-clause-rank : goal.returns-clause-rank
returns-clause-rank g c = rw c.in_ok-cut.ensures.ok (second_rank c.args.pieces.now.items c.args.spot c.requires.spot c.requires.pieces (full g (goal.at.returns-clause-rank g c).In_ok-cut) (let late : HALF < c.args.spot.place = omega arith in late))

pub returns-clause-room : goal.returns-clause-room
returns-clause-room g c = rw c.in_ok-cut.ensures.ok (second_has_room c.args.pieces.now.items c.args.spot c.requires.spot c.requires.pieces (full g (goal.at.returns-clause-room g c).In_ok-cut) (let late : HALF < c.args.spot.place = omega arith in late))
