-- A full piece that is cut in two.
use Rattle.std.proofs.Common.{◌≡◌, ℕ, ◌+◌, ◌-◌, ◌<◌, ◌≤◌, List, length, set, take, drop, insert, ◌∙◌, ap, arith, length-append, length-take, length-drop}
use Rattle.std.proofs.lemmas.List.Edits.{length-insert}
use Rattle.std.proofs.lemmas.List.{length-set}
use Rattle.ranked.specs.declared.piece.TheConstants.{PIECE}
use Rattle.ranked.specs.declared.pieces.TheConstants.{HALF}
use Rattle.ranked.specs.declared.pieces.Spot.{Spot}
use Rattle.ranked.specs.Pieces.{joined, rank, piece_at, AreFilled, IsPiece, IsSpot, HasRoom}
use Rattle.ranked.proofs.Joined.{piece_there, joined_cut, all_cut, first_half, second_half, joined_before_first, joined_before_second}

-- the pieces with this one cut in two
abbrev pub halved : {X : Type 0} → List (List X) → ℕ → List (List X)
halved pieces k = insert (set pieces k (take HALF (piece_at pieces k))) (k + 1) (drop HALF (piece_at pieces k))

module _ {X : Type 0} (pieces : List (List X)) (spot : Spot) (there : IsSpot pieces spot) (all : AreFilled pieces) (full : PIECE ≤ length (piece_at pieces spot.piece)) where
  low : spot.piece < length pieces
  low = piece_there pieces spot.piece spot.place there

  whole : length (piece_at pieces spot.piece) ≡ 512
  whole = let most = all spot.piece Rattle.std.proofs.Common.[] low in omega arith

  first_long : length (take HALF (piece_at pieces spot.piece)) ≡ 256
  first_long = let is = whole in omega (arith, length-take HALF (piece_at pieces spot.piece))

  second_long : length (drop HALF (piece_at pieces spot.piece)) ≡ 256
  second_long = let is = whole in omega (arith, length-drop HALF (piece_at pieces spot.piece))

  longer : length (halved pieces spot.piece) ≡ length pieces + 1
  longer =
      let first = take HALF (piece_at pieces spot.piece) in
      let same = length-set pieces spot.piece first in
      let room : spot.piece < length pieces = low in
      omega (arith, length-insert (set pieces spot.piece first) (spot.piece + 1) (drop HALF (piece_at pieces spot.piece)) (omega arith))

  pub halves_are_pieces : AreFilled (halved pieces spot.piece)
  halves_are_pieces = all_cut pieces spot.piece low HALF IsPiece all (omega (arith, first_long), omega (arith, first_long)) (omega (arith, second_long), omega (arith, second_long))

  pub halves_joined : joined (halved pieces spot.piece) ≡ joined pieces
  halves_joined = joined_cut pieces spot.piece low HALF

  pub first_rank : rank (halved pieces spot.piece) spot ≡ rank pieces spot
  first_rank = ap (λ before. length before + spot.place) (joined_before_first pieces spot.piece low HALF)

  pub first_has_room : spot.place ≤ HALF → HasRoom (halved pieces spot.piece) spot
  first_has_room early =
      let long : length (piece_at (halved pieces spot.piece) spot.piece) ≡ 256 = ap length (first_half pieces spot.piece low HALF) ∙ first_long in
      let more = longer in
      let there' : spot.piece < length pieces = low in
      record { in_range = omega arith; place = omega arith; room = omega arith }

  pub second_rank : HALF < spot.place → rank (halved pieces spot.piece) (record { piece = spot.piece + 1; place = spot.place - HALF }) ≡ rank pieces spot
  second_rank late =
      let before = ap length (joined_before_second pieces spot.piece low HALF) in
      let long = first_long in
      omega (arith, before, length-append (joined (take spot.piece pieces)) (take HALF (piece_at pieces spot.piece)))

  pub second_has_room : HALF < spot.place → HasRoom (halved pieces spot.piece) (record { piece = spot.piece + 1; place = spot.place - HALF })
  second_has_room late =
      let long : length (piece_at (halved pieces spot.piece) (spot.piece + 1)) ≡ 256 = ap length (second_half pieces spot.piece low HALF) ∙ second_long in
      let more = longer in
      let is = whole in
      let there' : spot.piece < length pieces = low in
      record { in_range = omega arith; place = omega arith; room = omega arith }
