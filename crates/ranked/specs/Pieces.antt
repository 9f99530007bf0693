-- A row of items that lies in pieces.
use Rattle.std.specs.Prelude.{◌≡◌, ℕ, ◌+◌, ◌≤◌, ◌<◌, ◌⊎◌, List, [], ◌∷◌, Option, Some, None, length, take, slice_index_or, All}
use Rattle.std.specs.List.{flat_map}
use Rattle.ranked.specs.declared.piece.TheConstants.{PIECE}
use Rattle.ranked.specs.declared.pieces.Spot.{Spot}

module _ {X : Type 0} where
  -- the items of all pieces, one after another
  abbrev pub joined : List (List X) → List X
  joined pieces = flat_map (λ piece. piece) pieces

  -- a piece has an item, and no more than a piece may have
  abbrev pub IsPiece : List X → Type 0
  IsPiece piece = (1 ≤ length piece) × (length piece ≤ PIECE)

  -- each piece has an item
  abbrev pub AreFilled : List (List X) → Type 0
  AreFilled pieces = All IsPiece pieces

  -- each piece has an item, but for one that is alone
  abbrev pub ArePieces : List (List X) → Type 0
  ArePieces pieces = AreFilled pieces ⊎ (pieces ≡ [] ∷ [])

  -- the piece of this place, without items past the last one
  abbrev pub piece_at : List (List X) → ℕ → List X
  piece_at pieces k = slice_index_or pieces k []

  -- how many items lie before a spot
  abbrev pub rank : List (List X) → Spot → ℕ
  rank pieces spot = length (joined (take spot.piece pieces)) + spot.place

  -- the rank of a spot, or where there is none the one past all items
  abbrev pub rank_or_end : List (List X) → Option Spot → ℕ
  rank_or_end pieces (Some spot) = rank pieces spot
  rank_or_end pieces None = length (joined pieces)

  -- an item lies at the spot
  abbrev pub IsSpot : List (List X) → Spot → Type 0
  IsSpot pieces spot = spot.place < length (piece_at pieces spot.piece)

  -- an item may be put at the spot, as its piece is not full
  pub record HasRoom (pieces : List (List X)) (spot : Spot) : Type 0 where
    pub in_range : spot.piece < length pieces
    pub place : spot.place ≤ length (piece_at pieces spot.piece)
    pub room : length (piece_at pieces spot.piece) < PIECE
