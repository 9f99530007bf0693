-- What belongs to each node: what is of its board, and what is of the inboxes of its workers.
use Rattle.std.specs.Prelude.{◌≡◌, ℕ, List, [], ◌∷◌, ◌++◌, map, length, slice_get, Some}
use Rattle.run_cluster.specs.declared.places.Place.{Place}

module _ {S E : Type 0} where
  -- what is of the inboxes of these nodes, for each node that of its control worker and then those of its data workers
  abbrev pub inboxes_of : List (Place S E) → List E
  inboxes_of [] = []
  inboxes_of (p ∷ ps) = (p.control ∷ p.datas.items) ++ inboxes_of ps

  -- each node has what is of its board and of its inboxes, in their order, and the driver the last
  pub record AreDealt (boards : List S) (inboxes : List E) (places : List (Place S E)) (driver : E) : Type 0 where
    pub boards_are : map (λ p. p.board) places ≡ boards
    pub inboxes_are : inboxes_of places ++ driver ∷ [] ≡ inboxes

  -- each node has so many data workers
  abbrev pub AreWide : ℕ → List (Place S E) → Type 0
  AreWide workers places = (k : ℕ) (p : Place S E) → slice_get places k ≡ Some p → length p.datas.items ≡ workers
