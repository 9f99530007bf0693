-- Workers are made node by node, each over the next board and with the next ends.
use Rattle.std.proofs.Common.{◌≡◌, ℕ, ◌<◌, List, [], ◌∷◌, ◌++◌, length, length-append, Some, refl, sym, ap, ◌∙◌, subst, arith}
use Rattle.std.specs.Prelude.{slice_get, map, All}
use Rattle.std.proofs.lemmas.Option.{slice_get_within, get_or_from_slice_get}
use Rattle.std.proofs.lemmas.List.{length-map}
use Rattle.node_link.proofs.Counts.{each_more, Some_injective}
use Rattle.run_inboxes.specs.Pairs.{Pairwise}
use Rattle.run_inboxes.proofs.Pairs.{pairs_from}
use Rattle.run_cluster.specs.declared.places.Place.{Place}

module _ {S E : Type 0} where
  seats_at : (before rest : List (Place S E)) (p : Place S E) → slice_get (map (λ q. q.board) (before ++ p ∷ rest)) (length before) ≡ Some p.board
  seats_at [] rest p = refl
  seats_at (q ∷ before) rest p = seats_at before rest p

  -- the seats that are dealt next
  pub seats_next : (before rest : List (Place S E)) (p : Place S E) (seats : List S) → map (λ q. q.board) (before ++ p ∷ rest) ≡ seats → slice_get seats (length before) ≡ Some p.board
  seats_next before rest p seats are = subst (λ (l : List S). slice_get l (length before) ≡ Some p.board) are (seats_at before rest p)

  -- as many were dealt as there are
  pub dealt_count : (places : List (Place S E)) (seats : List S) → map (λ q. q.board) places ≡ seats → length places ≡ length seats
  dealt_count places seats are = sym (length-map places (λ q. q.board)) ∙ ap length are

  -- one is dealt that was not before
  pub dealt_within : (before rest : List (Place S E)) (p : Place S E) (seats : List S) → map (λ q. q.board) (before ++ p ∷ rest) ≡ seats → length before < length seats
  dealt_within before rest p seats are =
      let a = dealt_count (before ++ p ∷ rest) seats are in
      let b = length-append before (p ∷ rest) in
      omega arith

module _ {B V : Type 0} (on : B → V → Type 0) (boards : List B) where
  -- each that was made is over the board at its place
  abbrev pub AreOn : List V → Type 0
  AreOn made = (k : ℕ) (v : V) → slice_get made k ≡ Some v → (b : B) → slice_get boards k ≡ Some b → on b v

  pub one_on : (made : List V) (v : V) (b : B) → slice_get boards (length made) ≡ Some b → on b v → AreOn made → AreOn (made ++ v ∷ [])
  one_on made v b at is old = each_more (λ k w. (c : B) → slice_get boards k ≡ Some c → on c w) made v old (λ c there. subst (λ (x : B). on x v) (Some_injective b c (sym at ∙ there)) is)

  pub all_on : (made : List V) → length made ≡ length boards → AreOn made → Pairwise on boards made
  all_on made long are = pairs_from on boards made long (λ i b v at there. are i v there b at)

-- what holds of all things of a list holds of what stands at a place of it
pub all_there : {X : Type 0} (P : X → Type 0) (xs : List X) (k : ℕ) (x : X) → All P xs → slice_get xs k ≡ Some x → P x
all_there P xs k x all at = subst P (get_or_from_slice_get xs k x x at) (all k x (slice_get_within xs k x at))
