-- What an inbox holds and what each of its passes knows.
use Rattle.std.specs.Prelude.{◌≡◌, ℕ, ◌+◌, ◌<◌, ◌≤◌, ◌==◌, Bool, true, false, List, [], ◌∷◌, ◌++◌}
use mathlib.Core.Option.{some}
use lib.ListN.{get_elem?}
use Rattle.node_link.specs.declared.rule.Tagged.{Tagged}
use Rattle.node_link.specs.declared.rule.View.{View}

-- the numbers that f gives, added up
abbrev pub total : {E : Type 0} → (E → ℕ) → List E → ℕ
total f [] = 0
total f (x ∷ xs) = f x + total f xs

module _ {L : Type 0} where
  -- the letter before the others, where it counts
  abbrev pub kept : Bool → L → List L → List L
  kept true x xs = x ∷ xs
  kept false x xs = xs

  -- the letters of sender p, in order
  abbrev pub of : ℕ → List (Tagged L) → List L
  of p [] = []
  of p (x ∷ xs) = kept (x.from == p) x.letter (of p xs)

  -- what the receiver's pass knows
  abbrev pub hub : ℕ → List (Tagged L) → View L
  hub made got = record { sends = false; from = 0; put = []; gets = true; made = made; got = got }

  -- what a sender's pass knows
  abbrev pub sender : ℕ → List L → View L
  sender from put = record { sends = true; from = from; put = put; gets = false; made = 0; got = [] }

  -- what a pass knows that was taken in
  abbrev pub nobody : View L
  nobody = record { sends = false; from = 0; put = []; gets = false; made = 0; got = [] }

  -- after one more sender was made
  abbrev pub one_more : View L → View L
  one_more v = record { sends = v.sends; from = v.from; put = v.put; gets = v.gets; made = v.made + 1; got = v.got }

  -- the receiver's pass, with what a sender's knows
  abbrev pub beside : View L → View L → View L
  beside v w = record { sends = w.sends; from = w.from; put = w.put; gets = v.gets; made = v.made; got = v.got }

  -- after one more letter was sent
  abbrev pub with_put : View L → Tagged L → View L
  with_put v x = record { sends = v.sends; from = v.from; put = v.put ++ x.letter ∷ []; gets = v.gets; made = v.made; got = v.got }

  -- after one more letter was taken
  abbrev pub with_got : View L → Tagged L → View L
  with_got v x = record { sends = v.sends; from = v.from; put = v.put; gets = v.gets; made = v.made; got = v.got ++ x ∷ [] }

  -- each sender has one pass, which knows all that was sent with its number
  abbrev pub FitsSender : (ℕ → ℕ) → ℕ → List (Tagged L) → ℕ → View L → Type 0
  FitsSender seat made all pass v = v.sends ≡ true → (seat v.from ≡ pass) × (v.from < made) × (v.put ≡ of v.from all)

  -- the one receiver knows how many senders there are, and what it got
  abbrev pub FitsReceiver : ℕ → ℕ → List (Tagged L) → ℕ → View L → Type 0
  FitsReceiver reader made got pass v = v.gets ≡ true → (pass ≡ reader) × (v.made ≡ made) × (v.got ≡ got)

  -- what each sender sent is what was got of it, and then what the inbox holds of it
  unfoldable pub Delivers : List (Tagged L) → List (View L) → Type 0
  Delivers items views =
      (reader : ℕ) × (seat : ℕ → ℕ) × (made : ℕ) × (got : List (Tagged L))
      × ((p : ℕ) → made ≤ p → of p (got ++ items) ≡ [])
      × ((pass : ℕ) (v : View L) → get_elem? views pass ≡ some v → FitsSender seat made (got ++ items) pass v × FitsReceiver reader made got pass v)

  -- what a step that found no room or no letter tells: nothing, since its view stays as it is
  abbrev pub Nothing : View L → List (Tagged L) → Type 0
  Nothing v items = Unit {0}

  -- the sender that was taken in sent what was got of it, and what the inbox still holds of it
  abbrev pub Whole : View L → List (Tagged L) → Type 0
  Whole v items = (v.put ≡ of v.from v.got ++ of v.from items) × ((p : ℕ) → v.made ≤ p → of p v.got ≡ [])
