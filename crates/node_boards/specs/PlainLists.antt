-- What a list on a plain board hands over, and what it leaves.
use Rattle.std.specs.Prelude.{◌≡◌, ℕ, zero, suc, ◌<◌, ◌==◌, ◌||◌, ◌++◌, ◌∷◌, [], MatchOption, take, Bool, false, cond, List, Option, Some, None, is_none, length, slice_index_or}
use Rattle.node_boards.specs.Plain.{Rows, slot, ban, child_in, struck}
use Rattle.node_boards.specs.declared.plain_rows.Live.{Live}
use Rattle.node_boards.specs.declared.plain_rows.Ban.{Ban}

-- the number is the last that was marked in the slot
abbrev pub is_last : ℕ → Option ℕ → Bool
is_last n None = false
is_last n (Some m) = m == n

-- a child is handed over where it has no mark yet, or where the seat had marked it
abbrev pub handed_of : Option Live → Option ℕ → Option ℕ
handed_of None last = None
handed_of (Some live) last = cond (is_none live.mark || is_last live.number last) (Some live.number) None

-- the seat keeps for a slot the number that was marked there last
abbrev pub last_of : Option ℕ → Option ℕ → Option ℕ
last_of None last = last
last_of (Some n) last = Some n

abbrev pub as_list : Option ℕ → List ℕ
as_list None = []
as_list (Some n) = n ∷ []

abbrev pub last : List (Option ℕ) → ℕ → Option ℕ
last l i = slice_index_or l i None

module _ (b : Ban) (t : Rows) (marked : List (Option ℕ)) where
  -- of the slot i
  abbrev pub handed_at : ℕ → Option ℕ
  handed_at i = handed_of (child_in b (slot t i)) (last marked i)

  -- of the slots below i, in their order
  abbrev pub handed_below : ℕ → List ℕ
  handed_below zero = []
  handed_below (suc i) = handed_below i ++ as_list (handed_at i)

  -- the slots below i were passed: their children are marked, and the seat keeps their numbers
  pub record Passed (i : ℕ) (u : Rows) (kept : List (Option ℕ)) : Type 0 where
    pub struck_below : (k : ℕ) → k < i → slot u k ≡ struck b (slot t k)
    pub same_slots : (k : ℕ) → (k < i → ⊥) → slot u k ≡ slot t k
    pub kept_below : (k : ℕ) → k < i → last kept k ≡ last_of (handed_at k) (last marked k)
    pub same_kept : (k : ℕ) → (k < i → ⊥) → last kept k ≡ last marked k
    pub same_bans : u.bans ≡ t.bans

-- a list of the ban at the place j, whose scan passes the slots that the seat keeps; it hands over what stands before the count in what is found
abbrev pub Lists : Rows → Rows → List (Option ℕ) → List (Option ℕ) → ℕ → ℕ → List ℕ → Type 0
Lists t u kept now j count found = MatchOption (ban t j)
    ((count ≡ 0) × (u ≡ t) × (now ≡ kept))
    (λ b. (take count found ≡ handed_below b t kept (length kept)) × Passed b t kept (length kept) u now)
