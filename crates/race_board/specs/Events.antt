-- Each step as events: which tasks are live, with parent and mark, and which bans stand, before and after it.
use Rattle.std.specs.Prelude.{◌≡◌, ◌≢◌, ℕ, ◌+◌, ◌<◌, ◌==◌, ◌⊎◌, ◌↔◌, cond, List, [], ◌∷◌, slice_index}
use Rattle.race_board.specs.Words.{number, parent, cancel, ban_word}
use Rattle.race_board.specs.Board.{task}
use Rattle.race_board.specs.declared.views.Size.{Size}

-- tasks by their number, parents by their key (0: a root's), bans by their place
pub data Event : Type 0 where
  put : ℕ → ℕ → Event
  passed : ℕ → Event
  refused : ℕ → ℕ → Event
  ended : ℕ → Event
  asked : ℕ → Event
  worked : ℕ → Event
  marked : ℕ → ℕ → Event
  ban_put : ℕ → ℕ → ℕ → Event
  listed : ℕ → Event
  ban_gone : ℕ → Event

-- the task n, a child of p with the mark m, is live
pub record Live (z : Size) (ws : List ℕ) (n p m : ℕ) : Type 0 where
  pub slot : ℕ
  pub inside : slot < z.slots
  pub word : task ws slot ≢ 0
  pub is : number (task ws slot) ≡ n
  pub child : parent (task ws slot) ≡ p
  pub with : cancel (task ws slot) ≡ m

abbrev pub After : (ℕ → ℕ → ℕ → Type 0) → Event → ℕ → ℕ → ℕ → Type 0
After live (put n p) a b c = live a b c ⊎ ((a ≡ n) × (b ≡ p) × (c ≡ 0))
After live (ended n) a b c = live a b c × (a ≢ n)
After live (refused n k) a b c = live a b c × (a ≢ n)
After live (marked n k) a b c = (live a b c × (a ≢ n)) ⊎ ((a ≡ n) × (c ≡ k) × live a b 0)
After live (passed n) a b c = live a b c
After live (asked n) a b c = live a b c
After live (worked n) a b c = live a b c
After live (ban_put i p k) a b c = live a b c
After live (listed i) a b c = live a b c
After live (ban_gone i) a b c = live a b c

abbrev pub AfterAll : (ℕ → ℕ → ℕ → Type 0) → List Event → ℕ → ℕ → ℕ → Type 0
AfterAll live [] a b c = live a b c
AfterAll live (e ∷ es) a b c = AfterAll (After live e) es a b c

-- the ban word at the place j
abbrev pub ban_after : Event → ℕ → ℕ → ℕ
ban_after (ban_put i p k) j w = cond (j == i) (ban_word p k) w
ban_after (ban_gone i) j w = cond (j == i) 0 w
ban_after (put n p) j w = w
ban_after (passed n) j w = w
ban_after (refused n k) j w = w
ban_after (ended n) j w = w
ban_after (asked n) j w = w
ban_after (worked n) j w = w
ban_after (marked n k) j w = w
ban_after (listed i) j w = w

abbrev pub bans_after : List Event → ℕ → ℕ → ℕ
bans_after [] j w = w
bans_after (e ∷ es) j w = bans_after es j (ban_after e j w)

-- the live tasks with their parents and marks, and the standing bans, change as the events say, and in nothing else
pub record Follows (z : Size) (ws ws' : List ℕ) (es : List Event) : Type 0 where
  pub tasks : (a b c : ℕ) → Live z ws' a b c ↔ AfterAll (Live z ws) es a b c
  pub bans : (j : ℕ) → j < z.bans → slice_index ws' (z.slots + j + 1) ≡ bans_after es j (slice_index ws (z.slots + j + 1))
