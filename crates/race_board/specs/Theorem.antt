-- What holds at each moment of a board.
use Rattle.std.specs.Prelude.{◌≡◌, ◌≢◌, ℕ, ◌+◌, ◌<◌, ◌≤◌, slice_index}
use mathlib.Core.Option.{some}
use lib.ListN.{get_elem?}
use Rattle.atomic_table.specs.Table.{State}
use Rattle.std.specs.Int.{bit_at}
use Rattle.race_board.specs.Words.{number, parent, cancel, ban_word}
use Rattle.race_board.specs.Board.{hold, ban, task, mask, told_count, In, Has, Tracked, Behind, Late}
use Rattle.race_board.specs.declared.views.Size.{Size}
use Rattle.race_board.specs.declared.views.View.{View}

abbrev pub Moment : Type 0
Moment = State (Unit {0}) View

-- the seat k has the view v
abbrev pub Sits : Moment → ℕ → View → Type 0
Sits s k v = get_elem? s.views k ≡ some v

-- Register against ban: each ban of the control seat stands in its word, and where a scan has passed a live unmarked child, its holder's check has not loaded that place, or it is banned
pub record Against (z : Size) (s : Moment) (c : View) : Type 0 where
  pub stands : (j : ℕ) → j < z.bans → (ban c j).parent ≢ 0 → slice_index s.words (z.slots + j + 1) ≡ ban_word (ban c j).parent (ban c j).cancel
  pub free : (j : ℕ) → j < z.bans → (ban c j).parent ≡ 0 → slice_index s.words (z.slots + j + 1) ≡ 0
  pub told : (i j : ℕ) → i < z.slots → Late z c s.words i j → (k : ℕ) × (u : View) × Sits s k u × (number (task s.words i) ≡ (hold u i).number) × Behind j (hold u i).check

-- Holders: each task word is held by one ticket of one seat, and no number is in two places
pub record Held (z : Size) (s : Moment) (c : View) : Type 0 where
  pub one : (i : ℕ) → i < z.slots → task s.words i ≢ 0 → (k : ℕ) × (u : View) × Sits s k u × ((hold u i).number ≡ number (task s.words i)) × ((hold u i).parent ≡ parent (task s.words i)) × ((hold u i).number ≢ 0)
  pub live : (k i : ℕ) (u : View) → Sits s k u → (hold u i).number ≢ 0 → (i < z.slots) × (task s.words i ≢ 0) × (number (task s.words i) ≡ (hold u i).number)
  pub words_apart : (i j : ℕ) → i < z.slots → j < z.slots → task s.words i ≢ 0 → task s.words j ≢ 0 → number (task s.words i) ≡ number (task s.words j) → i ≡ j
  pub tickets_apart : (k l i j : ℕ) (u w : View) → Sits s k u → Sits s l w → (hold u i).number ≢ 0 → (hold u i).number ≡ (hold w j).number → (k ≡ l) × (i ≡ j)
  pub unused_ticket : (k l i : ℕ) (u w : View) → Sits s k u → Sits s l w → u.drawn ≢ 0 → (hold w i).number ≢ u.drawn
  pub unused_apart : (k l : ℕ) (u w : View) → Sits s k u → Sits s l w → u.drawn ≢ 0 → u.drawn ≡ w.drawn → k ≡ l
  pub unused_marked : (k : ℕ) (u : View) → Sits s k u → u.drawn ≢ 0 → ¬ In u.drawn c.marked
  pub unused_loaded : (k : ℕ) (u : View) → Sits s k u → u.drawn ≢ 0 → c.about ≢ 0 → number c.loaded ≢ u.drawn
  pub drawn_given : (k : ℕ) (u : View) → Sits s k u → u.drawn ≤ slice_index s.words 0
  pub words_given : (i : ℕ) → i < z.slots → number (task s.words i) ≤ slice_index s.words 0
  pub marked_given : (n : ℕ) → In n c.marked → n ≤ slice_index s.words 0
  pub counted : slice_index s.words 0 ≤ 1048575 + told_count s.views

-- Ask against mark: what a ticket cleared or tracked is in its mask word, a word has a mark exactly where its number is among those that control marked, and each mask that control has of a live marked task has each node that its ticket cleared
pub record Asked (z : Size) (s : Moment) (c : View) : Type 0 where
  pub masked : (k i x : ℕ) (u : View) → Sits s k u → (hold u i).number ≢ 0 → Tracked (hold u i) x → bit_at (mask z s.words i) x ≡ 1
  pub marked : (i : ℕ) → i < z.slots → task s.words i ≢ 0 → (cancel (task s.words i) ≢ 0 → In (number (task s.words i)) c.marked) × (cancel (task s.words i) ≡ 0 → ¬ In (number (task s.words i)) c.marked)
  pub latest : (i : ℕ) → i < z.slots → cancel (task s.words i) ≢ 0 → slice_index c.last i ≡ number (task s.words i)
  pub known : (n m : ℕ) → Has n m c.masks → In n c.marked
  pub caught : (k i n m x : ℕ) (u : View) → Sits s k u → (hold u i).number ≢ 0 → (hold u i).number ≡ n → Has n m c.masks → bit_at (hold u i).cleared x ≡ 1 → bit_at m x ≡ 1

-- All that is promised of a moment, of the control seat's view. So it is of the own view of the one seat that leads
pub record Holds (z : Size) (s : Moment) : Type 0 where
  pub control : View
  pub first : Sits s 0 control
  pub leads : (k : ℕ) (u : View) → Sits s k u → u.lead ≢ 0 → u ≡ control
  pub against : Against z s control
  pub held : Held z s control
  pub asked : Asked z s control
