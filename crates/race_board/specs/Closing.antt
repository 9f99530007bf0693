-- What is still out when a board closes.
use Rattle.std.specs.Prelude.{◌≡◌, ◌≢◌, ℕ, ◌+◌, ◌==◌, Bool, not, max, List, take, drop, count_by, sum_by, fold}
use Rattle.task_ids.specs.declared.board_name.BoardName as name
use Rattle.race_board.specs.Board.{tickets_out}
use Rattle.race_board.specs.Seats.{seat_view}
use Rattle.race_board.specs.Theorem.{Moment, Sits, Holds}
use Rattle.race_board.specs.declared.views.Size.{Size}
use Rattle.race_board.specs.declared.views.Ban.{Ban}
use Rattle.race_board.specs.declared.views.View.{View}
use Rattle.race_board.specs.declared.seats.DataSeat.{DataSeat}

-- a ban stands there
abbrev pub is_banned : Ban → Bool
is_banned b = not (b.parent == 0)

-- the bans that stand
abbrev pub bans_out : View → ℕ
bans_out v = count_by is_banned v.bans

-- a word is not free
abbrev pub is_taken : ℕ → Bool
is_taken w = not (w == 0)

-- the task words that are not free, and the ban words
abbrev pub tasks_left : Size → List ℕ → ℕ
tasks_left z ws = count_by is_taken (take z.slots (drop 1 ws))

abbrev pub bans_left : Size → List ℕ → ℕ
bans_left z ws = count_by is_taken (take z.bans (drop (z.slots + 1) ws))

-- The last moment of a board: each data seat was joined to the control seat, and in the words stand so many tasks and so many bans
pub record Last (z : Size) (live standing : ℕ) : Type 0 where
  pub moment : Moment
  pub holds : Holds z moment
  pub joined : (k : ℕ) (v : View) → Sits moment k v → k ≢ 0 → v.gone ≡ 1
  pub tasks : tasks_left z moment.words ≡ live
  pub bans : bans_left z moment.words ≡ standing

module _ {N : Type 0} {G : name.Ghosts N} where
  -- the tickets of all seats
  abbrev pub all_tickets : List (DataSeat N G) → ℕ
  all_tickets seats = sum_by (λ s. tickets_out (seat_view s)) seats

  -- the greatest number that one of the seats drew, or 0
  abbrev pub greatest_drawn : List (DataSeat N G) → ℕ
  greatest_drawn seats = fold (λ n s. max n (seat_view s).most) 0 seats
