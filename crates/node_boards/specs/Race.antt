-- The race board's seats, as workers see them, and what the answer of a call there rests on: the seat's own steps.
use Rattle.std.specs.Prelude.{◌≡◌, ◌≢◌, ℕ, ◌+◌, ◌-◌, ◌^◌, ◌==◌, cond, ◌++◌, ◌∷◌, [], true, false, Bool, Option, Some, None, IfSome, IfNone, IfOk, IfErr, MatchBool}
use Rattle.task_table.specs.TicketParts.{TicketParts}
use Rattle.race_board.specs.Words.{task_word, ban_word}
use Rattle.race_board.specs.Keys.{task_key, parent_key}
use Rattle.race_board.specs.Board.{hold, In}
use Rattle.race_board.specs.Board as board
use Rattle.race_board.specs.Steps.{did, noted, drew}
use Rattle.race_board.specs.Events.{put, ban_put, listed, ban_gone}
use Rattle.race_board.specs.Kinds as kind
use Rattle.race_board.specs.Walks.{Walks}
use Rattle.race_board.specs.Own.{IsListed, Stops, AtTheEnd, HasCleared}
use Rattle.race_board.specs.Calls.{OnlySteps, Refuses, SawFull, Takes}
use Rattle.race_board.specs.Checks.{Checks, Tracks, Untracks, Looks, Ends, EndsSo, check_events, track_events, look_events, all_but}
use Rattle.race_board.specs.Lists.{Bans, NoneOf, Unbans, HandsOver, Listing, Marks, IsMask, new_to, marks_with, mark_events}
use Rattle.race_board.specs.declared.views.Size.{Size}
use Rattle.race_board.specs.declared.views.Hold.{Hold}
use Rattle.race_board.specs.declared.views.View.{View}
use Rattle.node_boards.specs.Calls.{DataCall, ControlCall}
use Rattle.node_boards.specs.Calls as call

-- a ticket of that number, whose parent has that key
abbrev pub IsHold : ℕ → ℕ → Hold → Type 0
IsHold n p h = (h.number ≡ n) × (h.parent ≡ p) × (n ≢ 0)

abbrev pub HoldsTicket : View → ℕ → ℕ → Type 0
HoldsTicket v n p = (i : ℕ) × IsHold n p (hold v i)

-- the number that was drawn and not used
abbrev pub unused : View → Option ℕ
unused v = cond (v.drawn == 0) None (Some v.drawn)

-- a draw told that no number is left
abbrev pub was_told : View → Bool
was_told v = v.told == 1

-- a ban at that place, of the parent with that key, with that cancel
abbrev pub HoldsBan : View → ℕ → ℕ → ℕ → Type 0
HoldsBan v j p c = ((board.ban v j).parent ≡ p) × ((board.ban v j).cancel ≡ c) × (p ≢ 0)

-- no two bans have one parent
abbrev pub OneBanEach : View → Type 0
OneBanEach v = (j k : ℕ) → (board.ban v j).parent ≢ 0 → (board.ban v j).parent ≡ (board.ban v k).parent → j ≡ k

-- the scan of the ban has not begun
abbrev pub IsUnlisted : View → ℕ → Type 0
IsUnlisted v j = (board.ban v j).next ≡ 0

-- the seat marked the task with that number
abbrev pub HasMarked : View → ℕ → Type 0
HasMarked v n = In n v.marked

module _ (z : Size) (v w : View) where
  -- the seat goes from the view v to w by the steps of this call, which saw what it answers
  abbrev pub DataRests : DataCall → Type 0
  DataRests (call.draw told) = Walks kind.draws v w [] × IfSome told (λ n. (n ≢ 0) × (v.told ≡ 0) × (w ≡ noted (drew v n) (did 0 (n - 1) n))) × IfNone told (Refuses v w)
  DataRests (call.claim n p is_claimed) = let word = task_word n (parent_key p) in MatchBool is_claimed
      (Walks (kind.claims word) v w (put n (parent_key p) ∷ []) × Takes v w n (parent_key p))
      (Walks (kind.claims word) v w [] × OnlySteps v w × SawFull v w z.slots)
  DataRests (call.check t told) = Walks (kind.checks t.id.number) v w (check_events t told) × Checks v w t z told
  DataRests (call.track t to told) = Walks (kind.tracks (2 ^ to)) v w (track_events t.id.number told) × Tracks v w t.id.number (2 ^ to) told
  DataRests (call.untrack t to) = Walks (kind.untracks (all_but to)) v w [] × Untracks v w z t.id.number to
  DataRests (call.look t told) = Walks kind.looks v w (look_events t.id.number told) × Looks v w t.id.number told
  DataRests (call.end t told) = EndsSo v w t.id.number × Ends v w t.id.number told

  abbrev pub ControlRests : ControlCall → Type 0
  ControlRests (call.ban t c told) = IfOk told (λ j. Walks (kind.bans (ban_word (task_key t) c)) v w (ban_put j (task_key t) c ∷ []))
      × IfOk told (λ j. Bans v w z (task_key t) c j)
      × IfErr told (λ _. (w ≡ v) × NoneOf v z 0)
  ControlRests (call.list j ns) = let b = board.ban v j in
      Walks (kind.lists j b.cancel) v w (marks_with b.cancel (new_to v ns) ++ listed j ∷ [])
      × IsListed z w j × Stops z w j × HandsOver v w b.parent b.cancel z.slots ns
      × Listing v w j z.slots (v.marked ++ new_to v ns)
  ControlRests (call.mark n c told) = Walks (kind.marks c) v w (mark_events n c told) × Marks v w z n c told
  ControlRests (call.mask n told) = Walks kind.masks v w [] × AtTheEnd z v w (HasCleared n told.0) × IsMask v w z n told.0
  ControlRests (call.unban t told) = (told ≡ true → (j : ℕ) × ((board.ban v j).parent ≡ task_key t) × Walks kind.unbans v w (ban_gone j ∷ []))
      × MatchBool told (Unbans v w z (task_key t)) ((w ≡ v) × NoneOf v z (task_key t))
