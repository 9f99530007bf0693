-- The steps of each call: on which word, what each leaves there, and its events.
use Rattle.std.specs.Prelude.{◌≡◌, ℕ, ◌+◌, ◌%◌, ◌^◌, ◌<◌, ◌⊎◌, ◌==◌, cond, List, [], bit_or, bit_and}
use prog.Atomic.{either}
use Rattle.race_board.specs.Words.{with_mark}
use Rattle.race_board.specs.Board.{hold}
use Rattle.race_board.specs.Events.{Event}
use Rattle.race_board.specs.StepEvents.{of_claim, of_check, of_end, of_ban, of_scan, of_mark, of_track_look, of_look, of_unban}
use Rattle.race_board.specs.declared.views.View.{View}

-- What a call does: claim with a word; check the task of a number; track or untrack with bits; ban with a word; list the ban at a place, with its cancel; mark with a cancel
pub data Kind : Type 0 where
  draws : Kind
  claims : ℕ → Kind
  checks : ℕ → Kind
  tracks : ℕ → Kind
  untracks : ℕ → Kind
  looks : Kind
  ends : Kind
  bans : ℕ → Kind
  lists : ℕ → ℕ → Kind
  marks : ℕ → Kind
  masks : Kind
  unbans : Kind

-- x is the task word, or the mask word, of the slot i, or the ban word of the place j
abbrev pub OnTask : View → ℕ → ℕ → Type 0
OnTask v x i = (i < v.size.slots) × (x ≡ i + 1)

abbrev pub OnMask : View → ℕ → ℕ → Type 0
OnMask v x i = (i < v.size.slots) × (x ≡ v.size.slots + v.size.bans + i + 1)

abbrev pub OnBan : View → ℕ → ℕ → Type 0
OnBan v x j = (j < v.size.bans) × (x ≡ v.size.slots + j + 1)

-- of a list of the ban at the place j, 1 more than j at the last slot's word, and else 0
abbrev pub listing_done : View → ℕ → ℕ → ℕ
listing_done v j x = cond (x == v.size.slots) (j + 1) 0

-- A step of such a call, by a seat with the view v: it is on the word x, where it finds n and leaves m, and these are its events
abbrev pub IsStep : Kind → View → ℕ → ℕ → ℕ → List Event → Type 0
IsStep draws v x n m es = (x ≡ 0) × (m ≡ (n + 1) % 2 ^ 64) × (es ≡ [])
IsStep (claims y) v x n m es = (i : ℕ) × OnTask v x i × (m ≡ either (n == 0) y n) × (es ≡ of_claim n y)
IsStep (checks t) v x n m es = (i j : ℕ) × ((hold v i).number ≡ t) × OnBan v x j × (m ≡ n) × (es ≡ of_check (hold v i) x (v.size.slots + v.size.bans) n)
IsStep (tracks bit) v x n m es = (i : ℕ) × ((OnMask v x i × (m ≡ bit_or n bit) × (es ≡ [])) ⊎ (OnTask v x i × (m ≡ n) × (es ≡ of_track_look (hold v i) n)))
IsStep (untracks bits) v x n m es = (i : ℕ) × OnMask v x i × (m ≡ bit_and n bits) × (es ≡ [])
IsStep looks v x n m es = (i : ℕ) × OnTask v x i × (m ≡ n) × (es ≡ of_look (hold v i) n)
IsStep ends v x n m es = (i : ℕ) × OnTask v x i × (m ≡ 0) × (es ≡ of_end (hold v i) (hold v i).check)
IsStep (bans y) v x n m es = (j : ℕ) × OnBan v x j × (m ≡ either (n == 0) y n) × (es ≡ of_ban j n y)
IsStep (lists j c) v x n m es = (i : ℕ) × OnTask v x i × (((m ≡ n) × (es ≡ of_scan v j x n)) ⊎ ((old : ℕ) × (m ≡ either (n == old) (with_mark old c) n) × (es ≡ of_mark (listing_done v j x) n old (with_mark old c))))
IsStep (marks c) v x n m es = (i : ℕ) × OnTask v x i × (((m ≡ n) × (es ≡ [])) ⊎ ((old : ℕ) × (m ≡ either (n == old) (with_mark old c) n) × (es ≡ of_mark 0 n old (with_mark old c))))
IsStep masks v x n m es = (i : ℕ) × (OnMask v x i ⊎ OnTask v x i) × (m ≡ n) × (es ≡ [])
IsStep unbans v x n m es = (j : ℕ) × OnBan v x j × (m ≡ 0) × (es ≡ of_unban j)
