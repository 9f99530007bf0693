-- What each step tells, and the facts of one call.
use Rattle.std.specs.Prelude.{◌≡◌, ◌≢◌, ℕ, ◌+◌, ◌-◌, ◌<◌, ◌≤◌, cond, ◌==◌, [], ◌∷◌, ◌++◌, slice_set, bit_or, bit_and, max}
use Rattle.atomic_table.specs.Table.{Me, Step}
use Rattle.race_board.specs.Words.{number, parent, cancel, banned, by, ban_word}
use Rattle.race_board.specs.Board.{hold, ban, no_hold, no_ban}
use Rattle.race_board.specs.declared.views.Did.{Did}
use Rattle.race_board.specs.declared.views.Hold.{Hold}
use Rattle.race_board.specs.declared.views.Ban.{Ban}
use Rattle.race_board.specs.declared.views.Progress.{Progress}
use Rattle.race_board.specs.declared.views.Progress.TheVariants.{Next, Clear, Banned}
use Rattle.race_board.specs.declared.views.View.{View}

abbrev pub At : Type 0
At = Step (Unit {0})

abbrev pub Sat : Type 0
Sat = Me (Unit {0}) View

abbrev pub did : ℕ → ℕ → ℕ → Did
did word seen left = record { word = word; seen = seen; left = left }

-- one more step in the view
abbrev pub noted : View → Did → View
noted v d = record v { steps = v.steps ++ d ∷ [] }

-- the view after it, with no slot in hand
abbrev pub Goes : Sat → View → Type 0
Goes m' w = m' ≡ (w, [])

abbrev pub drew : View → ℕ → View
drew v n = record v { drawn = n; most = max v.most n }

abbrev pub refused : View → View
refused v = record v { told = 1 }

-- a root has nothing to check
abbrev pub fresh : ℕ → Progress
fresh p = cond (p == 0) Clear (Next 0)

abbrev pub with_hold : View → ℕ → Hold → View
with_hold v i h = record v { held = slice_set v.held i h }

abbrev pub took : View → ℕ → ℕ → View
took v i w = record v { drawn = 0; held = slice_set v.held i (record { number = number w; parent = parent w; check = fresh (parent w); cleared = 0; seek = 0 }) }

-- a node's bits were set, and the look is still to come
abbrev pub seeking : Hold → ℕ → Hold
seeking h bits = record h { seek = bits }

-- the look saw no mark
abbrev pub cleared_hold : Hold → Hold
cleared_hold h = record h { cleared = bit_or h.cleared h.seek; seek = 0 }

abbrev pub kept_hold : Hold → ℕ → Hold
kept_hold h bits = record h { cleared = bit_and h.cleared bits; seek = 0 }

abbrev pub with_check : View → ℕ → Progress → View
with_check v i x = with_hold v i (record (hold v i) { check = x })

-- a ban of p with c, whose scan comes to the slot i
abbrev pub banning : ℕ → ℕ → ℕ → Ban
banning p c i = record { parent = p; cancel = c; next = i }

abbrev pub with_ban : View → ℕ → Ban → View
with_ban v j b = record v { bans = slice_set v.bans j b }

-- the scan of the ban at j goes past the slot i, where the word w will be marked if about is not 0
abbrev pub past : View → ℕ → ℕ → ℕ → ℕ → View
past v j i about w = record v { bans = slice_set v.bans j (banning (ban v j).parent (ban v j).cancel (i + 1)); about = about; loaded = w }

abbrev pub after_draw : At → Sat → ℕ → Sat → Type 0
after_draw st m n m' =
    (n < 1048575 → Goes m' (noted (drew m.0 (n + 1)) (did st.word n (n + 1))))
    × (1048575 ≤ n → Goes m' (noted (refused m.0) (did st.word n (n + 1))))

abbrev pub after_claim : At → Sat → ℕ → Sat → Type 0
after_claim st m n m' =
    (n ≡ 0 → Goes m' (noted (took m.0 (st.word - 1) st.second) (did st.word 0 st.second)))
    × (n ≢ 0 → Goes m' (noted m.0 (did st.word n n)))
    × ((i : ℕ) → (hold m.0 i).number ≢ 0 → (hold m.0 i).number ≢ m.0.drawn)
    × (n ≡ 0 → (hold m.0 (st.word - 1)).number ≡ 0)

-- a load that is only noted
abbrev pub after_note : At → Sat → ℕ → Sat → Type 0
after_note st m n m' = Goes m' (noted m.0 (did st.word n n))

-- a load of the seat's own task word
abbrev pub after_glance : At → Sat → ℕ → Sat → Type 0
after_glance st m n m' =
    (number n ≡ (hold m.0 (st.word - 1)).number) × (parent n ≡ (hold m.0 (st.word - 1)).parent)
    × Goes m' (noted m.0 (did st.word n n))

-- the check of the ticket at the slot i loads a ban place
abbrev pub after_check : ℕ → At → Sat → ℕ → Sat → Type 0
after_check i st m n m' =
    (banned n ≡ (hold m.0 i).parent → Goes m' (noted (with_check m.0 i (Banned (by n))) (did st.word n n)))
    × (banned n ≢ (hold m.0 i).parent → st.word ≡ m.0.size.slots + m.0.size.bans → Goes m' (noted (with_check m.0 i Clear) (did st.word n n)))
    × (banned n ≢ (hold m.0 i).parent → st.word ≢ m.0.size.slots + m.0.size.bans → Goes m' (noted (with_check m.0 i (Next (st.word - m.0.size.slots))) (did st.word n n)))

abbrev pub after_end : At → Sat → ℕ → Sat → Type 0
after_end st m n m' =
    (number n ≡ (hold m.0 (st.word - 1)).number) × (parent n ≡ (hold m.0 (st.word - 1)).parent)
    × Goes m' (noted (with_hold m.0 (st.word - 1) no_hold) (did st.word n 0))

-- the slot whose mask word it is
abbrev pub masked_slot : At → Sat → ℕ
masked_slot st m = st.word - m.0.size.slots - m.0.size.bans - 1

abbrev pub after_track : At → Sat → ℕ → Sat → Type 0
after_track st m n m' = let i = masked_slot st m in Goes m' (noted (with_hold m.0 i (seeking (hold m.0 i) st.first)) (did st.word n (bit_or n st.first)))

abbrev pub after_untrack : At → Sat → ℕ → Sat → Type 0
after_untrack st m n m' = let i = masked_slot st m in Goes m' (noted (with_hold m.0 i (kept_hold (hold m.0 i) st.first)) (did st.word n (bit_and n st.first)))

-- the look after a track: with no mark, the node is cleared
abbrev pub after_look : At → Sat → ℕ → Sat → Type 0
after_look st m n m' = let h = hold m.0 (st.word - 1) in
    (cancel n ≡ 0 → Goes m' (noted (with_hold m.0 (st.word - 1) (cleared_hold h)) (did st.word n n)))
    × (cancel n ≢ 0 → Goes m' (noted (with_hold m.0 (st.word - 1) (seeking h 0)) (did st.word n n)))

-- the mask n of the slot i was loaded, and the slot's word is still to come
abbrev pub halved : View → ℕ → ℕ → View
halved v i n = record v { half = i + 1; half_mask = n }

-- the word is that of the marked task n
abbrev pub with_mask : View → ℕ → View
with_mask v n = record v { half = 0; half_mask = 0; masks = record { number = n; nodes = v.half_mask } ∷ v.masks }

abbrev pub no_mask : View → View
no_mask v = record v { half = 0; half_mask = 0 }

-- a mask is loaded, and then the slot's word
abbrev pub after_half : At → Sat → ℕ → Sat → Type 0
after_half st m n m' = Goes m' (noted (halved m.0 (masked_slot st m) n) (did st.word n n))

abbrev pub after_whole : At → Sat → ℕ → Sat → Type 0
after_whole st m n m' =
    (cancel n ≢ 0 → Goes m' (noted (with_mask m.0 (number n)) (did st.word n n)))
    × (cancel n ≡ 0 → Goes m' (noted (no_mask m.0) (did st.word n n)))

abbrev pub after_lift : At → Sat → ℕ → Sat → Type 0
after_lift st m n m' = let j = st.word - m.0.size.slots - 1 in (n ≡ ban_word (ban m.0 j).parent (ban m.0 j).cancel) × Goes m' (noted (with_ban m.0 j no_ban) (did st.word n 0))

abbrev pub after_ban : At → Sat → ℕ → Sat → Type 0
after_ban st m n m' =
    (n ≡ 0 → Goes m' (noted (with_ban m.0 (st.word - m.0.size.slots - 1) (banning (banned st.second) (by st.second) 0)) (did st.word 0 st.second)))
    × (n ≢ 0 → Goes m' (noted m.0 (did st.word n n)))

-- the word is that of an unmarked child of the ban at j
abbrev pub Wanted : Sat → ℕ → ℕ → Type 0
Wanted m j n = (parent n ≡ (ban m.0 j).parent) × (cancel n ≡ 0)

-- the scan of the ban at j loads a slot
abbrev pub after_scan : ℕ → At → Sat → ℕ → Sat → Type 0
after_scan j st m n m' =
    (Wanted m j n → Goes m' (noted (past m.0 j (st.word - 1) st.word n) (did st.word n n)))
    × (¬ Wanted m j n → Goes m' (noted (past m.0 j (st.word - 1) 0 0) (did st.word n n)))

-- the slot i is marked, where its number was n
abbrev pub struck : View → ℕ → ℕ → View
struck v i n = record v { about = 0; loaded = 0; marked = v.marked ++ n ∷ []; last = slice_set v.last i n }

abbrev pub missed : View → View
missed v = record v { about = 0; loaded = 0 }

abbrev pub after_mark : At → Sat → ℕ → Sat → Type 0
after_mark st m n m' =
    (n ≡ st.first → Goes m' (noted (struck m.0 (st.word - 1) (number n)) (did st.word n st.second)))
    × (n ≢ st.first → Goes m' (noted (missed m.0) (did st.word n n)))
