-- What the control seat's calls say.
use Rattle.std.specs.Prelude.{◌≡◌, ◌≢◌, ℕ, zero, suc, ◌+◌, ◌<◌, ◌⊎◌, ◌==◌, Bool, not, cond, List, ◌++◌, ◌∷◌, [], map, filter, slice_index, slice_set, Option, Some, None}
use Rattle.std.specs.List.{list_any}
use Rattle.task_table.specs.declared.ended.MarkAnswer.{MarkAnswer}
use Rattle.task_table.specs.declared.ended.MarkAnswer.TheVariants.{Marked, Already, NotFound}
use Rattle.race_board.specs.Words.{number, parent, cancel, ban_word, with_mark}
use Rattle.race_board.specs.Board.{ban, no_ban, In}
use Rattle.race_board.specs.Steps.{did, noted, banning, with_ban}
use Rattle.race_board.specs.Calls.{Saw, Wrote, OnlySteps}
use Rattle.race_board.specs.Events.{Event, marked, listed}
use Rattle.race_board.specs.declared.views.Size.{Size}
use Rattle.race_board.specs.declared.views.View.{View}

-- the ban is put in a free place by one step
abbrev pub Bans : View → View → Size → ℕ → ℕ → ℕ → Type 0
Bans v w z p c j = (j < z.bans) × ((ban v j).parent ≡ 0) × (w ≡ noted (with_ban v j (banning p c 0)) (did (z.slots + j + 1) 0 (ban_word p c)))

-- no ban of the seat has that parent; a free place has the parent 0
abbrev pub NoneOf : View → Size → ℕ → Type 0
NoneOf v z p = (j : ℕ) → j < z.bans → (ban v j).parent ≢ p

-- the ban is taken away by one step
abbrev pub Unbans : View → View → Size → ℕ → Type 0
Unbans v w z p = (j : ℕ) × (j < z.bans) × ((ban v j).parent ≡ p) × (w ≡ noted (with_ban v j no_ban) (did (z.slots + j + 1) (ban_word p (ban v j).cancel) 0))

-- the seat has marked the task with that number
abbrev pub has_marked : View → ℕ → Bool
has_marked v n = list_any (λ m. n == m) v.marked

-- those of the numbers whose tasks the seat has not marked
abbrev pub new_to : View → List ℕ → List ℕ
new_to v ns = filter (λ n. not (has_marked v n)) ns

-- the one number, or none
abbrev pub as_list : Option ℕ → List ℕ
as_list (Some n) = n ∷ []
as_list None = []

-- the call marked the child of p in the slot i, which its load had seen without a mark
abbrev pub MarksChild : View → View → ℕ → ℕ → ℕ → ℕ → Type 0
MarksChild v w p c i n = (seen : ℕ) × Saw v w (i + 1) seen × (parent seen ≡ p) × (number seen ≡ n) × (cancel seen ≡ 0) × Wrote v w (i + 1) seen (with_mark seen c)

-- its load saw the child of p in the slot i with a mark, which the seat had set before
abbrev pub SawMarked : View → View → ℕ → ℕ → ℕ → Type 0
SawMarked v w p i n = (seen : ℕ) × Saw v w (i + 1) seen × (parent seen ≡ p) × (number seen ≡ n) × (cancel seen ≢ 0) × In n v.marked

-- its load saw no child of p in the slot i, or one without a mark whose word had changed before the exchange
abbrev pub SawNoChild : View → View → ℕ → ℕ → Type 0
SawNoChild v w p i = (seen : ℕ) × Saw v w (i + 1) seen × (parent seen ≡ p → (cancel seen ≡ 0) × ((after : ℕ) × Saw v w (i + 1) after × (seen ≢ after)))

-- of the slot i a child is handed over that the call marked, or that it saw marked, or none
abbrev pub Hands : View → View → ℕ → ℕ → ℕ → Option ℕ → Type 0
Hands v w p c i (Some n) = MarksChild v w p c i n ⊎ SawMarked v w p i n
Hands v w p c i None = SawNoChild v w p i

-- the scan of the slots below i, for the ban of p with the cancel c, hands over these numbers, in the order of the slots
abbrev pub HandsOver : View → View → ℕ → ℕ → ℕ → List ℕ → Type 0
HandsOver v w p c zero ns = ns ≡ []
HandsOver v w p c (suc i) ns = (earlier : List ℕ) × (got : Option ℕ) × HandsOver v w p c i earlier × Hands v w p c i got × (ns ≡ earlier ++ as_list got)

abbrev pub last_with : List ℕ → ℕ → Option ℕ → List ℕ
last_with l i (Some n) = slice_set l i n
last_with l i None = l

-- the scan of the ban at j has come to the slot i, and these numbers are marked
abbrev pub Listing : View → View → ℕ → ℕ → List ℕ → Type 0
Listing v w j i ns = w ≡ record v { steps = w.steps; bans = slice_set v.bans j (banning (ban v j).parent (ban v j).cancel i); about = 0; loaded = 0; marked = ns; last = w.last }

-- the scan of the ban at j goes past the slot i, whose child, if one is handed over, is the last that the seat marked there
abbrev pub Passes : View → View → ℕ → ℕ → Option ℕ → Type 0
Passes v w j i got = w ≡ record v { steps = w.steps; bans = slice_set v.bans j (banning (ban v j).parent (ban v j).cancel (i + 1)); about = 0; loaded = 0; marked = v.marked ++ new_to v (as_list got); last = last_with v.last i got }

-- the seat had not marked the child in the slot i, or it was the last that it marked there
abbrev pub WasLast : View → ℕ → ℕ → Type 0
WasLast v i n = (¬ In n v.marked) ⊎ ((n ≢ 0) × In n v.marked × (slice_index v.last i ≡ n))

-- each of these is marked with the cancel
abbrev pub marks_with : ℕ → List ℕ → List Event
marks_with c ns = map (λ n. marked n c) ns

-- the list of the ban at the place j is done once its scan has passed the last slot
abbrev pub done_at : Size → ℕ → ℕ → List Event
done_at z j i = cond (i == z.slots) (listed j ∷ []) []

-- the events of the scan of the ban at the place j with the cancel c, when it passes the slot i and marks these
abbrev pub pass_events : Size → ℕ → ℕ → ℕ → List ℕ → List Event
pass_events z j c i ns = marks_with c ns ++ done_at z j (i + 1)

-- one scan of the call met no live word of that number
abbrev pub SawNone : View → View → ℕ → ℕ → Type 0
SawNone v w slots n = (i : ℕ) → i < slots → (seen : ℕ) × Saw v w (i + 1) seen × (seen ≢ 0 → number seen ≢ n)

-- the task was seen, and its word had changed before the exchange
abbrev pub SawGo : View → View → ℕ → Type 0
SawGo v w n = (i : ℕ) × (before : ℕ) × (after : ℕ) × Saw v w (i + 1) before × Saw v w (i + 1) after × (number before ≡ n) × (before ≢ after)

-- the task's word, which was seen without a mark, got this one; or it was seen with another; or the task was not found
abbrev pub Marks : View → View → Size → ℕ → ℕ → MarkAnswer → Type 0
Marks v w z n c Marked = (i : ℕ) × (seen : ℕ) × Saw v w (i + 1) seen × Wrote v w (i + 1) seen (with_mark seen c) × (number seen ≡ n) × (cancel seen ≡ 0) × (w ≡ record v { steps = w.steps; marked = v.marked ++ n ∷ []; last = slice_set v.last i n })
Marks v w z n c (Already k) = OnlySteps v w × ((i : ℕ) × (seen : ℕ) × Saw v w (i + 1) seen × (number seen ≡ n) × (cancel seen ≡ k) × (k ≢ 0))
Marks v w z n c NotFound = OnlySteps v w × (SawNone v w z.slots n ⊎ SawGo v w n)

-- the task is marked with the cancel
abbrev pub mark_events : ℕ → ℕ → MarkAnswer → List Event
mark_events n c Marked = marked n c ∷ []
mark_events n c (Already k) = []
mark_events n c NotFound = []

-- who was marked now is among those that the seat marked
abbrev pub KnownBy : View → ℕ → MarkAnswer → Type 0
KnownBy w n Marked = In n w.marked
KnownBy w n (Already k) = Unit {0}
KnownBy w n NotFound = Unit {0}

abbrev pub AlreadyBy : (ℕ → Type 0) → MarkAnswer → Type 0
AlreadyBy allowed Marked = Unit {0}
AlreadyBy allowed (Already c) = allowed c
AlreadyBy allowed NotFound = Unit {0}

-- the task was marked last in the slot i: the mask of nodes is what was loaded, where the word after it was still the task's, and else empty
pub record Masks (v w : View) (z : Size) (n nodes i : ℕ) : Type 0 where
  pub slot : slice_index v.last i ≡ n
  pub loaded : ℕ
  pub seen : ℕ
  pub saw_mask : Saw v w (z.slots + z.bans + i + 1) loaded
  pub saw_word : Saw v w (i + 1) seen
  pub whole : seen ≢ 0 → number seen ≡ n → (nodes ≡ loaded) × (w.masks ≡ record { number = n; nodes = loaded } ∷ v.masks)
  pub none : (seen ≢ 0 → number seen ≢ n) → nodes ≡ 0
  pub frame : w ≡ record v { steps = w.steps; masks = w.masks; half_mask = w.half_mask }

-- or it was marked last in no slot, since each of its was taken and marked again
abbrev pub IsMask : View → View → Size → ℕ → ℕ → Type 0
IsMask v w z n nodes = ((i : ℕ) × (i < z.slots) × Masks v w z n nodes i) ⊎ (((i : ℕ) → i < z.slots → slice_index v.last i ≢ n) × (w ≡ v) × (nodes ≡ 0))

-- the word of the slot i was seen before, and a try to mark it is made where it has no mark
abbrev pub MarksSeen : View → View → ℕ → ℕ → ℕ → MarkAnswer → Type 0
MarksSeen v w i seen c Marked = Wrote v w (i + 1) seen (with_mark seen c) × (cancel seen ≡ 0) × (w ≡ record v { steps = w.steps; marked = v.marked ++ number seen ∷ []; last = slice_set v.last i (number seen) })
MarksSeen v w i seen c (Already k) = (w ≡ v) × (cancel seen ≡ k) × (k ≢ 0)
MarksSeen v w i seen c NotFound = OnlySteps v w × ((after : ℕ) × Saw v w (i + 1) after × (seen ≢ after))
