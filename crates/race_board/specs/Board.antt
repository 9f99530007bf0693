-- The rule of the words.
use Rattle.std.specs.Prelude.{◌≡◌, ◌≢◌, ℕ, zero, suc, ◌+◌, ◌*◌, ◌%◌, ◌<◌, ◌≤◌, ◌⊎◌, ◌==◌, Bool, not, count_by, List, [], ◌∷◌, length, replicate, slice_index, slice_index_or}
use mathlib.Core.Option.{some}
use lib.ListN.{get_elem?}
use Rattle.atomic_table.specs.Table.{State}
use Rattle.race_board.specs.Words.{number, parent, cancel, ban_word}
use Rattle.race_board.specs.declared.views.Size.{Size}
use Rattle.race_board.specs.declared.views.Hold.{Hold}
use Rattle.race_board.specs.declared.views.Ban.{Ban}
use Rattle.std.specs.Int.{bit_at}
use Rattle.race_board.specs.declared.views.Mask.{Mask}
use Rattle.race_board.specs.declared.views.Progress.{Progress}
use Rattle.race_board.specs.declared.views.Progress.TheVariants.{Next, Clear, Banned}
use Rattle.race_board.specs.declared.views.View.{View}

abbrev pub no_hold : Hold
no_hold = record { number = 0; parent = 0; check = Clear; cleared = 0; seek = 0 }

abbrev pub no_ban : Ban
no_ban = record { parent = 0; cancel = 0; next = 0 }

-- the ticket that a seat has at a slot
abbrev pub hold : View → ℕ → Hold
hold v i = slice_index_or v.held i no_hold

abbrev pub ban : View → ℕ → Ban
ban v j = slice_index_or v.bans j no_ban

-- the first has its ticket where it has one, and else the second's
abbrev pub pick_hold : ℕ → Hold → Hold → Hold
pick_hold zero a b = b
pick_hold (suc n) a b = a

abbrev pub merge : List Hold → List Hold → List Hold
merge [] bs = bs
merge (a ∷ rest) [] = a ∷ rest
merge (a ∷ rest) (b ∷ bs) = pick_hold a.number a b ∷ merge rest bs

-- there is a ticket
abbrev pub is_out : Hold → Bool
is_out h = not (h.number == 0)

-- the tickets that a seat still has
abbrev pub tickets_out : View → ℕ
tickets_out v = count_by is_out v.held

-- the control seat takes in the tickets of another
abbrev pub both : View → View → View
both v w = record v { held = merge v.held w.held; joined = v.joined + 1; taken = v.taken + tickets_out w }

abbrev pub spent : View
spent = record {
  size = record { slots = 0; bans = 0; seats = 0 };
  lead = 0;
  steps = [];
  drawn = 0;
  most = 0;
  told = 1;
  held = [];
  bans = [];
  about = 0;
  loaded = 0;
  marked = [];
  last = [];
  half = 0;
  half_mask = 0;
  masks = [];
  to_deal = 0;
  joined = 0;
  taken = 0;
  gone = 1;
}

abbrev pub task : List ℕ → ℕ → ℕ
task ws i = slice_index ws (i + 1)

abbrev pub newcomer : Size → ℕ → ℕ → View
newcomer z lead deal = record {
  size = z;
  lead = lead;
  steps = [];
  drawn = 0;
  most = 0;
  told = 0;
  held = replicate z.slots no_hold;
  bans = replicate z.bans no_ban;
  about = 0;
  loaded = 0;
  marked = [];
  last = replicate z.slots 0;
  half = 0;
  half_mask = 0;
  masks = [];
  to_deal = deal;
  joined = 0;
  taken = 0;
  gone = 0;
}

-- the seats that were told that no number is left
abbrev pub told_count : List View → ℕ
told_count [] = 0
told_count (v ∷ vs) = v.told + told_count vs

-- the seats that were joined
abbrev pub gone_count : List View → ℕ
gone_count [] = 0
gone_count (v ∷ vs) = v.gone + gone_count vs

-- the check has not loaded the ban place j, or is banned
abbrev pub Behind : ℕ → Progress → Type 0
Behind j (Next m) = m ≤ j
Behind j Clear = ⊥
Behind j (Banned c) = Unit {0}

abbrev pub In : ℕ → List ℕ → Type 0
In n [] = ⊥
In n (x ∷ xs) = (n ≡ x) ⊎ In n xs

-- a number that was never marked is no slot's last one, and no number is that of two slots
pub record Lasts (v : View) : Type 0 where
  pub marked : (n i : ℕ) → ¬ In n v.marked → slice_index v.last i ≢ 0 → slice_index v.last i ≢ n
  pub apart : (i j : ℕ) → slice_index v.last i ≢ 0 → slice_index v.last i ≡ slice_index v.last j → i ≡ j

-- the control seat has this mask of the task with that number
abbrev pub Has : ℕ → ℕ → List Mask → Type 0
Has n m [] = ⊥
Has n m (x ∷ xs) = ((n ≡ x.number) × (m ≡ x.nodes)) ⊎ Has n m xs

abbrev pub mask : Size → List ℕ → ℕ → ℕ
mask z ws i = slice_index ws (z.slots + z.bans + i + 1)

-- the node x is cleared, or was tracked
abbrev pub Tracked : Hold → ℕ → Type 0
Tracked h x = (bit_at h.cleared x ≡ 1) ⊎ (bit_at h.seek x ≡ 1)

module _ (z : Size) (control : View) (words : List ℕ) where
  -- the slot i, which the scan of the ban at the place j has passed, has an unmarked child that control is not about to mark
  pub record Late (i j : ℕ) : Type 0 where
    pub stands : (ban control j).parent ≢ 0
    pub known : j < z.bans
    pub passed : i < (ban control j).next
    pub child : parent (task words i) ≡ (ban control j).parent
    pub unmarked : cancel (task words i) ≡ 0
    pub unseen : control.about ≡ i + 1 → control.loaded ≢ task words i

-- a seat that was joined has nothing left
abbrev pub Left : View → Type 0
Left v = (v.gone ≡ 0) ⊎ ((v.gone ≡ 1) × (v.held ≡ []))

-- the ticket h of the seat k at the slot i
pub record HoldOk (z : Size) (control : View) (owner : ℕ → ℕ) (words : List ℕ) (k i : ℕ) (h : Hold) : Type 0 where
  pub inside : i < z.slots
  pub owned : owner i ≡ k
  pub is : number (task words i) ≡ h.number
  pub child_of : parent (task words i) ≡ h.parent
  pub race : (j : ℕ) → Late z control words i j → Behind j h.check
  pub masked : (x : ℕ) → Tracked h x → bit_at (mask z words i) x ≡ 1
  pub caught : (m x : ℕ) → Has h.number m control.masks → bit_at h.cleared x ≡ 1 → bit_at m x ≡ 1
  pub halfway : (x : ℕ) → control.half ≡ i + 1 → cancel (task words i) ≢ 0 → bit_at h.cleared x ≡ 1 → bit_at control.half_mask x ≡ 1

-- A number is at: 0 not given, 1 spent, 2 k + 2 drawn by the seat k and unused, 2 i + 3 in the slot i
pub record SeatOk (z : Size) (control : View) (owner at : ℕ → ℕ) (words : List ℕ) (k : ℕ) (v : View) : Type 0 where
  pub once : v.told < 2
  pub leads : v.lead ≢ 0 → k ≡ 0
  pub unused : v.drawn ≢ 0 → (at v.drawn ≡ 2 * k + 2) × (v.drawn < 1048576)
  pub holds : (i : ℕ) → (hold v i).number ≢ 0 → HoldOk z control owner words k i (hold v i)
  pub left : Left v

-- the ban stands in its word, and a word with no ban is 0
pub record BanOk (words : List ℕ) (x : ℕ) (b : Ban) : Type 0 where
  pub stands : slice_index words x ≡ ban_word b.parent b.cancel
  pub none_yet : b.parent ≡ 0 → b.cancel ≡ 0
  pub small : b.parent < 16777216

-- the task word of the slot i is held, and marked exactly where its number is among those that control marked
pub record WordOk (control : View) (owner at : ℕ → ℕ) (words : List ℕ) (views : List View) (i : ℕ) : Type 0 where
  pub stands : at (number (task words i)) ≡ 2 * i + 3
  pub view : View
  pub seated : get_elem? views (owner i) ≡ some view
  pub is : number (task words i) ≡ (hold view i).number
  pub named : number (task words i) ≢ 0
  pub marked : cancel (task words i) ≢ 0 → In (number (task words i)) control.marked
  pub unmarked : cancel (task words i) ≡ 0 → ¬ In (number (task words i)) control.marked
  pub latest : cancel (task words i) ≢ 0 → slice_index control.last i ≡ number (task words i)

pub record BoardAt (z : Size) (control : View) (s : State (Unit {0}) View) : Type 0 where
  pub owner : ℕ → ℕ
  pub at : ℕ → ℕ
  pub wide : length s.words ≡ 2 * z.slots + z.bans + 1
  pub few : z.seats ≤ 4
  pub leads : control.lead ≡ 1
  pub lasts : length control.last ≡ z.slots
  pub dealt : length s.views + control.to_deal ≡ z.seats + 1
  pub first : get_elem? s.views 0 ≡ some control
  pub joins : (gone_count s.views ≡ control.joined) × (control.gone ≡ 0)
  pub taken : tickets_out control ≡ control.taken
  pub counted : slice_index s.words 0 ≤ 1048575 + told_count s.views
  pub unborn : (n : ℕ) → slice_index s.words 0 < n → at n ≡ 0
  pub seats : (k : ℕ) (v : View) → get_elem? s.views k ≡ some v → SeatOk z control owner at s.words k v
  pub tasks : (i : ℕ) → i < z.slots → task s.words i ≢ 0 → WordOk control owner at s.words s.views i
  pub bans : (j : ℕ) → j < z.bans → BanOk s.words (z.slots + j + 1) (ban control j)
  pub marks : (n : ℕ) → In n control.marked → at n % 2 ≡ 1
  pub known : (n m : ℕ) → Has n m control.masks → In n control.marked
  pub nearly : control.about ≢ 0 → at (number control.loaded) % 2 ≡ 1

abbrev pub BoardOk : Size → State (Unit {0}) View → Type 0
BoardOk z s = (control : View) × BoardAt z control s
