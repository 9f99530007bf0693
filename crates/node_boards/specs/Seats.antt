-- What a call does to what a seat knows: to its tickets, by number and the parent's key; to its bans, by place, the parent's key and the cancel.
use Rattle.std.specs.Prelude.{◌≡◌, ◌≢◌, ℕ, ◌⊎◌, ◌↔◌, Option, None}
use Rattle.child_track.specs.Token.{token_parent}
use Rattle.task_table.specs.TicketParts.{TicketParts}
use Rattle.race_board.specs.Keys.{parent_key}

-- a data seat with no ticket and no number
abbrev pub IsFresh : (ℕ → ℕ → Type 0) → Option ℕ → Type 0
IsFresh has drawn = ((n p : ℕ) → ¬ has n p) × (drawn ≡ None)

-- the seat has this ticket
abbrev pub HasTicket : (ℕ → ℕ → Type 0) → TicketParts → Type 0
HasTicket has t = has t.id.number (parent_key (token_parent t.token))

abbrev pub SameTickets : (ℕ → ℕ → Type 0) → (ℕ → ℕ → Type 0) → Type 0
SameTickets old new = (n p : ℕ) → new n p ↔ old n p

-- one ticket more, of a number that had none
abbrev pub OneMore : (ℕ → ℕ → Type 0) → (ℕ → ℕ → Type 0) → ℕ → ℕ → Type 0
OneMore old new n p = ((q : ℕ) → ¬ old n q) × new n p × ((m q : ℕ) → new m q ↔ (old m q ⊎ ((m ≡ n) × (q ≡ p))))

-- the ticket of that number is gone
abbrev pub OneLess : (ℕ → ℕ → Type 0) → (ℕ → ℕ → Type 0) → ℕ → Type 0
OneLess old new n = ((q : ℕ) → ¬ new n q) × ((m q : ℕ) → new m q ↔ ((m ≢ n) × old m q))

-- what held of a number holds still
abbrev pub Keeps : (ℕ → Type 0) → (ℕ → Type 0) → Type 0
Keeps old new = (m : ℕ) → old m → new m

-- and so for each number but that one
abbrev pub KeepsOthers : (ℕ → Type 0) → (ℕ → Type 0) → ℕ → Type 0
KeepsOthers old new n = (m : ℕ) → m ≢ n → old m → new m

-- a control seat with no ban
abbrev pub HasNoBan : (ℕ → ℕ → ℕ → Type 0) → Type 0
HasNoBan bans = (j p c : ℕ) → ¬ bans j p c

-- the seat has a ban at the place
abbrev pub HasBanAt : (ℕ → ℕ → ℕ → Type 0) → ℕ → Type 0
HasBanAt bans j = (p c : ℕ) × bans j p c

-- the seat has a ban of the parent with that key
abbrev pub HasBanOf : (ℕ → ℕ → ℕ → Type 0) → ℕ → Type 0
HasBanOf bans p = (j c : ℕ) × bans j p c

abbrev pub SameBans : (ℕ → ℕ → ℕ → Type 0) → (ℕ → ℕ → ℕ → Type 0) → Type 0
SameBans old new = (j p c : ℕ) → new j p c ↔ old j p c

-- one ban more, at a place that had none
abbrev pub OneBanMore : (ℕ → ℕ → ℕ → Type 0) → (ℕ → ℕ → ℕ → Type 0) → ℕ → ℕ → ℕ → Type 0
OneBanMore old new j p c = ¬ HasBanAt old j × new j p c × ((k q d : ℕ) → new k q d ↔ (old k q d ⊎ ((k ≡ j) × (q ≡ p) × (d ≡ c))))

-- the ban of that parent is gone
abbrev pub OneBanLess : (ℕ → ℕ → ℕ → Type 0) → (ℕ → ℕ → ℕ → Type 0) → ℕ → Type 0
OneBanLess old new p = ¬ HasBanOf new p × ((j q c : ℕ) → new j q c ↔ ((q ≢ p) × old j q c))

-- the same numbers were marked
abbrev pub SameMarks : (ℕ → Type 0) → (ℕ → Type 0) → Type 0
SameMarks old new = (n : ℕ) → new n ↔ old n
