-- What contracts see of the cancellation of one task.
use Rattle.std.specs.Prelude.{◌≡◌, ℕ, Bool, true, false, not, ◌&&◌, ◌==◌, nat_lt, if◌then◌else◌, List, [], ◌∷◌, filter, Option, None, Some, is_some, insert}
use Rattle.std.specs.List.{position_or_len}
use Rattle.child_track.specs.Token.{ReceiptParts}
use Rattle.cancel_core.specs.declared.act.Waiter.{Waiter}

-- its number; the nodes to which its bans went, and those of them that have not acknowledged them; who is still to be answered; and the task's receipt, once it has ended. Nodes and waiters ascend
pub record Cancellation : Type 0 where
  pub cancel : ℕ
  pub banned : List ℕ
  pub awaited : List ℕ
  pub waiters : List Waiter
  pub receipt : Option ReceiptParts

-- bans go to these nodes, and nobody waits yet
abbrev pub opened : ℕ → List ℕ → Cancellation
opened cancel nodes = record { cancel = cancel; banned = nodes; awaited = nodes; waiters = []; receipt = None }

abbrev pub is_nil : List ℕ → Bool
is_nil [] = true
is_nil (n ∷ ns) = false

-- the bans are placed once no node is awaited
abbrev pub is_placed : Cancellation → Bool
is_placed c = is_nil c.awaited

-- the bans are placed and the task has ended
abbrev pub is_done : Cancellation → Bool
is_done c = is_placed c && is_some c.receipt

-- a waiter stands before the first of a greater number
abbrev pub with_waiter : List Waiter → Waiter → List Waiter
with_waiter ws w = insert ws (position_or_len (λ v. nat_lt w.cancel v.cancel) ws) w

-- once the bans are placed, those who are still to be answered wait for completion
abbrev pub WaitsWherePlaced : Cancellation → Type 0
WaitsWherePlaced c = is_placed c ≡ true → filter (λ w. not w.wait) c.waiters ≡ []

abbrev pub with_ack : Cancellation → ℕ → Cancellation
with_ack c node = record c { awaited = filter (λ n. not (n == node)) c.awaited }

abbrev pub with_receipt : Cancellation → ReceiptParts → Cancellation
with_receipt c receipt = record c { receipt = Some receipt }

-- once the bans are placed, only those who wait for completion are still to be answered
abbrev pub still_waiting : Cancellation → Cancellation
still_waiting c = if is_placed c then record c { waiters = filter (λ w. w.wait) c.waiters } else c

-- what remains of it, which is nothing once it is done
abbrev pub rest_of : Cancellation → Option Cancellation
rest_of c = if is_done c then None else Some (still_waiting c)
