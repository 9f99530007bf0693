-- The acts that are due for a cancellation.
use Rattle.std.specs.Prelude.{ℕ, not, ◌&&◌, if◌then◌else◌, List, [], ◌∷◌, ◌++◌, map, filter, Option, None, Some}
use Rattle.task_ids.specs.declared.task_id.TaskId.{TaskId}
use Rattle.child_track.specs.Token.{ReceiptParts}
use Rattle.cancel_core.specs.declared.act.Waiter.{Waiter}
use Rattle.cancel_core.specs.declared.act.Act.{Act}
use Rattle.cancel_core.specs.declared.act.Act.TheVariants.{SendBan, SendUnban, AnswerPlaced, AnswerDone}
use Rattle.cancel_core.specs.Cancellation.{Cancellation, opened, is_placed, with_waiter}

abbrev pub ban_acts : TaskId → ℕ → List ℕ → List Act
ban_acts task cancel nodes = map (λ node. SendBan node task cancel) nodes

abbrev pub unban_acts : TaskId → List ℕ → List Act
unban_acts task nodes = map (λ node. SendUnban node task) nodes

-- to those who do not wait for completion
abbrev pub placed_answers : TaskId → List Waiter → List Act
placed_answers task waiters = map (λ w. AnswerPlaced w.cancel task) (filter (λ w. not w.wait) waiters)

-- the answer to one waiter, once the task has ended with this receipt
abbrev pub answer_act : TaskId → ReceiptParts → Waiter → Act
answer_act task receipt w = if w.wait then AnswerDone w.cancel task receipt else AnswerPlaced w.cancel task

-- once the bans are placed: while the task has not ended, an answer to each who does not wait for completion; once it has, an unban to each banned node, and an answer to everybody, by ascending number
abbrev pub placed_acts : TaskId → Cancellation → Option ReceiptParts → List Act
placed_acts task c None = placed_answers task c.waiters
placed_acts task c (Some receipt) = unban_acts task c.banned ++ map (answer_act task receipt) c.waiters

-- nothing is due before the bans are placed
abbrev pub due_acts : TaskId → Cancellation → List Act
due_acts task c = if is_placed c then placed_acts task c c.receipt else []

-- one who joins is answered at once where the bans are placed and he does not wait for completion
abbrev pub join_acts : TaskId → Cancellation → Waiter → List Act
join_acts task c w = if is_placed c && not w.wait then AnswerPlaced w.cancel task ∷ [] else []

-- and is else noted
abbrev pub joined_by : Cancellation → Waiter → Cancellation
joined_by c w = if is_placed c && not w.wait then c else record c { waiters = with_waiter c.waiters w }

-- what the first waiter, if there is one, gets where there is no ban to place
abbrev pub first_acts : TaskId → ℕ → List ℕ → Option Waiter → List Act
first_acts task cancel nodes None = []
first_acts task cancel nodes (Some w) = join_acts task (opened cancel nodes) w

abbrev pub begun : ℕ → List ℕ → Option Waiter → Cancellation
begun cancel nodes None = opened cancel nodes
begun cancel nodes (Some w) = joined_by (opened cancel nodes) w
