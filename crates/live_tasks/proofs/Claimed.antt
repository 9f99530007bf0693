-- A ticket that was claimed makes a live task of its node and number.
use Rattle.std.proofs.Common.{◌≡◌, ℕ, false, Option, Some, None, refl, sym, ap, subst, ◌∙◌}
use Rattle.std.specs.Prelude.{is_some}
use Rattle.task_ids.specs.declared.task_id.TaskId.{TaskId}
use Rattle.task_ids.specs.TaskIdOrder.{same_id}
use Rattle.child_track.specs.Token.{Token, token_parent}
use Rattle.race_board.specs.Keys.{parent_key}
use Rattle.node_boards.specs.Seats.{HasTicket}
use Rattle.task_table.specs.TicketParts.{TicketParts}
use Rattle.live_tasks.specs.declared.entry.Entry.{Entry}
use Rattle.live_tasks.specs.declared.wanted.Parts.{Parts}
use Rattle.live_tasks.specs.Registers.{new_entry}
use Rattle.live_tasks.specs.Ties.{IsEntry, HasPassed}

none_of : (o : Option TaskId) → is_some o ≡ false → o ≡ None
none_of None e = refl
none_of (Some t) e = absurd (cc)

pub same_ticket : (t : TicketParts) (id : TaskId) (token : Option Token) → t.id.node ≡ id.node → t.id.number ≡ id.number → t.token ≡ token → t ≡ record { id = id; token = token }
same_ticket t id token node number same = let ids = same_id t.id id node number in λ i. record { id = ids i; token = same i }

module _ (t : TicketParts) (p : Parts) (e : Entry) (is : e ≡ new_entry t p) where
  pub claimed_entry : (node n : ℕ) → t.id.node ≡ node → t.id.number ≡ n → IsEntry node n e
  claimed_entry node n at number = subst (IsEntry node n) (sym is) (record { of_node = at; numbered = number; tracked = refl; placed = refl; on_nodes = λ i. tt })

  pub claimed_parent : (parent : Option TaskId) (token : Option Token) → t.token ≡ token → parent ≡ token_parent token → parent_key (token_parent e.running.ticket.token) ≡ parent_key parent
  claimed_parent parent token same of = ap (λ (x : Entry). parent_key (token_parent x.running.ticket.token)) is ∙ ap (λ (x : Option Token). parent_key (token_parent x)) same ∙ ap parent_key (sym of)

  pub claimed_passed : (clear : ℕ → Type 0) (n : ℕ) (parent : Option TaskId) (token : Option Token) → t.token ≡ token → parent ≡ token_parent token → (parent ≡ None → clear n) → HasPassed clear n e
  claimed_passed clear n parent token same of root = λ old. root (of ∙ ap token_parent (sym same) ∙ none_of (token_parent t.token) (sym (ap (λ (x : Entry). x.running.is_new) is) ∙ old))
