-- How a task leaves the listing that waits for it.
use Rattle.std.proofs.Common.{◌≡◌, ℕ, ◌<◌, ◌≤◌, nat_lt, [], ◌∷◌, Option, Some, None, Bool, true, false, cond, unwrap_or, arith, sym, ap, ◌∙◌}
use Rattle.std.proofs.lemmas.Bool.Decides.{nat_tests}
use Rattle.std.specs.FinMap.{FinMap, insert, remove}
use Rattle.task_ids.specs.declared.task_id.TaskId.{TaskId}
use Rattle.task_ids.specs.TaskIdOrder.{task_id_cmp}
use Rattle.task_ids.proofs.TaskIdKeys.{value_at, get_id}
use Rattle.cancel_core.specs.declared.act.Act.TheVariants.{SendAck}
use Rattle.cancel_core.specs.declared.listings.Listings.{Listings}
use Rattle.cancel_core.specs.Cancellation.{Cancellation}
use Rattle.cancel_core.specs.Cancellations.{Cancellations}
use Rattle.cancel_core.specs.Fields.{core_with}
use Rattle.cancel_core.specs.Listings.{with_number, awaited_by, without_wait, ack_acts, left_by, leaving_acts}

-- what a number that is not none is
pub number_there : (o : Option ℕ) (n : ℕ) → n ≡ unwrap_or o 0 → 0 < n → o ≡ Some n
number_there None n e some = absurd (omega arith)
number_there (Some k) n e some = ap Some (sym e)

pub some_left : (numbers : FinMap task_id_cmp ℕ) (p : TaskId) (n : ℕ) → 0 < n → with_number numbers p n ≡ insert numbers p n
some_left numbers p n some = let more : nat_lt 0 n ≡ true = grind (arith, nat_tests) in ap (λ b. cond b (insert numbers p n) (remove numbers p)) more

pub none_left : (numbers : FinMap task_id_cmp ℕ) (p : TaskId) (n : ℕ) → n ≡ 0 → with_number numbers p n ≡ remove numbers p
none_left numbers p n none = ap (with_number numbers p) none

-- the acknowledgement is due with the last child
pub ack_of_last : (core : Cancellations) (p : TaskId) → awaited_by core p ≤ 1 → ack_acts core (Some p) ≡ SendAck p.node p ∷ []
ack_of_last core p last = let none : nat_lt 1 (awaited_by core p) ≡ false = grind (arith, nat_tests) in ap (λ b. cond b [] (SendAck p.node p ∷ [])) none

pub no_ack_before : (core : Cancellations) (p : TaskId) → 1 < awaited_by core p → ack_acts core (Some p) ≡ []
no_ack_before core p more = let others : nat_lt 1 (awaited_by core p) ≡ true = grind (arith, nat_tests) in ap (λ b. cond b [] (SendAck p.node p ∷ [])) others

-- where a task has stopped, by what waits for it
module _ (node : ℕ) (entries : FinMap task_id_cmp Cancellation) (listings : Listings) (task : TaskId) (stopped : Bool) (is : stopped ≡ true) (o : Option TaskId) (at : value_at listings.waits.entries task ≡ o) where
  pub leaving_at : leaving_acts (core_with node entries listings) task stopped ≡ ack_acts (core_with node entries listings) o
  leaving_at = λ i. cond (is i) (ack_acts (core_with node entries listings) ((get_id listings.waits.entries task ∙ at) i)) []

  pub left_at : left_by (core_with node entries listings) task stopped ≡ without_wait (core_with node entries listings) task o
  left_at = λ i. cond (is i) (without_wait (core_with node entries listings) task ((get_id listings.waits.entries task ∙ at) i)) (core_with node entries listings)
