use Rattle.std.proofs.Common.{◌≡◌, ℕ, ◌<◌, List, [], ◌∷◌, ◌++◌, Some, None, is_some, IfSome, All, sym, ap, subst, ◌∙◌}
use Rattle.std.specs.BTreeMap.{BTreeMap, is_at}
use Rattle.std.specs.FinMap as finite
use Rattle.std.specs.List.Sorted.{IsStrictlyIncreasing}
use Rattle.std.specs.Option.{option_copied_mut}
use Rattle.std.proofs.lemmas.Map.Steps.{set_value_same}
use Rattle.std.proofs.lemmas.Result.{err_from_is_err_and}
use Rattle.task_ids.proofs.TaskIdKeys.{value_at, one_put}
use Rattle.task_ids.specs.TaskIdOrder.{task_id_cmp}
use Rattle.task_ids.specs.declared.task_id.TaskId.{TaskId}
use Rattle.task_results.proofs.Waiting.{waiting_is, one_later, first_rises, rise_still}
use Rattle.task_results.proofs.waits.Waits.add.Goals as goal

pub invariant_of-self : goal.invariant_of-self
invariant_of-self c =
    let es = c.self.inside.commands.entries in
    let xs = c.in-Some.waiting.now in
    let w = c.push.new.self in
    let read : value_at es c.args.id ≡ Some xs = sym c.get_mut.ensures.value ∙ ap option_copied_mut c.in-Some.is in
    let updates = (c.get_mut.follows.holds w).3 (ap is_some read) in
    let rises = subst (λ o. IfSome o IsStrictlyIncreasing) read (c.self.invariant c.args.id) in
    rise_still es (c.get_mut.follows.lender w).entries c.args.id (Some w) updates.0 (subst IsStrictlyIncreasing (sym c.in_err-push.ensures.err) rises) c.self.invariant

pub returns-in_err-push-clause-err : goal.returns-in_err-push-clause-err
returns-in_err-push-clause-err c =
    let es = c.self.inside.commands.entries in
    let xs = c.in-Some.waiting.now in
    let w = c.push.new.self in
    let read : value_at es c.args.id ≡ Some xs = sym c.get_mut.ensures.value ∙ ap option_copied_mut c.in-Some.is in
    let same = (c.get_mut.follows.holds w).0 ∙ set_value_same (is_at (task_id_cmp c.args.id)) es w (read ∙ ap Some (sym c.in_err-push.ensures.err)) in
    let p = err_from_is_err_and c.from_residual.result c.from_residual.ensures.1 in
    rw p.1 (ap (λ (rows : List (TaskId × List ℕ)). finite.from_entries {R = task_id_cmp} rows) same ∙ c.self.view_is)

pub invariant_of-self-in-Some : goal.invariant_of-self-in-Some
invariant_of-self-in-Some c =
    let es = c.self.inside.commands.entries in
    let xs = c.in-Some.waiting.now in
    let w = c.push.new.self in
    let read : value_at es c.args.id ≡ Some xs = sym c.get_mut.ensures.value ∙ ap option_copied_mut c.in-Some.is in
    let updates = (c.get_mut.follows.holds w).3 (ap is_some read) in
    let rises = subst (λ o. IfSome o IsStrictlyIncreasing) read (c.self.invariant c.args.id) in
    let later = subst (λ (ys : List ℕ). All (λ k. k < c.args.command) ys) (waiting_is es c.args.self.now c.args.id (Some xs) c.self.view_is read) c.requires in
    rise_still es (c.get_mut.follows.lender w).entries c.args.id (Some w) updates.0 (subst IsStrictlyIncreasing (sym c.in_ok-push.ensures.ok) (one_later xs c.args.command rises later)) c.self.invariant

pub returns-in-Some-clause-ok : goal.returns-in-Some-clause-ok
returns-in-Some-clause-ok c =
    let es = c.self.inside.commands.entries in
    let xs = c.in-Some.waiting.now in
    let w = c.push.new.self in
    let read : value_at es c.args.id ≡ Some xs = sym c.get_mut.ensures.value ∙ ap option_copied_mut c.in-Some.is in
    let updates = (c.get_mut.follows.holds w).3 (ap is_some read) in
    let waiting = waiting_is es c.args.self.now c.args.id (Some xs) c.self.view_is read in
    one_put es (c.get_mut.follows.lender w).entries c.args.id w updates.0
    ∙ ap (λ m. finite.insert m c.args.id w) c.self.view_is
    ∙ ap (finite.insert c.args.self.now c.args.id) (c.in_ok-push.ensures.ok ∙ ap (λ (ys : List ℕ). ys ++ c.args.command ∷ []) (sym waiting))

pub invariant_of-self-2 : goal.invariant_of-self-2
invariant_of-self-2 c =
    let was = c.get_mut.follows.lender-at-none in
    let stays : was ≡ c.self.inside.commands = c.get_mut.follows.holds-at-none in
    let w = c.push-2.new.self in
    let first : w ≡ c.args.command ∷ [] = c.in_ok-push-2.ensures.ok ∙ ap (λ (ys : List ℕ). ys ++ c.args.command ∷ []) c.new-waiting.ensures in
    let there = subst (λ (m : BTreeMap TaskId (List ℕ)). (q : TaskId) → IfSome (value_at m.entries q) IsStrictlyIncreasing) (sym stays) c.self.invariant in
    rise_still was.entries c.insert.new.self.entries c.args.id (Some w) c.in_ok-insert.ensures.updates.0 (subst IsStrictlyIncreasing (sym first) (first_rises c.args.command)) there

pub returns-clause-ok : goal.returns-clause-ok
returns-clause-ok c =
    let was = c.get_mut.follows.lender-at-none in
    let stays : was ≡ c.self.inside.commands = c.get_mut.follows.holds-at-none in
    let w = c.push-2.new.self in
    let none : value_at c.self.inside.commands.entries c.args.id ≡ None = sym c.get_mut.ensures.value ∙ ap option_copied_mut c.in_default.is in
    let waiting = waiting_is c.self.inside.commands.entries c.args.self.now c.args.id None c.self.view_is none in
    let first : w ≡ c.args.command ∷ [] = c.in_ok-push-2.ensures.ok ∙ ap (λ (ys : List ℕ). ys ++ c.args.command ∷ []) c.new-waiting.ensures in
    one_put was.entries c.insert.new.self.entries c.args.id w c.in_ok-insert.ensures.updates.0
    ∙ ap (λ (m : BTreeMap TaskId (List ℕ)). finite.insert (finite.from_entries {R = task_id_cmp} m.entries) c.args.id w) stays
    ∙ ap (λ m. finite.insert m c.args.id w) c.self.view_is
    ∙ ap (finite.insert c.args.self.now c.args.id) (first ∙ ap (λ (ys : List ℕ). ys ++ c.args.command ∷ []) (sym waiting))
