-- The ends that are kept are those of the contexts, also after a change of one of them.
use Rattle.std.proofs.Common.{◌≡◌, ℕ, ◌+◌, ◌^◌, ◌<◌, Bool, true, false, not, ◌&&◌, cond, Option, None, Some, option_map, nat_lt, nat_le, refl, sym, ap, arith, ◌∙◌}
use Rattle.std.specs.BTreeMap.{BTreeMap, get, is_at}
use Rattle.std.proofs.lemmas.Bool.{lt-leb, ltb-false}
use Rattle.task_ids.specs.TaskIdOrder.{task_id_cmp}
use Rattle.task_ids.specs.declared.task_id.TaskId.{TaskId}
use Rattle.task_events.specs.declared.context.Context.{Context}
use Rattle.task_events.specs.Contexts.{is_busy, is_over, is_expired, unexpired}
use Rattle.scroll_table.specs.Moments.{is_due}
use Rattle.scroll_table.specs.Ends.{end_after, end_of}
use Rattle.scroll_table.proofs.Places.{same_at}

-- ---- what is due has expired

due_after : (now since : ℕ) (keep : Option ℕ) → now < 2 ^ 64 → is_due now (end_after since keep) ≡ is_over now since keep
due_after now since None shown = refl
due_after now since (Some keep) shown = go (nat_lt (since + keep) (2 ^ 64)) refl
  where
    go : (b : Bool) → nat_lt (since + keep) (2 ^ 64) ≡ b → is_due now (cond b (Some (since + keep)) None) ≡ nat_le (since + keep) now
    go true e = refl
    go false e =
        let past = ltb-false (since + keep) (2 ^ 64) e in
        sym (lt-leb (since + keep) now (omega (arith, past, shown)))

pub due_end : (now : ℕ) (c : Context) → now < 2 ^ 64 → is_due now (end_of c) ≡ is_expired now c
due_end now c shown = go (is_busy c)
  where
    go : (b : Bool) → is_due now (cond b None (end_after c.last_ms c.keep_ms)) ≡ not b && is_over now c.last_ms c.keep_ms
    go true = refl
    go false = due_after now c.last_ms c.keep_ms shown

-- ---- one context changes

-- another stands at an id, or none
pub one_changed : (old new : BTreeMap TaskId Context) (id : TaskId) (o : Option Context) (was is : TaskId → Option (Option ℕ)) → ((q : TaskId) → was q ≡ option_map end_of (get task_id_cmp old q)) → ((q : TaskId) → get task_id_cmp new q ≡ cond (is_at (task_id_cmp id) q) o (get task_id_cmp old q)) → ((q : TaskId) → is q ≡ cond (is_at (task_id_cmp id) q) (option_map end_of o) (was q)) → (q : TaskId) → is q ≡ option_map end_of (get task_id_cmp new q)
one_changed old new id o was is each changed kept q =
    kept q ∙ ap (cond (is_at (task_id_cmp id) q) (option_map end_of o)) (each q) ∙ go (is_at (task_id_cmp id) q) ∙ sym (ap (option_map end_of) (changed q))
  where
    go : (b : Bool) → cond b (option_map end_of o) (option_map end_of (get task_id_cmp old q)) ≡ option_map end_of (cond b o (get task_id_cmp old q))
    go true = refl
    go false = refl

-- the end of one that is there is another
pub set_there : (old : BTreeMap TaskId Context) (id : TaskId) (c : Context) (end : Option ℕ) (was is : TaskId → Option (Option ℕ)) → get task_id_cmp old id ≡ Some c → ((q : TaskId) → was q ≡ option_map end_of (get task_id_cmp old q)) → ((q : TaskId) → is q ≡ cond (is_at (task_id_cmp id) q) (option_map (λ _. end) (was q)) (was q)) → (q : TaskId) → is q ≡ cond (is_at (task_id_cmp id) q) (Some end) (was q)
set_there old id c end was is there each set q = set q ∙ go (is_at (task_id_cmp id) q) refl
  where
    go : (b : Bool) → is_at (task_id_cmp id) q ≡ b → cond b (option_map (λ _. end) (was q)) (was q) ≡ cond b (Some end) (was q)
    go true e = ap (option_map (λ _. end)) (ap was (sym (same_at id q e)) ∙ each id ∙ ap (option_map end_of) there)
    go false e = refl

-- ---- what has expired is taken away

pub none_left : (now : ℕ) (o : Option Context) → now < 2 ^ 64 → ((end : Option ℕ) → option_map end_of o ≡ Some end → is_due now end ≡ false) → unexpired now o ≡ o
none_left now None shown none = refl
none_left now (Some c) shown none = ap (λ b. cond b None (Some c)) (sym (due_end now c shown) ∙ none (end_of c) refl)

-- ---- one more was noted, and no more is

pub end_back : (contexts : BTreeMap TaskId Context) (id : TaskId) (end : Option ℕ) (was more is : TaskId → Option (Option ℕ)) → get task_id_cmp contexts id ≡ None → ((q : TaskId) → was q ≡ option_map end_of (get task_id_cmp contexts q)) → ((q : TaskId) → more q ≡ cond (is_at (task_id_cmp id) q) (Some end) (was q)) → ((q : TaskId) → is q ≡ cond (is_at (task_id_cmp id) q) None (more q)) → (q : TaskId) → is q ≡ option_map end_of (get task_id_cmp contexts q)
end_back contexts id end was more is none each added removed q = removed q ∙ ap (cond (is_at (task_id_cmp id) q) None) (added q) ∙ go (is_at (task_id_cmp id) q) refl
  where
    go : (b : Bool) → is_at (task_id_cmp id) q ≡ b → cond b None (cond b (Some end) (was q)) ≡ option_map end_of (get task_id_cmp contexts q)
    go true e = sym (ap (λ k. option_map end_of (get task_id_cmp contexts k)) (sym (same_at id q e)) ∙ ap (option_map end_of) none)
    go false e = each q
