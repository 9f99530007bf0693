-- What is left once a point in time has expired.
use Rattle.std.proofs.Common.{◌≡◌, ℕ, ◌^◌, ◌<◌, Bool, true, false, cond, Option, None, Some, IsSomeAnd, option_map, refl, sym, ap, ◌∙◌}
use Rattle.std.specs.BTreeMap.{BTreeMap, get, is_at}
use Rattle.std.specs.FinMap as finite
use Rattle.std.specs.FinMap.{get-remove}
use Rattle.std.specs.Cmp.{eq_by_cmp_equiv}
use Rattle.task_ids.specs.TaskIdOrder.{task_id_cmp}
use Rattle.task_ids.specs.declared.task_id.TaskId.{TaskId}
use Rattle.task_ids.proofs.TaskIdKeys.{ids_total}
use Rattle.task_events.specs.declared.context.Context.{Context}
use Rattle.task_events.specs.Contexts.{is_expired, unexpired}
use Rattle.scroll_table.specs.Moments.{is_due}
use Rattle.scroll_table.specs.Ends.{end_of}
use Rattle.scroll_table.proofs.Places.{same_at}
use Rattle.scroll_table.proofs.Timed.{due_end}
use Rattle.point_in_time.specs.Pits.{CursorsOfAll, gone_by}

-- one that has not expired is there
pub there_still : (now : ℕ) (o : Option Context) (c : Context) → unexpired now o ≡ Some c → o ≡ Some c
there_still now None c e = absurd (cc)
there_still now (Some d) c e = go (is_expired now d) e
  where
    go : (b : Bool) → cond b None (Some d) ≡ Some c → Some d ≡ Some c
    go true e = absurd (cc)
    go false e = e

-- one whose moment has come has expired
pub due_gone : (now : ℕ) (o : Option Context) → now < 2 ^ 64 → IsSomeAnd (option_map end_of o) (λ end. is_due now end ≡ true) → gone_by now o ≡ true
due_gone now None shown h = absurd h
due_gone now (Some c) shown h = sym (due_end now c shown) ∙ h

-- where no moment has come none has expired
pub none_gone : (now : ℕ) (o : Option Context) → now < 2 ^ 64 → ((end : Option ℕ) → option_map end_of o ≡ Some end → is_due now end ≡ false) → gone_by now o ≡ false
none_gone now None shown none = refl
none_gone now (Some c) shown none = sym (due_end now c shown) ∙ none (end_of c) refl

-- one that has expired is taken away with its cursors
pub cursors_gone : (now : ℕ) (old new : BTreeMap TaskId Context) (id : TaskId) (was is : CursorsOfAll) → gone_by now (get task_id_cmp old id) ≡ true
    → ((q : TaskId) → get task_id_cmp new q ≡ cond (is_at (task_id_cmp id) q) None (get task_id_cmp old q)) → is ≡ finite.remove was id
    → (q : TaskId) → cond (gone_by now (get task_id_cmp new q)) None (finite.get is q) ≡ cond (gone_by now (get task_id_cmp old q)) None (finite.get was q)
cursors_gone now old new id was is gone left removed q =
    ap (λ o. cond (gone_by now o) None (finite.get is q)) (left q)
    ∙ ap (cond (gone_by now (cond (is_at (task_id_cmp id) q) None (get task_id_cmp old q))) None) (ap (λ m. finite.get m q) removed ∙ get-remove ids_total was id q)
    ∙ ap (λ b. cond (gone_by now (cond (is_at (task_id_cmp id) q) None (get task_id_cmp old q))) None (cond b None (finite.get was q))) (sym ((eq_by_cmp_equiv ids_total).symm id q))
    ∙ go (is_at (task_id_cmp id) q) refl
  where
    go : (b : Bool) → is_at (task_id_cmp id) q ≡ b → cond (gone_by now (cond b None (get task_id_cmp old q))) None (cond b None (finite.get was q)) ≡ cond (gone_by now (get task_id_cmp old q)) None (finite.get was q)
    go true e = sym (ap (λ b. cond b None (finite.get was q)) (ap (λ k. gone_by now (get task_id_cmp old k)) (sym (same_at id q e)) ∙ gone))
    go false e = refl

gone_none : (now : ℕ) (o : Option Context) → gone_by now o ≡ true → unexpired now o ≡ None
gone_none now None e = refl
gone_none now (Some c) e = ap (λ b. cond b None (Some c)) e

-- what is left is so already without one that has expired
pub left_gone : (now : ℕ) (old new : BTreeMap TaskId Context) (id : TaskId) → gone_by now (get task_id_cmp old id) ≡ true
    → ((q : TaskId) → get task_id_cmp new q ≡ cond (is_at (task_id_cmp id) q) None (get task_id_cmp old q)) → (q : TaskId) → unexpired now (get task_id_cmp new q) ≡ unexpired now (get task_id_cmp old q)
left_gone now old new id gone left q = ap (unexpired now) (left q) ∙ go (is_at (task_id_cmp id) q) refl
  where
    go : (b : Bool) → is_at (task_id_cmp id) q ≡ b → unexpired now (cond b None (get task_id_cmp old q)) ≡ unexpired now (get task_id_cmp old q)
    go true e = sym (gone_none now (get task_id_cmp old q) (ap (λ k. gone_by now (get task_id_cmp old k)) (sym (same_at id q e)) ∙ gone))
    go false e = refl
