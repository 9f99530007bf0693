-- What is left of the contexts of an owner, one after the other.
use Rattle.std.proofs.Common.{◌≡◌, ◌<◌, ◌≤◌, ◌⊎◌, inl, inr, Bool, true, false, not, ◌&&◌, cond, Option, None, Some, refl, sym, ap, arith, ◌∙◌}
use Rattle.std.specs.BTreeMap.{BTreeMap, get, is_at}
use Rattle.std.proofs.lemmas.Bool.{cases_lt}
use Rattle.task_ids.specs.TaskIdOrder.{task_id_cmp}
use Rattle.task_ids.specs.declared.task_id.TaskId.{TaskId}
use Rattle.task_events.specs.declared.context.Context.{Context}
use Rattle.task_events.specs.Contexts.{can_clear, without_owned, is_busy}
use Rattle.scroll_table.specs.declared.owners.Owners.{Owners}
use Rattle.scroll_table.specs.Owners.{owns, is_of, rank, rank_after, AreOwnersOf}
use Rattle.scroll_table.proofs.Places.{same_at, self_at}
use Rattle.scroll_table.proofs.Ranked.{same_rank}

module _ (t : TaskId) where
  -- what is left cannot be cleared
  left_stays : (o : Option Context) → can_clear (Some t) (without_owned t o) ≡ false
  left_stays o = by_case (can_clear (Some t) o) refl
    where
      by_case : (b : Bool) → can_clear (Some t) o ≡ b → can_clear (Some t) (cond (can_clear (Some t) o) None o) ≡ false
      by_case true e = ap (λ b. can_clear (Some t) (cond b None o)) e
      by_case false e = ap (λ b. can_clear (Some t) (cond b None o)) e ∙ e

  pub all_left : (o : Option Context) → can_clear (Some t) o ≡ false → without_owned t o ≡ o
  all_left o e = ap (λ b. cond b None o) e

  pub unowned : (o : Option Context) → is_of t o ≡ false → can_clear (Some t) o ≡ false
  unowned None e = refl
  unowned (Some c) e = ap (λ b. b && not (is_busy c)) e

  -- one is cleared if it can be
  module _ (old new : BTreeMap TaskId Context) (id : TaskId) where
    pub one_cleared : (b result : Bool) → result ≡ b → result ≡ can_clear (Some t) (get task_id_cmp old id) → (result ≡ true → (q : TaskId) → get task_id_cmp new q ≡ cond (is_at (task_id_cmp id) q) None (get task_id_cmp old q)) → (result ≡ false → new ≡ old)
        → (q : TaskId) → get task_id_cmp new q ≡ cond (is_at (task_id_cmp id) q) (without_owned t (get task_id_cmp old q)) (get task_id_cmp old q)
    one_cleared true result e can gone stays q = gone e q ∙ by_case (is_at (task_id_cmp id) q) refl
      where
        by_case : (s : Bool) → is_at (task_id_cmp id) q ≡ s → cond (is_at (task_id_cmp id) q) None (get task_id_cmp old q) ≡ cond (is_at (task_id_cmp id) q) (without_owned t (get task_id_cmp old q)) (get task_id_cmp old q)
        by_case true s = ap (λ o. cond (is_at (task_id_cmp id) q) o (get task_id_cmp old q))
            (sym (ap (λ b. cond b None (get task_id_cmp old q)) (ap (λ k. can_clear (Some t) (get task_id_cmp old k)) (sym (same_at id q s)) ∙ sym can ∙ e)))
        by_case false s = ap (λ b. cond b None (get task_id_cmp old q)) s ∙ sym (ap (λ b. cond b (without_owned t (get task_id_cmp old q)) (get task_id_cmp old q)) s)
    one_cleared false result e can gone stays q = ap (λ m. get task_id_cmp m q) (stays e) ∙ by_case (is_at (task_id_cmp id) q) refl
      where
        by_case : (s : Bool) → is_at (task_id_cmp id) q ≡ s → get task_id_cmp old q ≡ cond (is_at (task_id_cmp id) q) (without_owned t (get task_id_cmp old q)) (get task_id_cmp old q)
        by_case true s =
            sym (all_left (get task_id_cmp old q) (ap (λ k. can_clear (Some t) (get task_id_cmp old k)) (sym (same_at id q s)) ∙ sym can ∙ e))
            ∙ sym (ap (λ b. cond b (without_owned t (get task_id_cmp old q)) (get task_id_cmp old q)) s)
        by_case false s = sym (ap (λ b. cond b (without_owned t (get task_id_cmp old q)) (get task_id_cmp old q)) s)

    module _ (changed : (q : TaskId) → get task_id_cmp new q ≡ cond (is_at (task_id_cmp id) q) (without_owned t (get task_id_cmp old q)) (get task_id_cmp old q)) where
      pub same_left : (q : TaskId) → without_owned t (get task_id_cmp new q) ≡ without_owned t (get task_id_cmp old q)
      same_left q = ap (without_owned t) (changed q) ∙ by_case (is_at (task_id_cmp id) q)
        where
          by_case : (s : Bool) → without_owned t (cond s (without_owned t (get task_id_cmp old q)) (get task_id_cmp old q)) ≡ without_owned t (get task_id_cmp old q)
          by_case true = all_left (without_owned t (get task_id_cmp old q)) (left_stays (get task_id_cmp old q))
          by_case false = refl

      -- up to that one none is left that can be cleared
      pub up_to_one : (a : Owners) (after : Option TaskId) → AreOwnersOf a old → ((q : TaskId) → rank q ≤ rank_after after → can_clear (Some t) (get task_id_cmp old q) ≡ false)
          → ((q : TaskId) → rank_after after < rank q → rank q < rank id → owns a t q ≡ false) → (q : TaskId) → rank q ≤ rank id → can_clear (Some t) (get task_id_cmp new q) ≡ false
      up_to_one a after are passed skipped q high = ap (can_clear (Some t)) (changed q) ∙ by_case (is_at (task_id_cmp id) q) refl
        where
          before : (rank_after after < rank q) ⊎ (rank q ≤ rank_after after) → is_at (task_id_cmp id) q ≡ false → can_clear (Some t) (get task_id_cmp old q) ≡ false
          before (inr low) s = passed q low
          before (inl later) s = unowned (get task_id_cmp old q) (sym (are t q) ∙ skipped q later (sooner (cases_lt (rank q) (rank id))))
            where
              sooner : (rank q < rank id) ⊎ (rank id ≤ rank q) → rank q < rank id
              sooner (inl e) = e
              sooner (inr e) =
                  let same = same_rank id q (omega (arith, e, high)) in
                  let here = self_at id in
                  let there = ap (is_at (task_id_cmp id)) same in
                  absurd (cc)

          by_case : (s : Bool) → is_at (task_id_cmp id) q ≡ s → can_clear (Some t) (cond s (without_owned t (get task_id_cmp old q)) (get task_id_cmp old q)) ≡ false
          by_case true s = left_stays (get task_id_cmp old q)
          by_case false s = before (cases_lt (rank_after after) (rank q)) s

  -- where no other one comes, none is left that can be cleared
  pub none_more : (a : Owners) (after : Option TaskId) (contexts : BTreeMap TaskId Context) → AreOwnersOf a contexts → ((q : TaskId) → rank q ≤ rank_after after → can_clear (Some t) (get task_id_cmp contexts q) ≡ false)
      → ((q : TaskId) → rank_after after < rank q → owns a t q ≡ false) → (q : TaskId) → can_clear (Some t) (get task_id_cmp contexts q) ≡ false
  none_more a after contexts are passed none q = by_case (cases_lt (rank_after after) (rank q))
    where
      by_case : (rank_after after < rank q) ⊎ (rank q ≤ rank_after after) → can_clear (Some t) (get task_id_cmp contexts q) ≡ false
      by_case (inl later) = unowned (get task_id_cmp contexts q) (sym (are t q) ∙ none q later)
      by_case (inr low) = passed q low
