-- The children that a listing finds in the rows of its node's table, and what the core of the node knows of them.
use Rattle.std.proofs.Common.{◌≡◌, ◌≢◌, ◌⊎◌, ◌+◌, ℕ, Bool, true, false, cond, not, List, [], ◌∷◌, map, Option, Some, None, refl, sym, ap, subst, ◌∙◌, inl, inr, arith}
use Rattle.std.specs.Prelude.{◌==◌, ◌&&◌, ◌||◌, All, is_some}
use Rattle.std.specs.FinMap.{get}
use Rattle.std.proofs.lemmas.Bool.Decides.{nat_tests}
use Rattle.std.proofs.lemmas.List.Elements.{All-head, All-tail}
use Rattle.task_ids.specs.declared.task_id.TaskId.{TaskId}
use Rattle.task_ids.specs.declared.task_info.TaskInfo.{TaskInfo}
use Rattle.task_ids.specs.declared.cluster.Cluster.{Cluster}
use Rattle.task_table.specs.Table.{Table}
use Rattle.tasks_api.specs.Filters.{is_task, is_child_of}
use Rattle.cancel_core.specs.Cancellation.{Cancellation}
use Rattle.cancel_core.specs.Cancellations.{Cancellations}
use Rattle.cancel_core.specs.Listings.{is_awaited as is_open_entry}
use Rattle.task_events.specs.declared.event.Event.{Event}
use Rattle.task_events.specs.Same.{same_task}
use Rattle.task_events.specs.Tasks.{is_live, has_ended, parent_of}
use Rattle.task_events.specs.Bans.{mark_of, bans_are_placed, is_stopped}
use Rattle.task_events.specs.Allowed.{HasAllMarked}
use Rattle.task_events.specs.Lawful.{Lawful}
use Rattle.task_laws.proofs.Asks.{ask_facts}
use Rattle.task_laws.proofs.Counts.{is_for}
use Rattle.task_laws.proofs.Numbers.{number}
use Rattle.task_laws.proofs.Same.{same_task_tells, same_tests}
use Rattle.task_laws.proofs.Stops.{is_put_for, put_over}
use Rattle.world_moves.specs.Cancelling.{IsRowOf, IsEntryOf}
use Rattle.world_moves.specs.Listings.{children_among}
use Rattle.world_moves.specs.Ties.{IsTableOf}
use Rattle.world_moves.proofs.DueActs.{knows_stopped}
use Rattle.world_moves.proofs.LiveRows.{rows_of}

-- the two tests on ids are one
one_test : (p q : TaskId) → is_task q p ≡ same_task p q
unfolding same_task
one_test p q = grind (arith, nat_tests)

-- how many of the rows are of a child
among_rows : (p u : TaskId) (h : List Event) (rows : List TaskInfo) → All (IsRowOf h) rows → number (same_task u) (children_among p rows) ≡ cond (is_child_of p (parent_of u h)) (number (same_task u) (map (λ row. row.id) rows)) 0
among_rows p u h [] are = none (is_child_of p (parent_of u h))
  where
    none : (b : Bool) → 0 ≡ cond {A = ℕ} b 0 0
    none true = refl
    none false = refl
among_rows p u h (row ∷ rows) are = by_test (is_child_of p row.parent) refl (same_task_tells u row.id) (among_rows p u h rows (All-tail (IsRowOf h) row rows are))
  where
    told : row.parent ≡ parent_of row.id h
    told = (All-head (IsRowOf h) row rows are).0

    by_test : (b : Bool) → is_child_of p row.parent ≡ b → ((same_task u row.id ≡ true) × (u ≡ row.id)) ⊎ ((same_task u row.id ≡ false) × (u ≢ row.id))
        → number (same_task u) (children_among p rows) ≡ cond (is_child_of p (parent_of u h)) (number (same_task u) (map (λ row. row.id) rows)) 0
        → number (same_task u) (children_among p (row ∷ rows)) ≡ cond (is_child_of p (parent_of u h)) (number (same_task u) (map (λ row. row.id) (row ∷ rows))) 0
    by_test b e (inl (is_one, same)) rest =
        let child : is_child_of p (parent_of u h) ≡ b = ap (λ x. is_child_of p (parent_of x h)) same ∙ ap (is_child_of p) (sym told) ∙ e in
        of_child b e child (rw child at rest)
      where
        of_child : (b : Bool) → is_child_of p row.parent ≡ b → is_child_of p (parent_of u h) ≡ b → number (same_task u) (children_among p rows) ≡ cond b (number (same_task u) (map (λ row. row.id) rows)) 0
            → number (same_task u) (children_among p (row ∷ rows)) ≡ cond (is_child_of p (parent_of u h)) (number (same_task u) (map (λ row. row.id) (row ∷ rows))) 0
        of_child true e child rest = rw (e, child) (ap (λ k. cond (same_task u row.id) 1 0 + k) rest)
        of_child false e child rest = rw (e, child) rest
    by_test true e (inr (differs, apart)) rest = rw (e, differs) (none_more (is_child_of p (parent_of u h)) rest)
      where
        none_more : (b : Bool) → number (same_task u) (children_among p rows) ≡ cond b (number (same_task u) (map (λ row. row.id) rows)) 0 → 0 + number (same_task u) (children_among p rows) ≡ cond b (0 + number (same_task u) (map (λ row. row.id) rows)) 0
        none_more true all = ap (λ k. 0 + k) all
        none_more false all = omega (arith, all)
    by_test false e (inr (differs, apart)) rest = rw (e, differs) (none_more (is_child_of p (parent_of u h)) rest)
      where
        none_more : (b : Bool) → number (same_task u) (children_among p rows) ≡ cond b (number (same_task u) (map (λ row. row.id) rows)) 0 → number (same_task u) (children_among p rows) ≡ cond b (0 + number (same_task u) (map (λ row. row.id) rows)) 0
        none_more true all = omega (arith, all)
        none_more false all = all

module _ (cluster : Cluster) (n : ℕ) (p : TaskId) (h : List Event) (lawful : Lawful cluster h) where
  -- they are those that were put there and are live
  pub children_are : (table : Table) → IsTableOf cluster n h table → All (IsRowOf h) table.live → (u : TaskId) → number (same_task u) (children_among p table.live) ≡ cond (is_put_for n p u h && is_live u h) 1 0
  children_are table i are u = among_rows p u h table.live are ∙ ap (λ k. cond (is_child_of p (parent_of u h)) k 0) (rows_of u cluster n h table lawful i) ∙ by_parent (parent_of u h)
    where
      by_parent : (o : Option TaskId) → cond {A = ℕ} (is_child_of p o) (cond (n == u.node) (cond (is_live u h) 1 0) 0) 0 ≡ cond (is_for p n o u.node && is_live u h) 1 0
      by_parent None = refl
      by_parent (Some q) = ap (λ b. cond b (cond (n == u.node) (cond (is_live u h) 1 0) 0) 0) (one_test p q) ∙ grind (arith, same_tests)

  -- a child that has not stopped is live
  pub stays_live : (u : TaskId) → is_put_for n p u h ≡ true → is_stopped u h ≡ false → is_live u h ≡ true
  stays_live u put open_still = by_live (is_live u h) refl
    where
      by_live : (b : Bool) → is_live u h ≡ b → is_live u h ≡ true
      by_live true e = e
      by_live false e = absurd (let ended = (ask_facts cluster h lawful).put_lives u p (put_over n p u h put).0 e in grind (arith, ended, open_still))

  -- where each live child there is marked the core knows which of them have stopped
  pub entry_tells : HasAllMarked n p h → (u : TaskId) (waiting : List ℕ) (o : Option Cancellation) → is_put_for n p u h ≡ true → IsEntryOf waiting u h o → is_open_entry o ≡ not (is_stopped u h)
  entry_tells marked u waiting None put entry = by_stop (is_stopped u h) refl
    where
      by_stop : (b : Bool) → is_stopped u h ≡ b → false ≡ not (is_stopped u h)
      by_stop true e = ap not (sym e)
      by_stop false e =
          let child = put_over n p u h put in
          let mark = marked u child.0 child.1 (stays_live u put e) in
          absurd (by_mark (mark_of u h) refl mark)
        where
          both_stop : (a b : Bool) → not (a && b) ≡ false → (a || b) ≡ false → ⊥
          both_stop true b way e = cc
          both_stop false b way e = cc

          by_mark : (m : Option ℕ) → mark_of u h ≡ m → mark_of u h ≢ None → ⊥
          by_mark None is mark = mark is
          by_mark (Some c) is mark = let way = ap (λ b. b && not (has_ended u h && bans_are_placed u h)) (sym (ap is_some is)) ∙ entry.0 in both_stop (has_ended u h) (bans_are_placed u h) way e
  entry_tells marked u waiting (Some c) put entry = ap not (knows_stopped waiting u h c entry.1)
