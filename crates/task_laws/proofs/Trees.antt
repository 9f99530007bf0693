-- Where the bans of a task are placed its whole tree has stopped: going down, each live descendant stands under a ban
-- whose acknowledgement was due, and so has its own bans placed, or was put late.
use Rattle.std.proofs.Common.{◌≡◌, ◌≢◌, ◌⊎◌, inl, inr, ◌<◌, ℕ, zero, suc, Bool, true, false, ◌||◌, List, [], ◌∷◌, Option, Some, None, refl, ◌∙◌, arith}
use Rattle.std.specs.Prelude.{is_some}
use Rattle.std.specs.List.{list_any}
use Rattle.task_ids.specs.declared.task_id.TaskId.{TaskId}
use Rattle.task_ids.specs.declared.cluster.Cluster.{Cluster}
use Rattle.task_events.specs.declared.event.Event.{Event}
use Rattle.task_events.specs.Same.{same_task}
use Rattle.task_events.specs.Tasks.{is_live, has_ended, has_passed, parent_of, ask_of, ancestors}
use Rattle.task_events.specs.Bans.{mark_of, banned_nodes, standing_ban, ban_over, late_ban, bans_are_placed, ack_is_due}
use Rattle.task_events.specs.Lawful.{Lawful}
use Rattle.task_events.specs.Laws.{StopsPlacedTrees}
use Rattle.task_laws.proofs.Same.{same_tests}
use Rattle.task_laws.proofs.Numbers.{both, in_list}
use Rattle.task_laws.proofs.Counts.{banned, freed}
use Rattle.task_laws.proofs.Asks.{ask_facts, child_unanswered, parent_live}
use Rattle.task_laws.proofs.Stops.{times_listed}
use Rattle.task_laws.proofs.Dues.{due_stopped}
use Rattle.task_laws.proofs.Bans.{BanFacts, ban_facts, placed_acked, acked_listed, due_listed}
use Rattle.task_laws.proofs.Late.{late_facts}
use Rattle.task_laws.proofs.Escapes.{escape_facts}
use Rattle.task_laws.proofs.FirstSteps.{steps_first}
use Rattle.task_laws.proofs.Tree.{TreeFacts, tree_facts, parent_first}
use Rattle.task_laws.proofs.Reach.{reach_facts, reach_live}

-- the task's own bans are placed, or it has not passed
abbrev IsStill : TaskId → List Event → Type 0
IsStill t h = (bans_are_placed t h ≡ true) ⊎ (has_passed t h ≡ false)

pub placed_marked : (t : TaskId) (h : List Event) → bans_are_placed t h ≡ true → mark_of t h ≢ None
placed_marked t h e m = let known = both (is_some (mark_of t h)) _ e in let none = rw m at known.0 in cc

module _ (cluster : Cluster) (h : List Event) (l : Lawful cluster h) where
  -- the bans of a live task whose bans are placed stand on every node on which it has a live child, acknowledged
  banned_there : (t p : TaskId) → bans_are_placed p h ≡ true → parent_of t h ≡ Some p → is_live t h ≡ true → 0 < banned t.node p h
  banned_there t p e o i =
      let b = ban_facts cluster h l in
      let f = ask_facts cluster h l in
      let there = reach_live cluster t p h f (reach_facts cluster h l) (placed_marked p h e) o i in
      let one = rw there at (in_list t.node (banned_nodes p h) (b.once t.node p)) in
      omega arith

  -- what has not ended has sent no unban
  unsent : (p : TaskId) → has_ended p h ≡ false → (n : ℕ) → freed n p h ≡ 0
  unsent p e n = rw e

  stands_there : (t p : TaskId) → bans_are_placed p h ≡ true → parent_of t h ≡ Some p → is_live t h ≡ true → is_some (standing_ban t.node p h) ≡ true
  stands_there t p e o i =
      let b = ban_facts cluster h l in
      let f = ask_facts cluster h l in
      let some = banned_there t p e o i in
      let listed = acked_listed t.node p h b (placed_acked t.node p h e some) in
      let none = unsent p (f.live_or_ended p (parent_live t p h f o i)) t.node in
      grind (arith, b.course t.node p, b.stay t.node p, b.going t.node p, b.once t.node p)

  under_ban : (t p : TaskId) → bans_are_placed p h ≡ true → parent_of t h ≡ Some p → is_live t h ≡ true → ban_over t h ≢ None
  under_ban t p e o i n =
      let stands = stands_there t p e o i in
      let none : standing_ban t.node p h ≡ None = rw o at n in
      let no = rw none at stands in
      cc

  -- a listed child that lives has its bans placed, and another was put late
  still_child : (t p : TaskId) → bans_are_placed p h ≡ true → parent_of t h ≡ Some p → is_live t h ≡ true → IsStill t h
  still_child t p e o i = by_times (times_listed t.node p t h) refl
    where
      b : BanFacts h
      b = ban_facts cluster h l

      due : ack_is_due t.node p h ≡ true
      due = let acked = placed_acked t.node p h e (banned_there t p e o i) in grind (arith, b.acking t.node p)

      -- a ban that is placed has the mark's number
      late_still : late_ban t h ≡ mark_of p h → (c : Option ℕ) → mark_of p h ≡ c → has_passed t h ≡ false
      late_still late None m = absurd (placed_marked p h e m)
      late_still late (Some c) m = (late_facts cluster h l).not_passed t c (late ∙ m)

      by_times : (k : ℕ) → times_listed t.node p t h ≡ k → IsStill t h
      by_times zero is = inr (late_still ((escape_facts cluster h l).not_listed t p o (due_listed t.node p h due) is) (mark_of p h) refl)
      by_times (suc k) is =
          let stopped = due_stopped t.node p t h due (omega arith) in
          let lives = (ask_facts cluster h l).live_or_ended t i in
          inl (rw lives at stopped)

  -- a live child that has asked has passed
  asked_passed : (t x y : TaskId) → parent_of t h ≡ Some x → is_live t h ≡ true → parent_of x h ≡ Some y → has_passed x h ≡ true
  asked_passed t x y e i o =
      let f = ask_facts cluster h l in
      let asks = child_unanswered t x h f e i in
      let step = (steps_first cluster h l).child x y o (parent_live t x h f e i) in
      grind (arith, f.new_asks x, f.not_asked x (ask_of t h), f.first_ask x)

  -- a task below one whose bans are placed has its own placed where it has a live child
  placed_above : (t x : TaskId) → parent_of t h ≡ Some x → is_live t h ≡ true → (y : TaskId) → parent_of x h ≡ Some y → IsStill x h → bans_are_placed x h ≡ true
  placed_above t x e i y o = elim [ inl placed ↦ placed | inr still ↦ absurd (let passed = asked_passed t x y e i o in cc) ]

  stopped_below : (a : TaskId) → bans_are_placed a h ≡ true → (xs : List TaskId) (t : TaskId) → ancestors t h ≡ xs → is_live t h ≡ true → list_any (same_task a) xs ≡ true → (ban_over t h ≢ None) × IsStill t h
  stopped_below a placed [] t s i d = absurd (cc)
  stopped_below a placed (x ∷ ys) t s i d =
      let above = by_first (same_task a x) refl ys first.1 (stopped_below a placed ys x first.1 lives) d in
      (under_ban t x above first.0 i, still_child t x above first.0 i)
    where
      g : TreeFacts h
      g = tree_facts cluster h l

      first : (parent_of t h ≡ Some x) × (ancestors x h ≡ ys)
      first = parent_first t x ys h g s (parent_of t h) refl

      lives : is_live x h ≡ true
      lives = parent_live t x h (ask_facts cluster h l) first.0 i

      by_first : (b : Bool) → same_task a x ≡ b → (zs : List TaskId) → ancestors x h ≡ zs → (list_any (same_task a) zs ≡ true → (ban_over x h ≢ None) × IsStill x h) → (b || list_any (same_task a) zs) ≡ true → bans_are_placed x h ≡ true
      by_first true is zs r below e = let same : a ≡ x = grind (arith, same_tests) in rw (← same) placed
      by_first false is [] r below e = absurd (cc)
      by_first false is (z ∷ zs) r below e = placed_above t x first.0 i z (parent_first x z zs h g r (parent_of x h) refl).0 (below e).1

  pub stopped_trees : StopsPlacedTrees h
  stopped_trees a placed t d i =
      let below = stopped_below a placed (ancestors t h) t refl i d in
      (below.0, marked_or_still below.1)
    where
      marked_or_still : IsStill t h → (mark_of t h ≢ None) ⊎ (has_passed t h ≡ false)
      marked_or_still = elim [ inl own ↦ inl (placed_marked t h own) | inr still ↦ inr still ]
