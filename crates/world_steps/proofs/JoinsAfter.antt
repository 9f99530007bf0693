-- The tables fit the past after a cancel has joined the cancellation of a live task.
use Rattle.std.proofs.Common.{◌≡◌, ◌≤◌, ◌-◌, ◌+◌, nat_lt, ℕ, Bool, true, false, cond, not, List, [], ◌∷◌, ◌++◌, map, length, insert, Option, Some, refl, sym, ap, subst, ◌∙◌, arith, append-nil}
use Rattle.std.specs.Prelude.{◌&&◌, ◌||◌, ◌==◌, slice_get, slice_set, is_some, if◌then◌else◌}
use Rattle.std.specs.BTreeSet.{BTreeSet}
use Rattle.std.specs.FinMap.{FinMap, get}
use Rattle.std.specs.List.{position_or_len}
use Rattle.std.proofs.Math.Bool.{or-false}
use Rattle.std.proofs.lemmas.List.{map-append}
use Rattle.std.proofs.lemmas.Bool.Decides.{nat_tests}
use Rattle.task_ids.specs.declared.task_id.TaskId.{TaskId}
use Rattle.task_ids.specs.declared.cluster.Cluster.{Cluster}
use Rattle.task_ids.specs.TaskIdOrder.{task_id_cmp}
use Rattle.task_table.specs.Table.{Table}
use Rattle.cancel_core.specs.declared.act.Act.TheVariants as acts
use Rattle.cancel_core.specs.declared.act.Waiter.{Waiter}
use Rattle.cancel_core.specs.Acts.{join_acts, joined_by}
use Rattle.cancel_core.specs.Cancellation.{Cancellation, is_placed, with_waiter}
use Rattle.cancel_core.specs.Cancellations.{Cancellations, with_entry}
use Rattle.task_events.specs.declared.event.Event.{Event}
use Rattle.task_events.specs.declared.event.Event.TheVariants.{Cancel}
use Rattle.task_events.specs.Same.{same_task}
use Rattle.task_events.specs.Tasks.{is_live, has_ended}
use Rattle.task_events.specs.Bans.{mark_of}
use Rattle.task_events.specs.Cancels.{is_named}
use Rattle.task_events.specs.Lawful.{AwaitsNoMark, Lawful}
use Rattle.task_laws.proofs.Asks.{ask_facts}
use Rattle.task_laws.proofs.Commands.{acted_begun}
use Rattle.task_laws.proofs.Numbers.{both}
use Rattle.task_laws.proofs.Same.{same_tests}
use Rattle.node_parts.specs.declared.listing.Listing.{Listing}
use Rattle.world_moves.specs.Acts.{offered_in, left_after}
use Rattle.world_moves.specs.Cancels.{named_by, waiting_for, is_through}
use Rattle.world_moves.specs.Cancelling.{Cancelling, HasCoreAt, IsCancellationOf, IsEntryOf, is_under_way, waiter_of}
use Rattle.world_moves.proofs.CancelFrame.{waiters_same}
use Rattle.world_moves.proofs.CoresAfter.{marked_in, core_on, its_entry, cores_after}
use Rattle.world_moves.proofs.DueActs.{knows_placed}
use Rattle.world_moves.proofs.NamedCancels.{is_in, named_in, in_filter, named_acted}
use Rattle.world_moves.proofs.QuietListings.{quiet_listings}
use Rattle.world_moves.proofs.WaitsAfter.{waits_set}
use Rattle.world_steps.specs.Naming.{IsNaming}
use Rattle.world_steps.proofs.NamedAfter.{alike, noted_with, others_stay, waits_as_told, waits_more}

-- ---- who waits

-- a waiter of the greatest number comes last
last_place : (c : ℕ) (ws : List Waiter) → ((v : ℕ) → is_in v (map (λ w. w.cancel) ws) ≡ true → v ≤ c) → position_or_len (λ v. nat_lt c v.cancel) ws ≡ length ws
last_place c [] below = refl
last_place c (w ∷ ws) below =
    let rest = last_place c ws (λ v i. below v (grind (arith, nat_tests))) in
    let low : w.cancel ≤ c = below w.cancel (grind (arith, nat_tests)) in
    grind (arith, nat_tests)

insert_last : (ws : List Waiter) (w : Waiter) → insert ws (length ws) w ≡ ws ++ w ∷ []
insert_last [] w = refl
insert_last (v ∷ ws) w = ap (λ vs. v ∷ vs) (insert_last ws w)

comes_last : (w : Waiter) (ws : List Waiter) → ((v : ℕ) → is_in v (map (λ x. x.cancel) ws) ≡ true → v ≤ w.cancel) → with_waiter ws w ≡ ws ++ w ∷ []
comes_last w ws below = ap (λ k. insert ws k w) (last_place w.cancel ws below) ∙ insert_last ws w

numbers_of : (h : List Event) (ks : List ℕ) → map (λ w. w.cancel) (map (waiter_of h) ks) ≡ ks
numbers_of h [] = refl
numbers_of h (k ∷ ks) = ap (λ js. k ∷ js) (numbers_of h ks)

-- at one task more, and at one less where the answer is given at once
pub join_counts : (c : ℕ) (t : TaskId) (wait : Bool) (e : Cancellation) (left mid after : ℕ → ℕ) → ((k : ℕ) → mid k ≡ (if c == k then left k + 1 else left k))
    → ((k : ℕ) → after k ≡ left_after (offered_in (join_acts t e (record { cancel = c; wait = wait }))) mid k) → (k : ℕ) → after k ≡ cond (c == k) (cond (is_placed e && not wait) (left k) (left k + 1)) (left k)
join_counts c t wait e left mid after more less k = less k ∙ by_placed (is_placed e && not wait)
  where
    turned : (k == c) ≡ (c == k)
    turned = grind (arith, nat_tests)

    by_number : (b : Bool) → cond b (cond b (left k + 1) (left k) - 1) (cond b (left k + 1) (left k)) ≡ cond b (left k) (left k)
    by_number true = omega arith
    by_number false = refl

    by_placed : (b : Bool) → left_after (offered_in (cond b (acts.AnswerPlaced c t ∷ []) [])) mid k ≡ cond (c == k) (cond b (left k) (left k + 1)) (left k)
    by_placed true = (λ i. cond (turned i) (more k i - 1) (more k i)) ∙ by_number (c == k)
    by_placed false = more k

module _ (cluster : Cluster) (h : List Event) (c : ℕ) (t : TaskId) (wait : Bool) (naming : IsNaming c wait h) (l : Lawful cluster h) (awaits : AwaitsNoMark h) (live : is_live t h ≡ true) (fresh : is_named c t h ≡ false) where
  -- who joins
  abbrev pub waiter : Waiter
  waiter = record { cancel = c; wait = wait }

  itself : same_task t t ≡ true
  itself = grind (arith, same_tests)

  not_ended : has_ended t h ≡ false
  not_ended = (ask_facts cluster h l).live_or_ended t live

  -- the others have lower numbers
  below : (v : ℕ) → is_in v (waiting_for t h) ≡ true → v ≤ c
  below v i =
      let named = sym (named_in v t h) in
      let there = in_filter (λ k. not (is_through h k t)) v (named_by t h) in
      let parts = both (not (is_through h v t)) (is_in v (named_by t h)) (sym there ∙ i) in
      let begun_before = acted_begun cluster h l v (named_acted v t h (named ∙ parts.1)) in
      let last = naming.current in
      omega (arith, begun_before, last)

  -- ---- its cancellation

  module _ (e : Cancellation) (known : IsCancellationOf (waiting_for t h) t h e) where
    its_waiters : e.waiters ≡ map (waiter_of (Cancel c t wait ∷ h)) (waiting_for t h)
    its_waiters = known.3 ∙ waiters_same c t wait h (waiting_for t h) (alike cluster h c t wait naming l awaits live fresh t)

    noted_last : with_waiter e.waiters waiter ≡ map (waiter_of (Cancel c t wait ∷ h)) (waiting_for t h ++ c ∷ [])
    noted_last =
        comes_last waiter e.waiters (λ v i. below v (subst (λ ks. is_in v ks ≡ true) (ap (map (λ w. w.cancel)) known.3 ∙ numbers_of h (waiting_for t h)) i))
        ∙ ap (λ ws. ws ++ waiter ∷ []) its_waiters
        ∙ ap (λ b. map (waiter_of (Cancel c t wait ∷ h)) (waiting_for t h) ++ record { cancel = c; wait = b } ∷ []) (sym (waits_as_told cluster h c t wait naming l awaits live fresh))
        ∙ sym (map-append (waiter_of (Cancel c t wait ∷ h)) (waiting_for t h) (c ∷ []))

    -- it is through at once where the bans are placed and it does not wait for the end
    pub through_at_once : is_through (Cancel c t wait ∷ h) c t ≡ (is_placed e && not wait)
    through_at_once =
        (λ i. sym (knows_placed (waiting_for t h) t h e known) i && (not (waits_as_told cluster h c t wait naming l awaits live fresh i) || not_ended i)) ∙ ap (λ b. is_placed e && b) (or-false (not wait))

    joined_left_by : (b : Bool) → IsCancellationOf (waiting_for t h ++ cond b [] (c ∷ [])) t (Cancel c t wait ∷ h) (cond b e (record e { waiters = with_waiter e.waiters waiter }))
    joined_left_by true = (known.0, known.1, known.2, its_waiters ∙ ap (map (waiter_of (Cancel c t wait ∷ h))) (sym (append-nil (waiting_for t h))), known.4)
    joined_left_by false = (known.0, known.1, known.2, noted_last, known.4)

    joined_entry : is_some (mark_of t h) ≡ true → IsEntryOf (waiting_for t (Cancel c t wait ∷ h)) t (Cancel c t wait ∷ h) (Some (joined_by e waiter))
    joined_entry marked =
        subst (λ ks. IsEntryOf ks t (Cancel c t wait ∷ h) (Some (joined_by e waiter)))
        (sym (waits_more cluster h c t wait naming l awaits live fresh ∙ ap (λ b. waiting_for t h ++ cond b [] (c ∷ [])) through_at_once))
        (rw (marked, not_ended) refl, joined_left_by (is_placed e && not wait))

  -- ---- the cores

  module _ (marked : is_some (mark_of t h) ≡ true) where
    pub join_awaits : AwaitsNoMark (Cancel c t wait ∷ h)
    join_awaits = λ none. let is = ap is_some none in cc

    under_way : is_under_way t h ≡ true
    under_way = rw (marked, not_ended) refl

    pub join_high : t.node ≤ cluster.nodes
    join_high = marked_in cluster t h l marked

    module _ (cores : List Cancellations) (are : (place : ℕ) → HasCoreAt cluster (λ u. waiting_for u h) place h (slice_get cores place)) where
      pub join_core : (core : Cancellations) × (slice_get cores (t.node - 1) ≡ Some core)
      join_core = core_on cluster (λ u. waiting_for u h) h cores are t join_high

      pub join_entry : (core : Cancellations) → slice_get cores (t.node - 1) ≡ Some core → (e : Cancellation) × (get core.entries t ≡ Some e) × IsCancellationOf (waiting_for t h) t h e
      join_entry core on = its_entry cluster (λ u. waiting_for u h) h cores are t join_high core on under_way

    pub join_open : (e : Cancellation) → IsCancellationOf (waiting_for t h) t h e → is_some e.receipt ≡ false
    join_open e known = known.4 ∙ not_ended

    pub join_noted : (e : Cancellation) → IsCancellationOf (waiting_for t h) t h e → (tables : List Table) (roots : ℕ → Option TaskId) (bans : List (FinMap task_id_cmp ℕ)) (cores : List Cancellations) (listings : BTreeSet Listing)
        → Cancelling cluster (λ u. waiting_for u h) h tables roots bans cores listings
        → (core : Cancellations) → slice_get cores (t.node - 1) ≡ Some core
        → Cancelling cluster (λ u. waiting_for u (Cancel c t wait ∷ h)) (Cancel c t wait ∷ h) tables roots bans (slice_set cores (t.node - 1) (with_entry core t (Some (joined_by e waiter)))) listings
    join_noted e known tables roots bans cores listings cancels core on =
        noted_with cluster h c t wait naming l awaits live fresh (λ u. waiting_for u (Cancel c t wait ∷ h)) tables roots bans cores _ listings cancels
        (cores_after cluster (λ u. waiting_for u h) h cores cancels.cores_are t join_high core on (with_entry core t (Some (joined_by e waiter))) (λ u. waiting_for u (Cancel c t wait ∷ h)) (Cancel c t wait ∷ h) (Some (joined_by e waiter)) refl
        (joined_entry e known marked) (others_stay cluster h c t wait naming l awaits live fresh))
        (waits_set h (Cancel c t wait ∷ h) (quiet_listings (Cancel c t wait) h refl) cores (t.node - 1) core on cancels.waits_are (with_entry core t (Some (joined_by e waiter))) refl refl)
