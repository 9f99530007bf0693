-- What a core knows of the listings that wait, once one task, at most, has stopped.
use Rattle.std.proofs.Common.{◌≡◌, ◌≢◌, ◌⊎◌, ◌+◌, ◌-◌, ◌≤◌, ℕ, Bool, true, false, cond, List, [], ◌∷◌, map, Option, Some, None, refl, sym, ap, subst, ◌∙◌, inl, inr, arith}
use Rattle.std.specs.Prelude.{nat_lt, slice_get, slice_set, unwrap_or}
use Rattle.std.specs.FinMap.{FinMap, get, insert, remove, get-insert, get-remove}
use Rattle.std.proofs.lemmas.Bool.Decides.{nat_tests}
use Rattle.task_ids.specs.declared.task_id.TaskId.{TaskId}
use Rattle.task_ids.specs.TaskIdOrder.{task_id_cmp}
use Rattle.task_ids.proofs.TaskIdKeys.{ids_total}
use Rattle.cancel_core.specs.declared.act.Act.{Act}
use Rattle.cancel_core.specs.declared.act.Act.TheVariants.{SendAck}
use Rattle.cancel_core.specs.Cancellations.{Cancellations}
use Rattle.cancel_core.specs.Listings.{awaited_by, with_number, without_wait, left_by, ack_acts, leaving_acts}
use Rattle.task_events.specs.declared.event.Event.{Event}
use Rattle.task_events.specs.Same.{same_task, same_pair}
use Rattle.task_events.specs.Tasks.{parent_of}
use Rattle.task_events.specs.Bans.{is_stopped}
use Rattle.task_events.specs.Messages.{Message, ack_over}
use Rattle.task_events.specs.Messages.Message.{Ack}
use Rattle.task_laws.proofs.Same.{same_task_tells, same_tests}
use Rattle.task_laws.proofs.Stops.{StopFacts}
use Rattle.world_moves.specs.Acts.{messages_in}
use Rattle.world_moves.specs.Cancelling.{KnowsListings, HasListingsAt, if_any}
use Rattle.world_moves.specs.Flights.{message_of}
use Rattle.world_moves.specs.Listings.{unstopped, listing_over}
use Rattle.world_moves.proofs.AtPlace.{set_at}
use Rattle.world_moves.proofs.KeptTasks.{is_at_task}
use Rattle.world_moves.proofs.OneStops.{StopsAtMost, ListingsStay, ListingLeft, fewer, not_awaited, listings_stay, no_ack, listing_left, its_ack, others_over, other_node}

-- ---- numbers of children

-- what is read of a number, and none for 0
pub any_or : (n : ℕ) → unwrap_or (if_any n) 0 ≡ n
any_or n = by_test (nat_lt 0 n) refl
  where
    by_test : (b : Bool) → nat_lt 0 n ≡ b → unwrap_or (cond b (Some n) None) 0 ≡ n
    by_test true e = refl
    by_test false e = grind (arith, nat_tests)

-- what a core has of a parent once the number at one is another
pub number_at : (listings : FinMap task_id_cmp ℕ) (p : TaskId) (n : ℕ) (q : TaskId) → get (with_number listings p n) q ≡ cond (same_task q p) (if_any n) (get listings q)
number_at listings p n q = by_test (nat_lt 0 n)
  where
    by_test : (b : Bool) → get (cond b (insert listings p n) (remove listings p)) q ≡ cond (same_task q p) (cond b (Some n) None) (get listings q)
    by_test true = get-insert ids_total listings p n q ∙ ap (λ b. cond b (Some n) (get listings q)) (is_at_task q p)
    by_test false = get-remove ids_total listings p q ∙ ap (λ b. cond b None (get listings q)) (is_at_task q p)

-- ---- a core

-- it knows as much where each listing waits for whom it did before
pub still_known : (node : ℕ) (h past : List Event) (core : Cancellations) → ListingsStay h past → KnowsListings node h core → KnowsListings node past core
still_known node h past core stay known = record { waits = λ u on. known.waits u on ∙ sym (stay.over u); numbers = λ p. known.numbers p ∙ ap if_any (sym (stay.numbers node p)) }

pub waits_stay : (place : ℕ) (h past : List Event) (o : Option Cancellations) → ListingsStay h past → HasListingsAt place h o → HasListingsAt place past o
waits_stay place h past None stay known = tt
waits_stay place h past (Some core) stay known = still_known (place + 1) h past core stay known

-- and where it is changed otherwise
as_known : (node : ℕ) (h : List Event) (core after : Cancellations) → after.waits ≡ core.waits → after.listings ≡ core.listings → KnowsListings node h core → KnowsListings node h after
as_known node h core after waits listings known = record { waits = λ u on. ap (λ w. get w u) waits ∙ known.waits u on; numbers = λ p. ap (λ l. get l p) listings ∙ known.numbers p }

pub place_is : (n : ℕ) → 1 ≤ n → n ≡ (n - 1) + 1
place_is n low = omega (arith, low)

-- what that of a node knows
pub core_knows : (n : ℕ) → 1 ≤ n → (h : List Event) (cores : List Cancellations) (core : Cancellations) → slice_get cores (n - 1) ≡ Some core → ((place : ℕ) → HasListingsAt place h (slice_get cores place)) → KnowsListings n h core
core_knows n low h cores core here are = subst (λ m. KnowsListings m h core) (sym (place_is n low)) (subst (HasListingsAt (n - 1) h) here (are (n - 1)))

-- where one core is changed otherwise, and each listing waits for whom it did before
pub waits_set : (h past : List Event) → ListingsStay h past → (cores : List Cancellations) (place : ℕ) (core : Cancellations) → slice_get cores place ≡ Some core → ((place : ℕ) → HasListingsAt place h (slice_get cores place))
    → (after : Cancellations) → after.waits ≡ core.waits → after.listings ≡ core.listings → (other : ℕ) → HasListingsAt other past (slice_get (slice_set cores place after) other)
waits_set h past stay cores place core here are after waits listings =
    set_at (λ k. HasListingsAt k h) (λ k. HasListingsAt k past) cores place core after here are
    (as_known (place + 1) past core after waits listings (still_known (place + 1) h past core stay (subst (HasListingsAt place h) here (are place)))) (λ k apart known. waits_stay k h past (slice_get cores k) stay known)

module _ (t : TaskId) (h past : List Event) (facts : StopFacts h) (at_most : StopsAtMost t h past) where
  module _ (core : Cancellations) (known : KnowsListings t.node h core) where
    -- a task that has not stopped has left no listing
    none_left : is_stopped t past ≡ false → (n : ℕ) (p : TaskId) → fewer t h past facts at_most n p ≡ 0
    none_left e n p = rw e refl

    over_is : (o : Option TaskId) → get core.waits t ≡ o → listing_over t h ≡ o
    over_is o e = sym (known.waits t refl) ∙ e

    number_known : (p : TaskId) → awaited_by core p ≡ unstopped t.node p h
    number_known p = ap (λ o. unwrap_or o 0) (known.numbers p) ∙ any_or (unstopped t.node p h)

    left_known : (stopped : Bool) → is_stopped t past ≡ stopped → (o : Option TaskId) → get core.waits t ≡ o → KnowsListings t.node past (cond stopped (without_wait core t o) core)
    left_known false e o w = still_known t.node h past core (listings_stay t h past facts at_most (none_left e)) known
    left_known true e None w = still_known t.node h past core (listings_stay t h past facts at_most (not_awaited t h past facts at_most (over_is None w))) known
    left_known true e (Some p) w = record { waits = λ u on. of_task u on (same_task_tells u t); numbers = λ q. of_parent q (same_task_tells q p) }
      where
        left : ListingLeft t p h past
        left = listing_left t h past facts at_most p (over_is (Some p) w) e

        of_task : (u : TaskId) → u.node ≡ t.node → ((same_task u t ≡ true) × (u ≡ t)) ⊎ ((same_task u t ≡ false) × (u ≢ t)) → get (remove core.waits t) u ≡ listing_over u past
        of_task u on (inl (is_one, same)) = get-remove ids_total core.waits t u ∙ ap (λ b. cond b None (get core.waits u)) (is_at_task u t ∙ is_one) ∙ sym left.own ∙ ap (λ x. listing_over x past) (sym same)
        of_task u on (inr (differs, apart)) = get-remove ids_total core.waits t u ∙ ap (λ b. cond b None (get core.waits u)) (is_at_task u t ∙ differs) ∙ known.waits u on ∙ sym (left.over u apart)

        of_parent : (q : TaskId) → ((same_task q p ≡ true) × (q ≡ p)) ⊎ ((same_task q p ≡ false) × (q ≢ p)) → get (with_number core.listings p (awaited_by core p - 1)) q ≡ if_any (unstopped t.node q past)
        of_parent q (inl (is_one, same)) = number_at core.listings p (awaited_by core p - 1) q ∙ ap (λ b. cond b (if_any (awaited_by core p - 1)) (get core.listings q)) is_one
            ∙ ap (λ n. if_any (n - 1)) (number_known p) ∙ ap if_any (sym left.number) ∙ ap (λ x. if_any (unstopped t.node x past)) (sym same)
        of_parent q (inr (differs, apart)) = number_at core.listings p (awaited_by core p - 1) q ∙ ap (λ b. cond b (if_any (awaited_by core p - 1)) (get core.listings q)) differs
            ∙ known.numbers q ∙ ap if_any (sym (left.numbers t.node q (grind (arith, same_tests, differs))))

    -- the task leaves the listing that waits for it, if it has stopped
    pub one_known : KnowsListings t.node past (left_by core t (is_stopped t past))
    one_known = left_known (is_stopped t past) refl (get core.waits t) refl

    -- and the acknowledgement that falls due with it is sent
    pub acks_due : (x : List Event) → map (message_of x) (messages_in t.node (leaving_acts core t (is_stopped t past))) ≡ map Some (ack_over (parent_of t h) t.node h past)
    acks_due x = by_wait (is_stopped t past) refl (get core.waits t) refl
      where
        by_wait : (stopped : Bool) → is_stopped t past ≡ stopped → (o : Option TaskId) → get core.waits t ≡ o → map (message_of x) (messages_in t.node (cond stopped (ack_acts core o) [])) ≡ map Some (ack_over (parent_of t h) t.node h past)
        by_wait false e o w = sym (ap (map Some) (no_ack t h past facts at_most (none_left e) (parent_of t h) t.node))
        by_wait true e None w = sym (ap (map Some) (no_ack t h past facts at_most (not_awaited t h past facts at_most (over_is None w)) (parent_of t h) t.node))
        by_wait true e (Some p) w = ap (λ n. map (message_of x) (messages_in t.node (cond (nat_lt 1 n) [] (SendAck p.node p ∷ [])))) (number_known p) ∙ by_number (nat_lt 1 (unstopped t.node p h)) ∙ sym (ap (map Some) (its_ack t h past facts at_most p (over_is (Some p) w) e))
          where
            by_number : (b : Bool) → map (message_of x) (messages_in t.node (cond b [] (SendAck p.node p ∷ []))) ≡ map Some (cond b [] (Ack p t.node ∷ []))
            by_number true = refl
            by_number false = refl

  -- ---- all cores

  elsewhere : (place : ℕ) → place ≢ t.node - 1 → (o : Option Cancellations) → HasListingsAt place h o → HasListingsAt place past o
  elsewhere place apart None known = tt
  elsewhere place apart (Some core) known = record {
    waits = λ u on. known.waits u on ∙ sym (others_over t h past facts at_most u (λ same. apart (let node = ap (λ (x : TaskId). x.node) same in omega (arith, node, on))));
    numbers = λ p. known.numbers p ∙ ap if_any (sym (other_node t h past facts at_most (place + 1) p (λ e. apart (omega arith))));
  }

  -- where the core of the task's node has let it go, and is else as it was but for its entries
  pub waits_after : (cores : List Cancellations) (core : Cancellations) → slice_get cores (t.node - 1) ≡ Some core → ((place : ℕ) → HasListingsAt place h (slice_get cores place))
      → (after : Cancellations) → after.waits ≡ core.waits → after.listings ≡ core.listings → (stopped : Bool) → stopped ≡ is_stopped t past
      → (place : ℕ) → HasListingsAt place past (slice_get (slice_set cores (t.node - 1) (left_by after t stopped)) place)
  waits_after cores core here are after waits listings stopped is =
      let known = as_known t.node h core after waits listings (core_knows t.node t.node_in_range.0 h cores core here are) in
      set_at (λ place. HasListingsAt place h) (λ place. HasListingsAt place past) cores (t.node - 1) core (left_by after t stopped) here are
      (subst (λ n. KnowsListings n past (left_by after t stopped)) (place_is t.node t.node_in_range.0) (subst (λ b. KnowsListings t.node past (left_by after t b)) (sym is) (one_known after known)))
      (λ place apart knows. elsewhere place apart (slice_get cores place) knows)
