-- The tables fit the past after a ban was put, or was taken away.
use Rattle.std.proofs.Common.{◌≡◌, ◌≢◌, ◌<◌, ◌≤◌, ◌-◌, ◌+◌, ℕ, true, false, cond, List, ◌∷◌, length, Option, Some, None, refl, sym, ap, ◌∙◌, arith}
use Rattle.std.specs.Prelude.{slice_get, slice_set, remove}
use Rattle.std.specs.BTreeMap.{is_at}
use Rattle.std.specs.BTreeSet.{BTreeSet, contains}
use Rattle.std.specs.FinMap.{FinMap, get, insert, get-insert, get-remove}
use Rattle.std.specs.FinMap as finite
use Rattle.std.specs.Ordering.{eq_by_cmp}
use Rattle.std.proofs.lemmas.Option.{slice_get_within}
use Rattle.task_ids.specs.declared.task_id.TaskId.{TaskId}
use Rattle.task_ids.specs.declared.cluster.Cluster.{Cluster}
use Rattle.task_ids.specs.declared.corpus.Corpus.{Corpus}
use Rattle.task_ids.specs.TaskIdOrder.{task_id_cmp}
use Rattle.task_ids.proofs.TaskIdKeys.{ids_total}
use Rattle.task_table.specs.Table.{Table}
use Rattle.cancel_core.specs.Cancellations.{Cancellations}
use Rattle.task_events.specs.declared.event.Event.{Event}
use Rattle.task_events.specs.declared.event.Event.TheVariants.{BanPut, BanGone}
use Rattle.task_events.specs.Same.{same_task, same_pair}
use Rattle.task_events.specs.Bans.{standing_ban}
use Rattle.task_events.specs.Lawful.{AwaitsNoMark}
use Rattle.task_events.specs.Messages.{in_flight}
use Rattle.task_laws.proofs.Same.{same_tests}
use Rattle.script_lang.specs.declared.command.Script.{Script}
use Rattle.node_parts.specs.declared.notice.Notice.TheVariants as notices
use Rattle.world_moves.specs.declared.flight.Sent.{Sent}
use Rattle.world_moves.specs.declared.flight.Sent.TheVariants as sent
use Rattle.node_parts.specs.declared.listing.Listing.{Listing}
use Rattle.node_parts.specs.declared.running.Running.{Running}
use Rattle.world_moves.specs.Cancels.{waiting_for}
use Rattle.world_moves.specs.Cancelling.{Cancelling, HasBansAt}
use Rattle.world_moves.specs.Flights.{message_of}
use Rattle.world_moves.specs.Listings.{listing_cmp}
use Rattle.command_roots.specs.Roots.{scripted}
use Rattle.world_moves.specs.Ties.{Ties, IsGood}
use Rattle.world_moves.proofs.AtPlace.{at_node, set_at}
use Rattle.world_moves.proofs.BansInFlight.{ban_taken, ban_mark, unban_taken}
use Rattle.world_moves.proofs.ByPlace.{pairs_left, all_left}
use Rattle.world_moves.proofs.FlightAfter.{all_stay}
use Rattle.world_moves.proofs.KeptTasks.{kept_same, is_at_task}
use Rattle.world_moves.proofs.NodeTablesSame.{listed_same}
use Rattle.world_moves.proofs.OpenListings.{is_at_listing}
use Rattle.world_moves.proofs.QuietListings.{quiet_listings}
use Rattle.world_moves.proofs.WaitsAfter.{waits_stay}
use Rattle.world_moves.specs.Good.{so_far}

-- ---- tasks and messages

module _ (cluster : Cluster) (corpus : Corpus) (script : Script) (h : List Event) (tasks : TaskId → Option Running) (tables : List Table) (flight : List Sent) (ties : Ties cluster corpus script h tasks tables flight) (awaits : AwaitsNoMark h) (nth : ℕ) where
  pub tied_put : (p : TaskId) (c n : ℕ) → slice_get flight nth ≡ Some (sent.Notice (notices.Ban p c n)) → Ties cluster corpus script (BanPut n p c ∷ h) tasks tables (remove flight nth)
  tied_put p c n here =
      let taken = ban_taken cluster corpus script h tasks tables flight ties nth p c n here in
      record {
        lawful = (record { sent = taken.0; number = ban_mark cluster corpus script h tasks tables flight ties nth p c n here }, ties.lawful, awaits);
        kept = kept_same cluster corpus (scripted script) (BanPut n p c) h tasks refl refl ties.kept;
        listed = λ place. listed_same cluster (BanPut n p c) h (λ m. refl) refl place _ (ties.listed place);
        sent = rw taken.1 (all_stay (BanPut n p c) h (remove flight nth) (remove (in_flight h) nth) (pairs_left (message_of h) flight (in_flight h) nth ties.sent));
        good = rw taken.1 (all_left (IsGood cluster (so_far corpus script h) h) (in_flight h) nth ties.good);
        within = ties.within;
        plain = ties.plain;
      }

  pub tied_gone : (p : TaskId) (n : ℕ) → slice_get flight nth ≡ Some (sent.Notice (notices.Unban p n)) → Ties cluster corpus script (BanGone n p ∷ h) tasks tables (remove flight nth)
  tied_gone p n here =
      let taken = unban_taken cluster corpus script h tasks tables flight ties nth p n here in
      record {
        lawful = (taken.0, ties.lawful, awaits);
        kept = kept_same cluster corpus (scripted script) (BanGone n p) h tasks refl refl ties.kept;
        listed = λ place. listed_same cluster (BanGone n p) h (λ m. refl) refl place _ (ties.listed place);
        sent = rw taken.1 (all_stay (BanGone n p) h (remove flight nth) (remove (in_flight h) nth) (pairs_left (message_of h) flight (in_flight h) nth ties.sent));
        good = rw taken.1 (all_left (IsGood cluster (so_far corpus script h) h) (in_flight h) nth ties.good);
        within = ties.within;
        plain = ties.plain;
      }

-- ---- bans and cancellations

module _ (cluster : Cluster) (h : List Event) (tables : List Table) (roots : ℕ → Option TaskId) (bans : List (FinMap task_id_cmp ℕ)) (cores : List Cancellations) (listings : BTreeSet Listing) (c : Cancelling cluster (λ t. waiting_for t h) h tables roots bans cores listings) (n : ℕ) (low : 1 ≤ n) (high : n ≤ cluster.nodes) where
  -- the table of bans of the node
  pub bans_on : (b : FinMap task_id_cmp ℕ) × (slice_get bans (n - 1) ≡ Some b)
  bans_on = at_node bans cluster.nodes n (λ place e. rw e at (c.bans_are place)) low high

  pub has_bans : n - 1 < length bans
  has_bans = slice_get_within bans (n - 1) bans_on.0 bans_on.1

  number_is : (n - 1) + 1 ≡ n
  number_is = omega arith

  pub bans_tell : (b : FinMap task_id_cmp ℕ) → slice_get bans (n - 1) ≡ Some b → (p : TaskId) → get b p ≡ standing_ban n p h
  bans_tell b e p = (rw e at (c.bans_are (n - 1))) p ∙ ap (λ m. standing_ban m p h) number_is

  elsewhere : (place : ℕ) (p q : TaskId) → place ≢ n - 1 → same_pair q (place + 1) p n ≡ false
  elsewhere place p q apart =
      let other : place + 1 ≢ n = λ e. apart (omega arith) in
      grind (arith, same_tests)

  module _ (p : TaskId) (b : FinMap task_id_cmp ℕ) (here : slice_get bans (n - 1) ≡ Some b) where
    put_there : (k : ℕ) → HasBansAt cluster (n - 1) (BanPut n p k ∷ h) (Some (insert b p k))
    put_there k q =
        let same : eq_by_cmp task_id_cmp q p ≡ same_task q p = is_at_task q p in
        let pair : same_pair q n p n ≡ same_task q p = grind (arith, same_tests) in
        get-insert ids_total b p k q ∙ ap (λ x. cond x (Some k) (get b q)) (same ∙ sym pair) ∙ ap (cond (same_pair q n p n) (Some k)) (bans_tell b here q)
        ∙ ap (λ m. standing_ban m q (BanPut n p k ∷ h)) (sym number_is)

    gone_there : HasBansAt cluster (n - 1) (BanGone n p ∷ h) (Some (finite.remove b p))
    gone_there q =
        let same : eq_by_cmp task_id_cmp q p ≡ same_task q p = is_at_task q p in
        let pair : same_pair q n p n ≡ same_task q p = grind (arith, same_tests) in
        get-remove ids_total b p q ∙ ap (λ x. cond x None (get b q)) (same ∙ sym pair) ∙ ap (cond (same_pair q n p n) None) (bans_tell b here q)
        ∙ ap (λ m. standing_ban m q (BanGone n p ∷ h)) (sym number_is)

    put_elsewhere : (k place : ℕ) → place ≢ n - 1 → (o : Option (FinMap task_id_cmp ℕ)) → HasBansAt cluster place h o → HasBansAt cluster place (BanPut n p k ∷ h) o
    put_elsewhere k place apart None has = has
    put_elsewhere k place apart (Some x) has = λ q. has q ∙ sym (ap (λ y. cond y (Some k) (standing_ban (place + 1) q h)) (elsewhere place p q apart))

    gone_elsewhere : (place : ℕ) → place ≢ n - 1 → (o : Option (FinMap task_id_cmp ℕ)) → HasBansAt cluster place h o → HasBansAt cluster place (BanGone n p ∷ h) o
    gone_elsewhere place apart None has = has
    gone_elsewhere place apart (Some x) has = λ q. has q ∙ sym (ap (λ y. cond y None (standing_ban (place + 1) q h)) (elsewhere place p q apart))

    -- a ban was put, and its listing opened
    pub noted_put : (k : ℕ) (opened : BTreeSet Listing) → ((l : Listing) → contains listing_cmp opened l ≡ cond (is_at (listing_cmp (record { node = n; parent = p })) l) true (contains listing_cmp listings l))
        → Cancelling cluster (λ t. waiting_for t (BanPut n p k ∷ h)) (BanPut n p k ∷ h) tables roots (slice_set bans (n - 1) (insert b p k)) cores opened
    noted_put k opened changed = record {
      rows_are = c.rows_are;
      roots_are = c.roots_are;
      bans_are = set_at (λ place o. HasBansAt cluster place h o) (λ place o. HasBansAt cluster place (BanPut n p k ∷ h) o) bans (n - 1) b (insert b p k) here c.bans_are (put_there k) (λ place apart. put_elsewhere k place apart _);
      cores_are = c.cores_are;
      waits_are = λ place. waits_stay place h (BanPut n p k ∷ h) _ (quiet_listings (BanPut n p k) h refl) (c.waits_are place);
      listings_are = λ l. changed l ∙ ap (λ x. cond x true (contains listing_cmp listings l)) (is_at_listing (record { node = n; parent = p }) l) ∙ ap (cond (same_pair l.parent l.node p n) true) (c.listings_are l);
    }

    pub noted_gone : Cancelling cluster (λ t. waiting_for t (BanGone n p ∷ h)) (BanGone n p ∷ h) tables roots (slice_set bans (n - 1) (finite.remove b p)) cores listings
    noted_gone = record {
      rows_are = c.rows_are;
      roots_are = c.roots_are;
      bans_are = set_at (λ place o. HasBansAt cluster place h o) (λ place o. HasBansAt cluster place (BanGone n p ∷ h) o) bans (n - 1) b (finite.remove b p) here c.bans_are gone_there (λ place apart. gone_elsewhere place apart _);
      cores_are = c.cores_are;
      waits_are = λ place. waits_stay place h (BanGone n p ∷ h) _ (quiet_listings (BanGone n p) h refl) (c.waits_are place);
      listings_are = c.listings_are;
    }
