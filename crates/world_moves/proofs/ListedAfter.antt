-- The tables after the end of a listing.
use Rattle.std.proofs.Common.{◌≡◌, ◌≢◌, ◌≤◌, ◌+◌, ◌-◌, ℕ, true, false, cond, not, List, [], ◌∷◌, ◌++◌, map, Option, Some, None, refl, sym, ap, subst, ◌∙◌, arith}
use Rattle.std.specs.Prelude.{slice_get, slice_set, count_by, is_some}
use Rattle.std.specs.BTreeMap.{is_at}
use Rattle.std.specs.BTreeSet.{BTreeSet, contains}
use Rattle.std.specs.FinMap.{FinMap, get}
use Rattle.std.proofs.lemmas.List.{map-append}
use Rattle.task_ids.specs.declared.task_id.TaskId.{TaskId}
use Rattle.task_ids.specs.declared.cluster.Cluster.{Cluster}
use Rattle.task_ids.specs.declared.corpus.Corpus.{Corpus}
use Rattle.task_ids.specs.TaskIdOrder.{task_id_cmp}
use Rattle.task_table.specs.Table.{Table}
use Rattle.cancel_core.specs.Cancellations.{Cancellations}
use Rattle.cancel_core.specs.Listings.{has_listing, with_listing, listing_act}
use Rattle.script_lang.specs.declared.command.Script.{Script}
use Rattle.task_events.specs.declared.event.Event.{Event}
use Rattle.task_events.specs.declared.event.Event.TheVariants.{Listed}
use Rattle.task_events.specs.Same.{same_pair}
use Rattle.task_events.specs.Bans.{listing_is_open, is_listed, is_stopped}
use Rattle.task_events.specs.Allowed.{HasAllMarked}
use Rattle.task_events.specs.Messages.{in_flight, ack_from}
use Rattle.task_events.specs.Lawful.{AwaitsNoMark, Lawful}
use Rattle.task_laws.proofs.Bans.{ban_facts, open_unlisted}
use Rattle.task_laws.proofs.Stops.{stop_facts, put_over}
use Rattle.world_moves.specs.declared.flight.Sent.{Sent}
use Rattle.node_parts.specs.declared.listing.Listing.{Listing}
use Rattle.node_parts.specs.declared.running.Running.{Running}
use Rattle.world_moves.specs.Acts.{messages_of}
use Rattle.world_moves.specs.Cancels.{waiting_for}
use Rattle.world_moves.specs.Cancelling.{Cancelling, HasRows, HasBansAt, HasCoreAt, HasListingsAt, IsEntryOf, KnowsListings, if_any}
use Rattle.world_moves.specs.Listings.{listing_cmp, children_among}
use Rattle.world_moves.specs.Flights.{message_of}
use Rattle.command_roots.specs.Roots.{scripted}
use Rattle.world_moves.specs.Ties.{Ties, IsGood, IsTableOf}
use Rattle.world_moves.proofs.AtPlace.{set_at}
use Rattle.world_moves.proofs.ChildRows.{children_are, stays_live, entry_tells}
use Rattle.task_ids.proofs.Each.{all_joined}
use Rattle.world_moves.proofs.AcksSent.{from_good}
use Rattle.world_moves.proofs.FlightAfter.{all_stay}
use Rattle.world_moves.proofs.KeptTasks.{kept_same}
use Rattle.world_moves.proofs.NodeTablesSame.{listed_same}
use Rattle.world_moves.proofs.OneStops.{none_listed}
use Rattle.world_moves.proofs.OpenListings.{is_at_listing}
use Rattle.world_moves.proofs.WaitsAfter.{place_is}
use Rattle.world_moves.proofs.WaitsListed.{known_elsewhere, listed_known, ack_at_once}
use Rattle.world_moves.specs.Good.{so_far}

module _ (cluster : Cluster) (h : List Event) (n : ℕ) (p : TaskId) where
  -- the acknowledgement is sent where it is due at once
  pub after_listed : (corpus : Corpus) (script : Script) (tasks : TaskId → Option Running) (tables : List Table) (flight acks : List Sent)
      → Ties cluster corpus script h tasks tables flight → AwaitsNoMark h → listing_is_open n p h ≡ true → HasAllMarked n p h → map (message_of (Listed n p ∷ h)) acks ≡ map Some (ack_from n p h (Listed n p ∷ h))
      → Ties cluster corpus script (Listed n p ∷ h) tasks tables (flight ++ acks)
  after_listed corpus script tasks tables flight acks ties awaits opened marked says = record {
    lawful = (record { opened = opened; all_marked = marked }, ties.lawful, awaits);
    kept = kept_same cluster corpus (scripted script) (Listed n p) h tasks refl refl ties.kept;
    listed = λ place. listed_same cluster (Listed n p) h (λ m. refl) refl place _ (ties.listed place);
    sent = map-append (message_of (Listed n p ∷ h)) flight acks ∙ (λ i. all_stay (Listed n p) h flight (in_flight h) ties.sent i ++ says i) ∙ sym (map-append Some (in_flight h) (ack_from n p h (Listed n p ∷ h)));
    good = all_joined (IsGood cluster (so_far corpus script h) (Listed n p ∷ h)) (in_flight h) (ack_from n p h (Listed n p ∷ h)) ties.good (from_good cluster (so_far corpus script h) (Listed n p ∷ h) n p h (Listed n p ∷ h));
    within = ties.within;
    plain = ties.plain;
  }

  module _ (tables : List Table) (roots : ℕ → Option TaskId) (bans : List (FinMap task_id_cmp ℕ)) (cores : List Cancellations) (listings : BTreeSet Listing) where
    -- the listing is open no more, and the core of its node waits for the children that have not stopped
    pub cancels_after_listed : (core : Cancellations) (left : BTreeSet Listing) (ts : List TaskId) → Cancelling cluster (λ u. waiting_for u h) h tables roots bans cores listings → slice_get cores (n - 1) ≡ Some core
        → 1 ≤ n → KnowsListings n (Listed n p ∷ h) (with_listing core p ts) → ((l : Listing) → contains listing_cmp left l ≡ cond (is_at (listing_cmp (record { node = n; parent = p })) l) false (contains listing_cmp listings l))
        → Cancelling cluster (λ u. waiting_for u (Listed n p ∷ h)) (Listed n p ∷ h) tables roots bans (slice_set cores (n - 1) (with_listing core p ts)) left
    cancels_after_listed core left ts known here low listed removed = record {
      rows_are = λ place. of_rows (slice_get tables place) (known.rows_are place);
      roots_are = known.roots_are;
      bans_are = λ place. of_bans place (slice_get bans place) (known.bans_are place);
      cores_are = set_at (λ place. HasCoreAt cluster (λ u. waiting_for u h) place h) (λ place. HasCoreAt cluster (λ u. waiting_for u (Listed n p ∷ h)) place (Listed n p ∷ h)) cores (n - 1) core (with_listing core p ts) here known.cores_are
          (of_core (n - 1) (Some core) (subst (HasCoreAt cluster (λ u. waiting_for u h) (n - 1) h) here (known.cores_are (n - 1)))) (λ place apart has. of_core place (slice_get cores place) has);
      waits_are = set_at (λ place. HasListingsAt place h) (λ place. HasListingsAt place (Listed n p ∷ h)) cores (n - 1) core (with_listing core p ts) here known.waits_are
          (subst (λ m. KnowsListings m (Listed n p ∷ h) (with_listing core p ts)) (place_is n low) listed) (λ place apart knows. of_waits place apart (slice_get cores place) knows);
      listings_are = λ l. removed l ∙ ap (λ b. cond b false (contains listing_cmp listings l)) (is_at_listing (record { node = n; parent = p }) l)
          ∙ ap (cond (same_pair l.parent l.node p n) false) (known.listings_are l);
    }
      where
        of_rows : (o : Option Table) → HasRows h o → HasRows (Listed n p ∷ h) o
        of_rows None i = i
        of_rows (Some table) i = i

        of_bans : (place : ℕ) (o : Option (FinMap task_id_cmp ℕ)) → HasBansAt cluster place h o → HasBansAt cluster place (Listed n p ∷ h) o
        of_bans place None i = i
        of_bans place (Some own) i = i

        of_waits : (place : ℕ) → place ≢ n - 1 → (o : Option Cancellations) → HasListingsAt place h o → HasListingsAt place (Listed n p ∷ h) o
        of_waits place apart None knows = tt
        of_waits place apart (Some own) knows = known_elsewhere n p h (place + 1) (λ same. apart (omega arith)) own knows

        of_core : (place : ℕ) (o : Option Cancellations) → HasCoreAt cluster (λ u. waiting_for u h) place h o → HasCoreAt cluster (λ u. waiting_for u (Listed n p ∷ h)) place (Listed n p ∷ h) o
        of_core place None i = i
        of_core place (Some own) i = i

-- ---- what the listing finds

module _ (cluster : Cluster) (h : List Event) (n : ℕ) (p : TaskId) (lawful : Lawful cluster h) (opened : listing_is_open n p h ≡ true) where
  unlisted : is_listed n p h ≡ false
  unlisted = open_unlisted n p h (ban_facts cluster h lawful) opened

  -- no listing of that task's children waits yet
  pub none_waits : (core : Cancellations) → KnowsListings n h core → has_listing core p ≡ false
  none_waits core knows = ap is_some (knows.numbers p ∙ ap (λ ts. if_any (count_by (λ t. not (is_stopped t h)) ts)) (none_listed n p h unlisted))

  module _ (marked : HasAllMarked n p h) (table : Table) (i : IsTableOf cluster n h table) (rows : HasRows h (Some table)) (core : Cancellations) (entries : (t : TaskId) → t.node ≡ n → IsEntryOf (waiting_for t h) t h (get core.entries t)) (knows : KnowsListings n h core) where
    -- the core notes those of the children that have not stopped
    pub finds_known : KnowsListings n (Listed n p ∷ h) (with_listing core p (children_among p table.live))
    finds_known = listed_known n p h (stop_facts cluster h lawful) unlisted core knows (children_among p table.live) (children_are cluster n p h lawful table i rows) (stays_live cluster n p h lawful)
        (λ u put. entry_tells cluster n p h lawful marked u (waiting_for u h) (get core.entries u) put (entries u (put_over n p u h put).1))

    -- and the acknowledgement is sent where there is none
    pub finds_ack : map (message_of (Listed n p ∷ h)) (messages_of n (listing_act core p (children_among p table.live))) ≡ map Some (ack_from n p h (Listed n p ∷ h))
    finds_ack = ack_at_once n p h (stop_facts cluster h lawful) unlisted core knows (children_among p table.live) (children_are cluster n p h lawful table i rows) (stays_live cluster n p h lawful)
        (λ u put. entry_tells cluster n p h lawful marked u (waiting_for u h) (get core.entries u) put (entries u (put_over n p u h put).1)) (Listed n p ∷ h)
