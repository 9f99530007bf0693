-- Events that no cancellation makes leave the tables of bans and cancellations as they should be.
use Rattle.std.proofs.Common.{◌≡◌, ℕ, Bool, true, false, List, ◌∷◌, Option, Some, None, refl, sym, ap, ◌∙◌}
use Rattle.std.specs.Prelude.{slice_get}
use Rattle.std.specs.Option.{option_map_or}
use Rattle.std.specs.BTreeSet.{BTreeSet}
use Rattle.std.specs.FinMap.{FinMap}
use Rattle.task_ids.specs.declared.task_id.TaskId.{TaskId}
use Rattle.task_ids.specs.declared.cluster.Cluster.{Cluster}
use Rattle.task_ids.specs.TaskIdOrder.{task_id_cmp}
use Rattle.task_table.specs.Table.{Table}
use Rattle.cancel_core.specs.Cancellations.{Cancellations}
use Rattle.task_events.specs.declared.event.Event.{Event}
use Rattle.task_events.specs.declared.event.Event.TheVariants.{Root, Put, Refuse, Cancel, Mark, BanPut, Listed, Acked, BanGone, End}
use Rattle.task_events.specs.Same.{same_task}
use Rattle.node_parts.specs.declared.listing.Listing.{Listing}
use Rattle.command_roots.specs.Roots.{root_of}
use Rattle.world_moves.specs.Listings.{is_open}
use Rattle.world_moves.specs.Cancelling.{Cancelling, HasRows, HasBansAt}
use Rattle.world_moves.proofs.OneStops.{ListingsStay}
use Rattle.world_moves.proofs.QuietListings.{lists, quiet_listings}
use Rattle.world_moves.proofs.WaitsAfter.{waits_stay}
use Rattle.world_moves.proofs.CancelFrame.{about_cancellation, NamesAlike, entry_frame, cores_kept}

-- the event marks or names a task, is of a ban, or ends a task
abbrev pub cancels : Event → Bool
cancels (Refuse t c) = true
cancels (Cancel c t wait) = true
cancels (Mark t c) = true
cancels (BanPut n p c) = true
cancels (Listed n p) = true
cancels (Acked p n) = true
cancels (BanGone n p) = true
cancels (End t r) = true
cancels _ = false

abbrev pub starts : Event → Bool
starts (Root c t) = true
starts (Put t p k) = true
starts _ = false

bans_stay : (cluster : Cluster) (e : Event) (h : List Event) → cancels e ≡ false → (place : ℕ) (o : Option (FinMap task_id_cmp ℕ)) → HasBansAt cluster place h o → HasBansAt cluster place (e ∷ h) o
bans_stay cluster (BanPut n p c) h a place o b = absurd (cc)
bans_stay cluster (BanGone n p) h a place o b = absurd (cc)
bans_stay cluster _ h a place None b = b
bans_stay cluster _ h a place (Some bans) b = b

-- it is about no task's cancellation, and names no task
uninvolved : (waiting : List ℕ) (e : Event) (h : List Event) → cancels e ≡ false → (about_cancellation e ≡ None) × NamesAlike waiting e h
uninvolved waiting (Refuse u c) h a = absurd (cc)
uninvolved waiting (Cancel c u wait) h a = absurd (cc)
uninvolved waiting (Mark u c) h a = absurd (cc)
uninvolved waiting (Acked p n) h a = absurd (cc)
uninvolved waiting (End u r) h a = absurd (cc)
uninvolved waiting _ h a = (refl, tt)

opens_nothing : (e : Event) (h : List Event) (l : Listing) → cancels e ≡ false → is_open l (e ∷ h) ≡ is_open l h
opens_nothing (BanPut n p c) h l a = absurd (cc)
opens_nothing (Listed n p) h l a = absurd (cc)
opens_nothing _ h l a = refl

rows_stay : (e : Event) (h : List Event) → cancels e ≡ false → starts e ≡ false → (o : Option Table) → HasRows h o → HasRows (e ∷ h) o
rows_stay (Mark u c) h a b o i = absurd (cc)
rows_stay (Put u p k) h a b o i = absurd (cc)
rows_stay _ h a b None i = i
rows_stay _ h a b (Some table) i = i

no_root : (e : Event) (h : List Event) (k : ℕ) → starts e ≡ false → root_of k (e ∷ h) ≡ root_of k h
no_root (Root c t) h k b = absurd (cc)
no_root _ h k b = refl

-- it lists nothing and stops nothing
lists_none : (e : Event) → cancels e ≡ false → starts e ≡ false → lists e ≡ false
lists_none (Put t p k) a b = absurd (cc)
lists_none (Refuse t c) a b = absurd (cc)
lists_none (Mark t c) a b = absurd (cc)
lists_none (Listed n p) a b = absurd (cc)
lists_none (Acked p n) a b = absurd (cc)
lists_none (End t r) a b = absurd (cc)
lists_none _ a b = refl

module _ (cluster : Cluster) (waiting : TaskId → List ℕ) (h : List Event) (tables : List Table) (roots : ℕ → Option TaskId) (bans : List (FinMap task_id_cmp ℕ)) (cores : List Cancellations) (listings : BTreeSet Listing)
    (known : Cancelling cluster waiting h tables roots bans cores listings) where
  -- where the rows and the roots are as they should be after such an event
  pub noted_with : (e : Event) (after : List Table) (started : ℕ → Option TaskId) → cancels e ≡ false → ListingsStay h (e ∷ h) → ((place : ℕ) → HasRows (e ∷ h) (slice_get after place)) → ((k : ℕ) → started k ≡ root_of k (e ∷ h))
      → Cancelling cluster waiting (e ∷ h) after started bans cores listings
  noted_with e after started a stay rows starts_of = record {
    rows_are = rows;
    roots_are = starts_of;
    bans_are = λ place. bans_stay cluster e h a place _ (known.bans_are place);
    cores_are = λ place. cores_kept cluster waiting waiting h (e ∷ h)
        (λ u o. let none = uninvolved (waiting u) e h a in entry_frame (waiting u) u h e o (ap (λ o. option_map_or (same_task u) o false) none.0) none.1) place _ (known.cores_are place);
    waits_are = λ place. waits_stay place h (e ∷ h) _ stay (known.waits_are place);
    listings_are = λ l. known.listings_are l ∙ sym (opens_nothing e h l a);
  }

  pub noted : (e : Event) → cancels e ≡ false → starts e ≡ false → Cancelling cluster waiting (e ∷ h) tables roots bans cores listings
  noted e a b = noted_with e tables roots a (quiet_listings e h (lists_none e a b)) (λ place. rows_stay e h a b _ (known.rows_are place)) (λ k. known.roots_are k ∙ sym (no_root e h k b))
