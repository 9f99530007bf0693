-- Events that list nothing and stop nothing leave the listings that wait as they are.
use Rattle.std.proofs.Common.{◌≡◌, ◌≢◌, ◌⊎◌, ℕ, Bool, true, false, cond, not, List, ◌∷◌, Option, Some, None, refl, sym, ap, ◌∙◌, inl, inr}
use Rattle.std.specs.Prelude.{◌&&◌, option_and_then}
use Rattle.std.specs.List.{list_any}
use Rattle.task_ids.specs.declared.task_id.TaskId.{TaskId}
use Rattle.task_events.specs.declared.event.Event.{Event}
use Rattle.task_events.specs.declared.event.Event.TheVariants.{Put, Refuse, Mark, Listed, Acked, End}
use Rattle.task_events.specs.Same.{same_task}
use Rattle.task_events.specs.Tasks.{parent_of}
use Rattle.task_events.specs.Bans.{is_stopped, listed_children}
use Rattle.task_laws.proofs.Same.{same_task_tells}
use Rattle.task_laws.proofs.Stops.{StopFacts, listed_over}
use Rattle.world_moves.specs.Listings.{is_awaited, listing_over}
use Rattle.world_moves.proofs.OneStops.{ListingsStay, stands_in}

-- the event puts a child, ends a listing, or may stop a task
abbrev pub lists : Event → Bool
lists (Put t p k) = true
lists (Refuse t c) = true
lists (Mark t c) = true
lists (Listed n p) = true
lists (Acked p n) = true
lists (End t r) = true
lists _ = false

pub quiet_listings : (e : Event) (h : List Event) → lists e ≡ false → ListingsStay h (e ∷ h)
quiet_listings (Put t p k) h quiet = absurd (cc)
quiet_listings (Refuse t c) h quiet = absurd (cc)
quiet_listings (Mark t c) h quiet = absurd (cc)
quiet_listings (Listed n p) h quiet = absurd (cc)
quiet_listings (Acked p n) h quiet = absurd (cc)
quiet_listings (End t r) h quiet = absurd (cc)
quiet_listings _ h quiet = record { over = λ u. refl; numbers = λ n p. refl }

-- a new child is in no list
pub put_listings : (t p : TaskId) (k : ℕ) (h : List Event) → StopFacts h → parent_of t h ≡ None → ListingsStay h (Put t p k ∷ h)
put_listings t p k h facts new = record { over = λ u. by_task u (same_task_tells u t); numbers = λ n q. refl }
  where
    over : TaskId → Option TaskId → Option TaskId
    over u o = option_and_then (λ q. cond (is_awaited u q h) (Some q) None) o

    unlisted : (u : TaskId) → parent_of u h ≡ None → (b : Bool) → list_any (same_task u) (listed_children u.node p h) ≡ b → cond (b && not (is_stopped u h)) (Some p) None ≡ None
    unlisted u none false e = refl
    unlisted u none true e = absurd (let child = listed_over u.node p u h facts (stands_in u (listed_children u.node p h) e) in cc (sym none ∙ child.0))

    by_task : (u : TaskId) → ((same_task u t ≡ true) × (u ≡ t)) ⊎ ((same_task u t ≡ false) × (u ≢ t)) → over u (cond (same_task u t) (Some p) (parent_of u h)) ≡ listing_over u h
    by_task u (inl (is_one, same)) =
        let none : parent_of u h ≡ None = ap (λ x. parent_of x h) same ∙ new in
        ap (λ b. over u (cond b (Some p) (parent_of u h))) is_one ∙ unlisted u none (list_any (same_task u) (listed_children u.node p h)) refl ∙ sym (ap (over u) none)
    by_task u (inr (differs, apart)) = ap (λ b. over u (cond b (Some p) (parent_of u h))) differs
