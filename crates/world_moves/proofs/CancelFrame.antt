-- An event changes what the past says of the cancellation of one task at most.
use Rattle.std.proofs.Common.{◌≡◌, ℕ, Bool, false, List, [], ◌∷◌, map, filter, Option, Some, None, refl, ap, subst, ◌∙◌, arith}
use Rattle.std.specs.Prelude.{◌==◌, ◌&&◌, not, is_some, true, ⊤}
use Rattle.std.specs.List.{list_all}
use Rattle.std.specs.Option.{option_map_or}
use Rattle.std.specs.FinMap.{get}
use Rattle.task_ids.specs.declared.task_id.TaskId.{TaskId}
use Rattle.task_ids.specs.declared.cluster.Cluster.{Cluster}
use Rattle.cancel_core.specs.Cancellation.{Cancellation}
use Rattle.cancel_core.specs.Cancellations.{Cancellations}
use Rattle.task_events.specs.declared.event.Event.{Event}
use Rattle.task_events.specs.declared.event.Event.TheVariants.{Refuse, Cancel, Mark, Acked, End}
use Rattle.task_events.specs.Same.{same_task}
use Rattle.task_events.specs.Bans.{mark_of, banned_nodes, is_acked, bans_are_placed}
use Rattle.task_events.specs.Tasks.{has_ended}
use Rattle.task_laws.proofs.Same.{same_tests}
use Rattle.world_moves.specs.Cancels.{waits_for_end}
use Rattle.world_moves.specs.Cancelling.{cancel_facts, IsEntryBy, IsEntryOf, HasCoreAt, waiter_of}
use Rattle.world_moves.proofs.NamedCancels.{is_in}

-- the task whose cancellation an event is about
abbrev pub about_cancellation : Event → Option TaskId
about_cancellation (Refuse t c) = Some t
about_cancellation (Mark t c) = Some t
about_cancellation (Acked p n) = Some p
about_cancellation (End t r) = Some t
about_cancellation _ = None

-- a cancel that is among these names one task more in the way in which it named the others
abbrev pub NamesAlike : List ℕ → Event → List Event → Type 0
NamesAlike waiting (Cancel c t wait) h = is_in c waiting ≡ true → waits_for_end c h ≡ wait
NamesAlike waiting _ h = ⊤

-- the waiters stay as they were then
pub waiters_same : (c : ℕ) (t : TaskId) (wait : Bool) (h : List Event) (ks : List ℕ) → (is_in c ks ≡ true → waits_for_end c h ≡ wait) → map (waiter_of h) ks ≡ map (waiter_of (Cancel c t wait ∷ h)) ks
waiters_same c t wait h [] e = refl
waiters_same c t wait h (k ∷ ks) e = by_number (k == c) refl (waiters_same c t wait h ks (λ i. e (grind (arith, same_tests, i))))
  where
    by_number : (b : Bool) → (k == c) ≡ b → map (waiter_of h) ks ≡ map (waiter_of (Cancel c t wait ∷ h)) ks → map (waiter_of h) (k ∷ ks) ≡ map (waiter_of (Cancel c t wait ∷ h)) (k ∷ ks)
    by_number true n rest =
        let same : k ≡ c = grind (arith, same_tests) in
        let kind : waits_for_end k h ≡ wait = ap (λ j. waits_for_end j h) same ∙ e (grind (arith, same_tests, n)) in
        rw n (λ i. record { cancel = k; wait = kind i } ∷ rest i)
    by_number false n rest = rw n (ap (λ ws. waiter_of h k ∷ ws) rest)

module _ (waiting : List ℕ) (u : TaskId) (h : List Event) where
  -- an event about another task's
  pub frame : (e : Event) → option_map_or (same_task u) (about_cancellation e) false ≡ false → NamesAlike waiting e h
      → cancel_facts waiting u h ≡ cancel_facts waiting u (e ∷ h)
  frame (Refuse t c) other apart = rw other refl
  frame (End t r) other apart = rw other refl
  frame (Mark t c) other apart = rw other refl
  frame (Acked p m) other apart = λ i. record {
    mark = mark_of u h;
    banned = banned_nodes u h;
    awaited = filter (λ n. not (same n i)) (banned_nodes u h);
    placed = is_some (mark_of u h) && list_all (λ n. same n i) (banned_nodes u h);
    ended = has_ended u h;
    waiting = waiting;
    waiters = map (waiter_of h) waiting;
  }
    where
      same : (n : ℕ) → is_acked n u h ≡ is_acked n u (Acked p m ∷ h)
      same n = grind (arith, same_tests)
  frame (Cancel c t wait) other apart = λ i. record {
    mark = mark_of u h;
    banned = banned_nodes u h;
    awaited = filter (λ n. not (is_acked n u h)) (banned_nodes u h);
    placed = bans_are_placed u h;
    ended = has_ended u h;
    waiting = waiting;
    waiters = waiters_same c t wait h waiting apart i;
  }
  frame _ other apart = refl

  pub entry_frame : (e : Event) (o : Option Cancellation) → option_map_or (same_task u) (about_cancellation e) false ≡ false → NamesAlike waiting e h
      → IsEntryOf waiting u h o → IsEntryOf waiting u (e ∷ h) o
  entry_frame e o other apart entry = subst (λ facts. IsEntryBy facts o) (frame e other apart) entry

-- where the entries of all tasks stay the cores do
pub cores_kept : (cluster : Cluster) (waiting later : TaskId → List ℕ) (h past : List Event) → ((u : TaskId) (o : Option Cancellation) → IsEntryOf (waiting u) u h o → IsEntryOf (later u) u past o)
    → (place : ℕ) (o : Option Cancellations) → HasCoreAt cluster waiting place h o → HasCoreAt cluster later place past o
cores_kept cluster waiting later h past each place None has = has
cores_kept cluster waiting later h past each place (Some core) has = λ u on. each u (get core.entries u) (has u on)
