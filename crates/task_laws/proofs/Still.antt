-- What has come stays so: a task that has ended, an acknowledgement, bans that are placed.
use Rattle.std.proofs.Common.{◌≡◌, ℕ, Bool, true, ◌||◌, List, [], ◌∷◌, refl, arith}
use Rattle.std.specs.Prelude.{is_some}
use Rattle.std.specs.List.{list_all}
use Rattle.task_ids.specs.declared.task_id.TaskId.{TaskId}
use Rattle.task_ids.specs.declared.cluster.Cluster.{Cluster}
use Rattle.task_events.specs.declared.event.Event.{Event}
use Rattle.task_events.specs.declared.event.Event.TheVariants.{Refuse, Mark, Acked, End}
use Rattle.task_events.specs.Tasks.{has_ended}
use Rattle.task_events.specs.Bans.{mark_of, banned_nodes, is_acked, bans_are_placed, is_stopped}
use Rattle.task_events.specs.Allowed.{Allowed}
use Rattle.task_laws.proofs.Same.{same_tests}
use Rattle.task_laws.proofs.Numbers.{both}

-- a test that passes where another does passes for all where the other does
all_grow : (f g : ℕ → Bool) → ((n : ℕ) → f n ≡ true → g n ≡ true) → (ns : List ℕ) → list_all f ns ≡ true → list_all g ns ≡ true
all_grow f g each [] e = refl
all_grow f g each (n ∷ ns) e = let rest = all_grow f g each ns in grind (arith, each n, rest)

still_acked : (e : Event) (h : List Event) (p : TaskId) (n : ℕ) → is_acked n p h ≡ true → is_acked n p (e ∷ h) ≡ true
still_acked (Acked q m) h p n e = grind (arith, same_tests)
still_acked _ h p n e = e

pub still_ended : (e : Event) (h : List Event) (p : TaskId) → has_ended p h ≡ true → has_ended p (e ∷ h) ≡ true
still_ended (Refuse q c) h p e = grind (arith, same_tests)
still_ended (End q r) h p e = grind (arith, same_tests)
still_ended _ h p e = e

module _ (cluster : Cluster) where
  pub still_placed : (e : Event) (h : List Event) → Allowed cluster e h → (p : TaskId) → bans_are_placed p h ≡ true → bans_are_placed p (e ∷ h) ≡ true
  still_placed (Mark q d) h a p e = grind (arith, same_tests)
  still_placed (Acked q m) h a p e =
      let parts = both (is_some (mark_of p h)) _ e in
      let acked = all_grow (λ n. is_acked n p h) (λ n. is_acked n p (Acked q m ∷ h)) (still_acked (Acked q m) h p) (banned_nodes p h) parts.1 in
      rw (parts.0, acked)
  still_placed _ h a p e = e

  pub still_stopped : (e : Event) (h : List Event) → Allowed cluster e h → (t : TaskId) → is_stopped t h ≡ true → is_stopped t (e ∷ h) ≡ true
  still_stopped e h a t s = either (has_ended t h) (has_ended t (e ∷ h)) (bans_are_placed t h) (bans_are_placed t (e ∷ h)) (still_ended e h t) (still_placed e h a t) s
    where
      either : (a b c d : Bool) → (a ≡ true → b ≡ true) → (c ≡ true → d ≡ true) → (a || c) ≡ true → (b || d) ≡ true
      either a b c d f g e = grind (arith, f, g)
