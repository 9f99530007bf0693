-- The bans are placed where no node is open, and nothing is due before.
use Rattle.std.proofs.Common.{◌≡◌, ℕ, List, [], ◌∷◌, Bool, true, false, not, ◌&&◌, cond, filter, insert, zero, suc, refl, sym, ap, ◌∙◌}
use Rattle.std.specs.List.{list_all}
use Rattle.task_ids.specs.declared.task_id.TaskId.{TaskId}
use Rattle.cancel_core.specs.declared.act.Waiter.{Waiter}
use Rattle.cancel_core.specs.Cancellation.{Cancellation, is_nil, is_placed, still_waiting}
use Rattle.cancel_core.specs.Acts.{due_acts, placed_acts}

pub none_passes : (p : ℕ → Bool) (ns : List ℕ) → list_all (λ n. not (p n)) ns ≡ is_nil (filter p ns)
none_passes p [] = refl
none_passes p (n ∷ ns) = elim (p n) as (λ b. not b && list_all (λ m. not (p m)) ns ≡ is_nil (cond b (n ∷ filter p ns) (filter p ns))) [ true ↦ refl | false ↦ none_passes p ns ]

-- what remains where the bans are placed, and where they are not
pub still_when_placed : (c : Cancellation) → is_placed c ≡ true → still_waiting c ≡ record c { waiters = filter (λ w. w.wait) c.waiters }
still_when_placed c e = ap (λ (b : Bool). cond b (record c { waiters = filter (λ w. w.wait) c.waiters }) c) e

pub still_when_open : (c : Cancellation) → is_placed c ≡ false → still_waiting c ≡ c
still_when_open c e = ap (λ (b : Bool). cond b (record c { waiters = filter (λ w. w.wait) c.waiters }) c) e

pub not_due : (task : TaskId) (c : Cancellation) (placed : Bool) → placed ≡ is_placed c → placed ≡ false → due_acts task c ≡ []
not_due task c placed is off = ap (λ (b : Bool). cond b (placed_acts task c c.receipt) []) (sym is ∙ off)

pub due_when_placed : (task : TaskId) (c : Cancellation) (placed : Bool) → placed ≡ is_placed c → placed ≡ true → due_acts task c ≡ placed_acts task c c.receipt
due_when_placed task c placed is on = ap (λ (b : Bool). cond b (placed_acts task c c.receipt) []) (sym is ∙ on)

-- of those who wait for completion none does not
pub none_late : (ws : List Waiter) → filter (λ w. not w.wait) (filter (λ w. w.wait) ws) ≡ []
none_late [] = refl
none_late (w ∷ ws) = by_wait w.wait refl (none_late ws)
  where
    by_wait : (b : Bool) → w.wait ≡ b → filter (λ v. not v.wait) (filter (λ v. v.wait) ws) ≡ [] → filter (λ v. not v.wait) (filter (λ v. v.wait) (w ∷ ws)) ≡ []
    by_wait true e rest = rw e rest
    by_wait false e rest = rw e rest

-- one more who waits for completion
pub late_noted : (ws : List Waiter) (k : ℕ) (w : Waiter) → not w.wait ≡ false → filter (λ v. not v.wait) (insert ws k w) ≡ filter (λ v. not v.wait) ws
late_noted [] zero w e = rw e refl
late_noted [] (suc k) w e = rw e refl
late_noted (v ∷ ws) zero w e = rw e refl
late_noted (v ∷ ws) (suc k) w e = ap (λ vs. cond (not v.wait) (v ∷ vs) vs) (late_noted ws k w e)
