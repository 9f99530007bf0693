-- What holds of each live task stays where one changes, comes or goes.
use Rattle.std.proofs.Common.{◌≡◌, ◌≢◌, ℕ, ◌⊎◌, inl, inr, true, false, Option, Some, None, sym, subst, arith, ⊎_elim}
use Rattle.std.specs.Prelude.{◌==◌, IfSome}
use Rattle.std.proofs.lemmas.Bool.{cases_Bool}
use Rattle.std.proofs.lemmas.Bool.Decides.{nat_tests}
use Rattle.live_tasks.specs.Live.{ChangesAt, entry_at}
use Rattle.live_tasks.specs.declared.entry.Entry.{Entry}
use Rattle.live_tasks.specs.declared.live.LiveTasks.{LiveTasks}
use Rattle.entry_facts.specs.Entries.{EachLive}

same_number : (m n : ℕ) → (m ≡ n) ⊎ (m ≢ n)
same_number m n = ⊎_elim (λ yes. inl (let e : (m == n) ≡ true = yes in grind (arith, nat_tests))) (λ no. inr (let e : (m == n) ≡ false = no in λ (f : m ≡ n). grind (arith, nat_tests))) (cases_Bool (m == n))

module _ (P : Entry → Type 0) (old new : LiveTasks) (each : EachLive P old) where
  pub changed_each : (n : ℕ) (o : Option Entry) → ChangesAt (entry_at old) (entry_at new) n o → IfSome o P → EachLive P new
  changed_each n o changes here m = ⊎_elim
      (λ same. subst (λ k. IfSome (entry_at new k) P) (sym same) (subst (λ p. IfSome p P) (sym changes.0) here))
      (λ other. subst (λ p. IfSome p P) (sym (changes.1 m other)) (each m))
      (same_number m n)

  pub same_each : ((n : ℕ) → entry_at new n ≡ entry_at old n) → EachLive P new
  same_each same m = subst (λ p. IfSome p P) (sym (same m)) (each m)

pub each_at : (P : Entry → Type 0) (live : LiveTasks) → EachLive P live → (n : ℕ) (e : Entry) → entry_at live n ≡ Some e → P e
each_at P live each n e is = subst (λ p. IfSome p P) is (each n)

-- what follows for each
pub weaker_each : (P Q : Entry → Type 0) → ((e : Entry) → P e → Q e) → (live : LiveTasks) → EachLive P live → EachLive Q live
weaker_each P Q gives live each n = of_one (entry_at live n) (each n)
  where
    of_one : (o : Option Entry) → IfSome o P → IfSome o Q
    of_one None p = tt
    of_one (Some e) p = gives e p
