-- The steps of the control seat, each between two moments.
use Rattle.std.proofs.Common.{◌≡◌, ◌≢◌, ℕ, ◌+◌, ◌-◌, ◌<◌, ◌⊎◌, ◌&&◌, [], length, get_or, set, sym, ap, ◌∙◌, subst, ⊎_elim, inl, inr, arith, eqb, get_or-set_other, get_or-set_same}
use mathlib.Core.Logic.{dite}
use mathlib.Core.Option.{none, some}
use native.Mathlib.Decide.{ℕ_discrete}
use lib.ListN.{get_elem?}
use lib.Seq.{set-get_or}
use prog.Atomic.{either}
use Rattle.atomic_table.specs.Table.{step, Allows}
use Rattle.race_board.specs.Words.{number, parent, cancel, banned, by, with_mark}
use Rattle.race_board.specs.Board.{ban, task, In, BoardAt, BoardOk}
use Rattle.race_board.specs.Steps.{Sat, after_note, after_ban, after_scan, after_mark, after_half, after_whole, after_lift}
use Rattle.race_board.specs.StepEvents.{of_ban, of_scan, of_mark, of_unban}
use Rattle.race_board.specs.Theorem.{Moment}
use Rattle.race_board.specs.Turn.{Turned, Named, Rule, MayMark}
use Rattle.race_board.specs.declared.views.Size.{Size}
use Rattle.race_board.specs.declared.views.View.{View}
use Rattle.race_board.proofs.Parts.{by_ban, ban_some, ban_none, cancel_mark, mark_some}
use Rattle.race_board.proofs.Controls.{as_first, control_notes, puts, scans, strikes, halves, wholes, lifts}
use Rattle.race_board.proofs.Follows.{calm_follows, silent_either, mark_follows, ban_follows, unban_follows}
use Rattle.race_board.proofs.Turns.{turns, turns_told, stays_named}
use Rattle.race_board.proofs.DataSteps.{hit_is, miss_is, load_named}

-- the rule of the control seat's own view
mine : (z : Size) (s : Moment) (id : ℕ) (v : View) → v.lead ≡ 1 → BoardOk z s → get_elem? s.views id ≡ some v → BoardAt z v s
mine z s id v lead (c, r) there = let first : id ≡ 0 = (r.seats id v there).leads (λ e. absurd (omega arith)) in as_first z s v (c, r) (ap (get_elem? s.views) (sym first) ∙ there)

module _ (A : ℕ → Type 0) (z key : Size) (same : key ≡ z) (slots id : ℕ) (me : Sat) (size : me.0.size ≡ z) (lead : me.0.lead ≡ 1) (bare : me.1 ≡ []) where
  place_is : (j : ℕ) → z.slots + j + 1 - me.0.size.slots - 1 ≡ j
  place_is j = let e : me.0.size.slots ≡ z.slots = ap (λ (q : Size). q.slots) size in omega arith

  -- a load of a slot, to mark the task there
  pub notes_turn : (i : ℕ) → i < z.slots → Allows (Rule A key) slots id me (i + 1) (λ n. n) (λ n m'. after_note (step slots (i + 1) 0 0 none) me n m' × Turned (step slots (i + 1) 0 0 none) me m' n n [] × MayMark A n)
  notes_turn i inside = turns_told A z key same slots id me (i + 1) (λ n. n) (after_note (step slots (i + 1) 0 0 none) me) (λ _. []) (MayMark A) size
      (λ s ok there. calm_follows z s.words (set s.words (i + 1) (task s.words i)) [] tt (set-get_or s.words (i + 1) 0))
      (λ s ok there name. (load_named A z s (i + 1) name, name.marks i inside))
      (control_notes z slots id me (i + 1) lead bare (λ e. omega arith))

  pub puts_turn : (j word : ℕ) → j < z.bans → length me.0.bans ≡ z.bans → banned word ≢ 0 → A (by word) × (by word < 65536)
      → Allows (Rule A key) slots id me (z.slots + j + 1) (λ n. either (eqb n 0) word n)
      (λ n m'. after_ban (step slots (z.slots + j + 1) 0 word none) me n m' × Turned (step slots (z.slots + j + 1) 0 word none) me m' n (either (eqb n 0) word n) (of_ban (z.slots + j + 1 - me.0.size.slots - 1) n word) × ((ban me.0 (z.slots + j + 1 - me.0.size.slots - 1)).parent ≡ 0 → n ≡ 0))
  puts_turn j word inside sized child may = let x : ℕ = z.slots + j + 1 in let p : ℕ = x - me.0.size.slots - 1 in turns_told A z key same slots id me x (λ n. either (eqb n 0) word n) (after_ban (step slots x 0 word none) me) (λ n. of_ban p n word) (λ n. (ban me.0 p).parent ≡ 0 → n ≡ 0) size
      (λ s (c, r) there. let n : ℕ = get_or s.words x 0 in let w : ℕ = either (eqb n 0) word n in subst (λ (q : ℕ). Rattle.race_board.specs.Events.Follows z s.words (set s.words x w) (of_ban q n word)) (sym (place_is j)) (ban_follows z c s r j inside word w (hit_is n 0 word) (miss_is n 0 word)))
      (λ s ok there name. let n : ℕ = get_or s.words x 0 in let w : ℕ = either (eqb n 0) word n in let r = mine z s id me.0 lead ok there in let wide = r.wide in (
        stays_named A z s.words (set s.words x w) name (λ i l. inr (get_or-set_other s.words x (i + 1) w 0 (λ e. omega arith)))
            (λ q l. dite (ℕ_discrete q j)
            (λ e. let here : get_or (set s.words x w) (z.slots + q + 1) 0 ≡ w = (λ k. get_or (set s.words x w) (z.slots + e k + 1) 0) ∙ get_or-set_same s.words x w 0 (omega arith) in dite (ℕ_discrete n 0)
            (λ hit. inl (λ _. subst (λ (y : ℕ). A (by y) × (by y < 65536)) (sym (here ∙ hit_is n 0 word hit)) may))
            (λ miss. inr (here ∙ (miss_is n 0 word miss ∙ (λ k. get_or s.words (z.slots + sym e k + 1) 0)))))
            (λ e. inr (get_or-set_other s.words x (z.slots + q + 1) w 0 (λ f. e (omega arith))))) (λ k l. inr (get_or-set_other s.words x (z.slots + z.bans + k + 1) w 0 (λ e. omega arith))),
        λ free. let b = r.bans j inside in let free' : (ban me.0 j).parent ≡ 0 = ap (λ (k : ℕ). (ban me.0 k).parent) (sym (place_is j)) ∙ free in b.stands ∙ ban_none (ban me.0 j).parent (ban me.0 j).cancel free' (b.none_yet free'),
      ))
      (puts z slots id me j word lead bare inside size sized child)

  pub scans_turn : (i j : ℕ) → i < z.slots → j < z.bans → length me.0.bans ≡ z.bans → (ban me.0 j).parent ≢ 0 → (ban me.0 j).next ≡ i → me.0.about ≡ 0
      → Allows (Rule A key) slots id me (i + 1) (λ n. n) (λ n m'. after_scan j (step slots (i + 1) 0 0 none) me n m' × Turned (step slots (i + 1) 0 0 none) me m' n n (of_scan me.0 j (i + 1) n))
  scans_turn i j inside low sized standing next idle = turns A z key same slots id me (i + 1) (λ n. n) (after_scan j (step slots (i + 1) 0 0 none) me) (λ n. of_scan me.0 j (i + 1) n) size
      (λ s ok there. let n : ℕ = task s.words i in calm_follows z s.words (set s.words (i + 1) n) (of_scan me.0 j (i + 1) n) (silent_either (eqb (parent n) (ban me.0 j).parent && eqb (cancel n) 0) [] _ tt (silent_either (eqb (i + 1) me.0.size.slots) _ [] tt tt)) (set-get_or s.words (i + 1) 0))
      (λ s ok there name. load_named A z s (i + 1) name)
      (scans z slots id me i j lead bare inside low sized standing next idle)

  -- a number that a ban of the seat has is allowed
  allowed_by : (c : ℕ) → A c ⊎ ((j : ℕ) × (j < z.bans) × ((ban me.0 j).parent ≢ 0) × ((ban me.0 j).cancel ≡ c)) → (s : Moment) → BoardOk z s → get_elem? s.views id ≡ some me.0 → Named A z s.words → A c
  allowed_by c may s ok there name = ⊎_elim (λ (a : A c). a) (λ (b : (j : ℕ) × (j < z.bans) × ((ban me.0 j).parent ≢ 0) × ((ban me.0 j).cancel ≡ c)).
      let o = (mine z s id me.0 lead ok there).bans b.0 b.1 in let p : ℕ = (ban me.0 b.0).parent in let k : ℕ = (ban me.0 b.0).cancel in
      subst A (ap by o.stands ∙ (by_ban p k o.small ∙ b.3)) (name.bans b.0 b.1 (λ e. ban_some p k b.2 (sym o.stands ∙ e))).0) may

  pub strikes_turn : (done i old c new : ℕ) → new ≡ with_mark old c → i < z.slots → old ≢ 0 → cancel old ≡ 0 → c ≢ 0 → A c ⊎ ((j : ℕ) × (j < z.bans) × ((ban me.0 j).parent ≢ 0) × ((ban me.0 j).cancel ≡ c)) → (me.0.about ≢ 0 → (me.0.about ≡ i + 1) × (me.0.loaded ≡ old)) → me.0.half ≡ 0
      → Allows (Rule A key) slots id me (i + 1) (λ n. either (eqb n old) new n) (λ n m'. after_mark (step slots (i + 1) old new none) me n m' × Turned (step slots (i + 1) old new none) me m' n (either (eqb n old) new n) (of_mark done n old new))
  strikes_turn done i old c new e inside full free some_cancel may about whole = subst (λ (y : ℕ). Allows (Rule A key) slots id me (i + 1) (λ n. either (eqb n old) y n) (λ n m'. after_mark (step slots (i + 1) old y none) me n m' × Turned (step slots (i + 1) old y none) me m' n (either (eqb n old) y n) (of_mark done n old y))) (sym e)
      (let y : ℕ = with_mark old c in turns A z key same slots id me (i + 1) (λ n. either (eqb n old) y n) (after_mark (step slots (i + 1) old y none) me) (λ n. of_mark done n old y) size
      (λ s (d, r) there. let n : ℕ = task s.words i in mark_follows z d s r i inside done old c (either (eqb n old) y n) full free (mark_some old c full) (hit_is n old y) (miss_is n old y))
      (λ s (d, r) there name. let n : ℕ = task s.words i in let w : ℕ = either (eqb n old) y n in let wide = r.wide in stays_named A z s.words (set s.words (i + 1) w) name
      (λ k l. dite (ℕ_discrete k i)
      (λ f. let here : task (set s.words (i + 1) w) k ≡ w = ap (task (set s.words (i + 1) w)) f ∙ get_or-set_same s.words (i + 1) w 0 (omega arith) in dite (ℕ_discrete n old)
      (λ hit. inl (λ _. subst A (sym (ap cancel (here ∙ hit_is n old y hit) ∙ cancel_mark old c free)) (allowed_by c may s (d, r) there name)))
      (λ miss. inr (here ∙ (miss_is n old y miss ∙ ap (task s.words) (sym f)))))
      (λ f. inr (get_or-set_other s.words (i + 1) (k + 1) w 0 (λ g. f (omega arith)))))
      (λ j _. inr (get_or-set_other s.words (i + 1) (z.slots + j + 1) w 0 (λ g. omega arith))) (λ k l. inr (get_or-set_other s.words (i + 1) (z.slots + z.bans + k + 1) w 0 (λ e. omega arith))))
      (strikes z slots id me i old c lead bare inside full free some_cancel about whole))

  pub halves_turn : (i : ℕ) → i < z.slots → Allows (Rule A key) slots id me (z.slots + z.bans + i + 1) (λ n. n) (λ n m'. after_half (step slots (z.slots + z.bans + i + 1) 0 0 none) me n m' × Turned (step slots (z.slots + z.bans + i + 1) 0 0 none) me m' n n [] × (n < 65536))
  halves_turn i inside = let x : ℕ = z.slots + z.bans + i + 1 in turns_told A z key same slots id me x (λ n. n) (after_half (step slots x 0 0 none) me) (λ _. []) (λ n. n < 65536) size
      (λ s ok there. calm_follows z s.words (set s.words x (get_or s.words x 0)) [] tt (set-get_or s.words x 0))
      (λ s ok there name. (load_named A z s x name, name.masks i inside))
      (halves z slots id me i lead bare inside size)

  pub wholes_turn : (i : ℕ) → i < z.slots → me.0.half ≡ i + 1
      → Allows (Rule A key) slots id me (i + 1) (λ n. n) (λ n m'. after_whole (step slots (i + 1) 0 0 none) me n m' × Turned (step slots (i + 1) 0 0 none) me m' n n [] × (n ≢ 0 → In (number n) me.0.marked → cancel n ≢ 0))
  wholes_turn i inside half = turns_told A z key same slots id me (i + 1) (λ n. n) (after_whole (step slots (i + 1) 0 0 none) me) (λ _. []) (λ n. n ≢ 0 → In (number n) me.0.marked → cancel n ≢ 0) size
      (λ s ok there. calm_follows z s.words (set s.words (i + 1) (task s.words i)) [] tt (set-get_or s.words (i + 1) 0))
      (λ s ok there name. let r = mine z s id me.0 lead ok there in (load_named A z s (i + 1) name, λ full m e. (r.tasks i inside full).unmarked e m))
      (wholes z slots id me i lead bare inside half)

  pub lifts_turn : (j : ℕ) → j < z.bans → length me.0.bans ≡ z.bans
      → Allows (Rule A key) slots id me (z.slots + j + 1) (λ _. 0) (λ n m'. after_lift (step slots (z.slots + j + 1) 0 0 none) me n m' × Turned (step slots (z.slots + j + 1) 0 0 none) me m' n 0 (of_unban (z.slots + j + 1 - me.0.size.slots - 1)))
  lifts_turn j inside sized = let x : ℕ = z.slots + j + 1 in turns A z key same slots id me x (λ _. 0) (after_lift (step slots x 0 0 none) me) (λ _. of_unban (x - me.0.size.slots - 1)) size
      (λ s (c, r) there. subst (λ (q : ℕ). Rattle.race_board.specs.Events.Follows z s.words (set s.words x 0) (of_unban q)) (sym (place_is j)) (unban_follows z c s r j inside))
      (λ s (c, r) there name. let wide = r.wide in stays_named A z s.words (set s.words x 0) name (λ i l. inr (get_or-set_other s.words x (i + 1) 0 0 (λ e. omega arith)))
      (λ q l. dite (ℕ_discrete q j)
      (λ e. inl (λ n. absurd (n ((λ k. get_or (set s.words x 0) (z.slots + e k + 1) 0) ∙ get_or-set_same s.words x 0 0 (omega arith)))))
      (λ e. inr (get_or-set_other s.words x (z.slots + q + 1) 0 0 (λ f. e (omega arith))))) (λ k l. inr (get_or-set_other s.words x (z.slots + z.bans + k + 1) 0 0 (λ e. omega arith))))
      (lifts z slots id me j lead bare inside size sized)
