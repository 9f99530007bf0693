-- The steps of a data seat, each between two moments.
use Rattle.std.proofs.Common.{◌≡◌, ◌≢◌, ℕ, ◌+◌, ◌-◌, ◌%◌, ◌^◌, ◌<◌, ◌⊎◌, [], length, get_or, set, sym, ap, ◌∙◌, subst, inl, inr, bit_or, bit_and, arith, eqb, eq-eqb, ne_eqb, get_or-set_other, get_or-set_same}
use mathlib.Core.Logic.{dite}
use mathlib.Core.Option.{none}
use native.Mathlib.Decide.{ℕ_discrete}
use lib.Seq.{set-get_or}
use prog.Atomic.{either}
use Rattle.atomic_table.specs.Table.{step, Allows}
use Rattle.race_board.specs.Words.{number, cancel, banned}
use Rattle.std.proofs.lemmas.Nat.{or_of_16, and_le_l}
use Rattle.race_board.specs.Board.{hold, task, mask}
use Rattle.race_board.specs.Steps.{Sat, after_draw, after_claim, after_glance, after_check, after_end, after_track, after_untrack, after_look}
use Rattle.race_board.specs.StepEvents.{of_claim, of_check, of_end, of_track_look, of_look}
use Rattle.race_board.specs.Theorem.{Moment}
use Rattle.race_board.specs.Turn.{Turned, Named, Rule, MayMark, MayBan}
use Rattle.race_board.specs.declared.views.Size.{Size}
use Rattle.race_board.specs.declared.views.Hold.{Hold}
use Rattle.race_board.specs.declared.views.Progress.TheVariants.{Next}
use Rattle.race_board.proofs.Parts.{zero_number, zero_cancel}
use Rattle.race_board.proofs.Holders.{draws, claims, glances, checks, ends, tracks, untracks, looks}
use Rattle.race_board.proofs.Follows.{same_follows, calm_follows, silent_either, claim_follows, end_follows}
use Rattle.race_board.proofs.Turns.{turns, turns_told, stays_named}

back_one : (i : ℕ) → i ≡ i + 1 - 1
back_one i = omega arith

pub hit_is : (n old y : ℕ) → n ≡ old → either (eqb n old) y n ≡ y
hit_is n old y e = ap (λ b. either b y n) (eq-eqb n old e)

pub miss_is : (n old y : ℕ) → n ≢ old → either (eqb n old) y n ≡ n
miss_is n old y e = ap (λ b. either b y n) (ne_eqb n old e)

-- the names of the words, where the word that is found stays
pub load_named : (A : ℕ → Type 0) (z : Size) (s : Moment) (x : ℕ) → Named A z s.words → Named A z (set s.words x (get_or s.words x 0))
load_named A z s x name = subst (Named A z) (sym (set-get_or s.words x 0)) name

module _ (A : ℕ → Type 0) (z key : Size) (same : key ≡ z) (slots id : ℕ) (me : Sat) (size : me.0.size ≡ z) (lead : me.0.lead ≡ 0) (bare : me.1 ≡ []) where
  -- the counter is no task's and no ban's
  pub draws_turn : me.0.drawn ≡ 0 → me.0.told ≡ 0
      → Allows (Rule A key) slots id me 0 (λ n. (n + 1) % 2 ^ 64) (λ n m'. after_draw (step slots 0 1 0 none) me n m' × Turned (step slots 0 1 0 none) me m' n ((n + 1) % 2 ^ 64) [])
  draws_turn free untold = turns A z key same slots id me 0 (λ n. (n + 1) % 2 ^ 64) (after_draw (step slots 0 1 0 none) me) (λ _. []) size
      (λ s ok there. let y : ℕ = (get_or s.words 0 0 + 1) % 2 ^ 64 in same_follows z s.words (set s.words 0 y) [] tt (λ i _. get_or-set_other s.words 0 (i + 1) y 0 (λ e. omega arith)) (λ j _. get_or-set_other s.words 0 (z.slots + j + 1) y 0 (λ e. omega arith)))
      (λ s ok there name. let y : ℕ = (get_or s.words 0 0 + 1) % 2 ^ 64 in stays_named A z s.words (set s.words 0 y) name (λ i _. inr (get_or-set_other s.words 0 (i + 1) y 0 (λ e. omega arith))) (λ j _. inr (get_or-set_other s.words 0 (z.slots + j + 1) y 0 (λ e. omega arith))) (λ k l. inr (get_or-set_other s.words 0 (z.slots + z.bans + k + 1) y 0 (λ e. omega arith))))
      (draws z slots id me lead bare free untold)

  pub claims_turn : (i word : ℕ) → length me.0.held ≡ z.slots → i < z.slots → me.0.drawn ≢ 0 → number word ≡ me.0.drawn → cancel word ≡ 0
      → Allows (Rule A key) slots id me (i + 1) (λ n. either (eqb n 0) word n) (λ n m'. after_claim (step slots (i + 1) 0 word none) me n m' × Turned (step slots (i + 1) 0 word none) me m' n (either (eqb n 0) word n) (of_claim n word))
  claims_turn i word wide inside drawn is free = turns A z key same slots id me (i + 1) (λ n. either (eqb n 0) word n) (after_claim (step slots (i + 1) 0 word none) me) (λ n. of_claim n word) size
      (λ s (c, r) there. let n : ℕ = task s.words i in claim_follows z c s r i inside word (λ e. drawn (sym is ∙ (ap number e ∙ zero_number))) free (either (eqb n 0) word n) (hit_is n 0 word) (miss_is n 0 word))
      (λ s (c, r) there name. let n : ℕ = task s.words i in let w : ℕ = either (eqb n 0) word n in let all = r.wide in stays_named A z s.words (set s.words (i + 1) w) name
      (λ k l. dite (ℕ_discrete k i)
      (λ e. let here : task (set s.words (i + 1) w) k ≡ w = ap (task (set s.words (i + 1) w)) e ∙ get_or-set_same s.words (i + 1) w 0 (omega arith) in dite (ℕ_discrete n 0)
      (λ hit. inl (λ some_mark. absurd (some_mark (ap cancel (here ∙ hit_is n 0 word hit) ∙ free))))
      (λ miss. inr (here ∙ (miss_is n 0 word miss ∙ ap (task s.words) (sym e)))))
      (λ e. inr (get_or-set_other s.words (i + 1) (k + 1) w 0 (λ f. e (omega arith)))))
      (λ j _. inr (get_or-set_other s.words (i + 1) (z.slots + j + 1) w 0 (λ e. omega arith))) (λ k l. inr (get_or-set_other s.words (i + 1) (z.slots + z.bans + k + 1) w 0 (λ e. omega arith))))
      (claims z slots id me i word lead bare wide inside drawn is free)

  pub checks_turn : (i j : ℕ) → length me.0.held ≡ z.slots → (hold me.0 i).number ≢ 0 → (j ≡ 0) ⊎ ((hold me.0 i).check ≡ Next j) → j < z.bans
      → Allows (Rule A key) slots id me (z.slots + j + 1) (λ n. n) (λ n m'. after_check i (step slots (z.slots + j + 1) 0 0 none) me n m' × Turned (step slots (z.slots + j + 1) 0 0 none) me m' n n (of_check (hold me.0 i) (z.slots + j + 1) (me.0.size.slots + me.0.size.bans) n) × MayBan A n)
  checks_turn i j wide full next inside = let x : ℕ = z.slots + j + 1 in let last : ℕ = me.0.size.slots + me.0.size.bans in turns_told A z key same slots id me x (λ n. n) (after_check i (step slots x 0 0 none) me) (λ n. of_check (hold me.0 i) x last n) (MayBan A) size
      (λ s ok there. let n : ℕ = get_or s.words x 0 in calm_follows z s.words (set s.words x n) (of_check (hold me.0 i) x last n) (silent_either (eqb (banned n) (hold me.0 i).parent) [] _ tt (silent_either (eqb x last) _ [] tt tt)) (set-get_or s.words x 0))
      (λ s ok there name. (load_named A z s x name, name.bans j inside))
      (checks z slots id me i j lead bare wide size full next inside)

  pub ends_turn : (i : ℕ) → length me.0.held ≡ z.slots → i < z.slots → (hold me.0 i).number ≢ 0
      → Allows (Rule A key) slots id me (i + 1) (λ _. 0) (λ n m'. after_end (step slots (i + 1) 0 0 none) me n m' × Turned (step slots (i + 1) 0 0 none) me m' n 0 (of_end (hold me.0 (i + 1 - 1)) (hold me.0 (i + 1 - 1)).check) × MayMark A n)
  ends_turn i wide inside full = let h : Hold = hold me.0 (i + 1 - 1) in let back : (hold me.0 i).number ≡ h.number = ap (λ (k : ℕ). (hold me.0 k).number) (back_one i) in turns_told A z key same slots id me (i + 1) (λ _. 0) (after_end (step slots (i + 1) 0 0 none) me) (λ _. of_end h h.check) (MayMark A) size
      (λ s (c, r) there. let a = (r.seats id me.0 there).holds i full in end_follows z c s r i a.inside h h.check (λ e. full (sym a.is ∙ (ap number e ∙ zero_number))) (a.is ∙ back))
      (λ s (c, r) there name. let all = r.wide in (
        stays_named A z s.words (set s.words (i + 1) 0) name
            (λ k l. dite (ℕ_discrete k i)
            (λ e. inl (λ some_mark. absurd (some_mark (ap cancel (ap (task (set s.words (i + 1) 0)) e ∙ get_or-set_same s.words (i + 1) 0 0 (omega arith)) ∙ zero_cancel))))
            (λ e. inr (get_or-set_other s.words (i + 1) (k + 1) 0 0 (λ f. e (omega arith)))))
            (λ j _. inr (get_or-set_other s.words (i + 1) (z.slots + j + 1) 0 0 (λ e. omega arith))) (λ k l. inr (get_or-set_other s.words (i + 1) (z.slots + z.bans + k + 1) 0 0 (λ e. omega arith))),
        name.marks i inside,
      ))
      (ends z slots id me i lead bare wide full)

  -- a load of the seat's own word before a turn of work
  pub glances_turn : (i : ℕ) → i < z.slots → (hold me.0 i).number ≢ 0
      → Allows (Rule A key) slots id me (i + 1) (λ n. n) (λ n m'. after_glance (step slots (i + 1) 0 0 none) me n m' × Turned (step slots (i + 1) 0 0 none) me m' n n (of_look (hold me.0 (i + 1 - 1)) n) × MayMark A n)
  glances_turn i inside full = let h : Hold = hold me.0 (i + 1 - 1) in turns_told A z key same slots id me (i + 1) (λ n. n) (after_glance (step slots (i + 1) 0 0 none) me) (λ n. of_look h n) (MayMark A) size
      (λ s ok there. let n : ℕ = task s.words i in calm_follows z s.words (set s.words (i + 1) n) (of_look h n) (silent_either (eqb (cancel n) 0) _ [] tt tt) (set-get_or s.words (i + 1) 0))
      (λ s ok there name. (load_named A z s (i + 1) name, name.marks i inside))
      (glances z slots id me i lead bare full)

  pub looks_turn : (i : ℕ) → length me.0.held ≡ z.slots → i < z.slots → (hold me.0 i).number ≢ 0
      → Allows (Rule A key) slots id me (i + 1) (λ n. n) (λ n m'. after_look (step slots (i + 1) 0 0 none) me n m' × Turned (step slots (i + 1) 0 0 none) me m' n n (of_track_look (hold me.0 (i + 1 - 1)) n) × MayMark A n)
  looks_turn i wide inside full = let h : Hold = hold me.0 (i + 1 - 1) in turns_told A z key same slots id me (i + 1) (λ n. n) (after_look (step slots (i + 1) 0 0 none) me) (λ n. of_track_look h n) (MayMark A) size
      (λ s ok there. let n : ℕ = task s.words i in calm_follows z s.words (set s.words (i + 1) n) (of_track_look h n) (silent_either (eqb (cancel n) 0) _ [] tt tt) (set-get_or s.words (i + 1) 0))
      (λ s ok there name. (load_named A z s (i + 1) name, name.marks i inside))
      (looks z slots id me i lead bare wide full)

  -- a mask word is no task's and no ban's
  pub tracks_turn : (i k : ℕ) → length me.0.held ≡ z.slots → (hold me.0 i).number ≢ 0 → (hold me.0 i).seek ≡ 0 → k < 65536
      → Allows (Rule A key) slots id me (z.slots + z.bans + i + 1) (λ n. bit_or n k) (λ n m'. after_track (step slots (z.slots + z.bans + i + 1) k 0 none) me n m' × Turned (step slots (z.slots + z.bans + i + 1) k 0 none) me m' n (bit_or n k) [])
  tracks_turn i k wide full free small = let x : ℕ = z.slots + z.bans + i + 1 in turns A z key same slots id me x (λ n. bit_or n k) (after_track (step slots x k 0 none) me) (λ _. []) size
      (λ s ok there. let y : ℕ = bit_or (get_or s.words x 0) k in same_follows z s.words (set s.words x y) [] tt (λ q l. get_or-set_other s.words x (q + 1) y 0 (λ e. omega arith)) (λ j l. get_or-set_other s.words x (z.slots + j + 1) y 0 (λ e. omega arith)))
      (λ s ok there name. let y : ℕ = bit_or (get_or s.words x 0) k in stays_named A z s.words (set s.words x y) name (λ q l. inr (get_or-set_other s.words x (q + 1) y 0 (λ e. omega arith))) (λ j l. inr (get_or-set_other s.words x (z.slots + j + 1) y 0 (λ e. omega arith)))
      (λ q l. dite (ℕ_discrete q i)
      (λ e. let wide = ok.1.wide in inl (subst (λ (n : ℕ). n < 65536) (sym (ap (mask z (set s.words x y)) e ∙ get_or-set_same s.words x y 0 (omega arith))) (or_of_16 (get_or s.words x 0) k (subst (λ (b : ℕ). mask z s.words b < 65536) e (name.masks q l)) small)))
      (λ e. inr (get_or-set_other s.words x (z.slots + z.bans + q + 1) y 0 (λ f. e (omega arith))))))
      (tracks z slots id me i k lead bare wide full free size)

  pub untracks_turn : (i k : ℕ) → length me.0.held ≡ z.slots → (hold me.0 i).number ≢ 0
      → Allows (Rule A key) slots id me (z.slots + z.bans + i + 1) (λ n. bit_and n k) (λ n m'. after_untrack (step slots (z.slots + z.bans + i + 1) k 0 none) me n m' × Turned (step slots (z.slots + z.bans + i + 1) k 0 none) me m' n (bit_and n k) [])
  untracks_turn i k wide full = let x : ℕ = z.slots + z.bans + i + 1 in turns A z key same slots id me x (λ n. bit_and n k) (after_untrack (step slots x k 0 none) me) (λ _. []) size
      (λ s ok there. let y : ℕ = bit_and (get_or s.words x 0) k in same_follows z s.words (set s.words x y) [] tt (λ q l. get_or-set_other s.words x (q + 1) y 0 (λ e. omega arith)) (λ j l. get_or-set_other s.words x (z.slots + j + 1) y 0 (λ e. omega arith)))
      (λ s ok there name. let y : ℕ = bit_and (get_or s.words x 0) k in stays_named A z s.words (set s.words x y) name (λ q l. inr (get_or-set_other s.words x (q + 1) y 0 (λ e. omega arith))) (λ j l. inr (get_or-set_other s.words x (z.slots + j + 1) y 0 (λ e. omega arith)))
      (λ q l. dite (ℕ_discrete q i)
      (λ e. let wide = ok.1.wide in inl (subst (λ (n : ℕ). n < 65536) (sym (ap (mask z (set s.words x y)) e ∙ get_or-set_same s.words x y 0 (omega arith))) (let low = and_le_l (get_or s.words x 0) k in let old : get_or s.words x 0 < 65536 = subst (λ (b : ℕ). mask z s.words b < 65536) e (name.masks q l) in omega arith)))
      (λ e. inr (get_or-set_other s.words x (z.slots + z.bans + q + 1) y 0 (λ f. e (omega arith))))))
      (untracks z slots id me i k lead bare wide full size)
