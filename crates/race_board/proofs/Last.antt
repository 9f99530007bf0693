-- What is left at the last moment of a board.
use Rattle.std.proofs.Common.{◌≡◌, ◌≢◌, ℕ, zero, suc, ◌+◌, ◌<◌, ◌≤◌, Bool, false, not, cond, eqb, eq-eqb, ne_eqb, List, [], ◌∷◌, length, take, drop, get_or, count_by, sym, refl, ap, ◌∙◌, ⊎_elim, arith, length-take}
use mathlib.Core.Logic.{dite}
use mathlib.Core.Option.{some, some-injective, some-ne-none}
use native.Mathlib.Decide.{ℕ_discrete, dec_lt}
use lib.ListN.{get_elem?}
use Rattle.std.proofs.lemmas.List.{get_or-take, get_or-drop, get_or_past}
use Rattle.std.proofs.lemmas.Grind.{get_or_after_one}
use Rattle.std.proofs.lemmas.List.Sums.{sum_by-cons}
use Rattle.race_board.specs.Words.{number, ban_word}
use Rattle.race_board.specs.Board.{hold, ban, no_hold, no_ban, task, gone_count, Left, is_out, BoardAt, BoardOk}
use Rattle.race_board.specs.Closing.{is_banned, bans_out, is_taken, tasks_left, bans_left, Last}
use Rattle.race_board.specs.Theorem.{Moment, Sits}
use Rattle.race_board.specs.declared.views.Size.{Size}
use Rattle.race_board.specs.declared.views.Hold.{Hold}
use Rattle.race_board.specs.declared.views.View.{View}
use Rattle.race_board.proofs.Parts.{zero_number, ban_none, ban_some}
use Rattle.race_board.proofs.Controls.{as_first}
use Rattle.race_board.proofs.Moments.{moment}

abbrev one_if : Bool → ℕ
one_if b = cond b 1 0

count_cons : {A : Type 0} (f : A → Bool) (x : A) (l : List A) → count_by f (x ∷ l) ≡ one_if (f x) + count_by f l
count_cons {A} f x l = sum_by-cons (λ (k : A). one_if (f k)) x l

-- two lists of which the same places pass, where no place beyond their ends does
same_count : {A B : Type 0} (f : A → Bool) (g : B → Bool) (d : A) (e : B) → f d ≡ false → g e ≡ false → (xs : List A) (ys : List B) → ((i : ℕ) → f (get_or xs i d) ≡ g (get_or ys i e)) → count_by f xs ≡ count_by g ys
same_count f g d e p q [] [] h = refl
same_count f g d e p q [] (y ∷ ys) h = let one : one_if (g y) ≡ 0 = ap one_if (sym (h 0) ∙ p) in let rest = same_count f g d e p q [] ys (λ i. h (suc i)) in let all = count_cons g y ys in omega arith
same_count f g d e p q (x ∷ xs) [] h = let one : one_if (f x) ≡ 0 = ap one_if (h 0 ∙ q) in let rest = same_count f g d e p q xs [] (λ i. h (suc i)) in let all = count_cons f x xs in omega arith
same_count f g d e p q (x ∷ xs) (y ∷ ys) h = let rest = same_count f g d e p q xs ys (λ i. h (suc i)) in let one : one_if (f x) ≡ one_if (g y) = ap one_if (h 0) in let a = count_cons f x xs in let b = count_cons g y ys in omega arith

same_test : (a b : ℕ) → (a ≡ 0 → b ≡ 0) → (b ≡ 0 → a ≡ 0) → not (eqb a 0) ≡ not (eqb b 0)
same_test a b there back = dite (ℕ_discrete a 0) (λ e. ap not (eq-eqb a 0 e ∙ sym (eq-eqb b 0 (there e)))) (λ n. ap not (ne_eqb a 0 n ∙ sym (ne_eqb b 0 (λ e. n (back e)))))

taken_from : (n m : ℕ) (ws : List ℕ) (i : ℕ) → i < n → get_or (take n (drop m ws)) i 0 ≡ get_or ws (m + i) 0
taken_from n m ws i l = get_or-take n (drop m ws) i 0 l ∙ get_or-drop m ws i 0

taken_past : (n : ℕ) (ws : List ℕ) (i : ℕ) → n ≤ i → get_or (take n ws) i 0 ≡ 0
taken_past n ws i l = get_or_past (take n ws) i 0 (let e = length-take n ws in omega arith)

gone_most : (l : List View) → ((k : ℕ) (u : View) → get_elem? l k ≡ some u → Left u) → gone_count l ≤ length l
gone_most [] h = omega arith
gone_most (x ∷ xs) h = let few = gone_most xs (λ k u e. h (suc k) u e) in ⊎_elim (λ (e : x.gone ≡ 0). omega arith) (λ (e : (x.gone ≡ 1) × (x.held ≡ [])). let a = e.0 in omega arith) (h 0 x refl)

all_gone : (l : List View) → ((k : ℕ) (u : View) → get_elem? l k ≡ some u → Left u) → gone_count l ≡ length l → (k : ℕ) (u : View) → get_elem? l k ≡ some u → u.gone ≡ 1
all_gone [] h all k u e = absurd (some-ne-none u (sym e))
all_gone (x ∷ xs) h all zero u e = let few = gone_most xs (λ k u e. h (suc k) u e) in let same : x.gone ≡ u.gone = ap (λ (y : View). y.gone) (some-injective x u e) in
    ⊎_elim (λ (f : x.gone ≡ 0). absurd (omega arith)) (λ (f : (x.gone ≡ 1) × (x.held ≡ [])). sym same ∙ f.0) (h 0 x refl)
all_gone (x ∷ xs) h all (suc k) u e = all_gone xs (λ k u e. h (suc k) u e) (let few = gone_most xs (λ k u e. h (suc k) u e) in ⊎_elim (λ (f : x.gone ≡ 0). absurd (omega arith)) (λ (f : (x.gone ≡ 1) × (x.held ≡ [])). let a = f.0 in let b : gone_count xs ≡ length xs = omega arith in b) (h 0 x refl)) k u e

others_gone : (l : List View) (c : View) → get_elem? l 0 ≡ some c → c.gone ≡ 0 → ((k : ℕ) (u : View) → get_elem? l k ≡ some u → Left u) → gone_count l + 1 ≡ length l → (k : ℕ) (u : View) → get_elem? l k ≡ some u → k ≢ 0 → u.gone ≡ 1
others_gone [] c first stays h all k u e n = absurd (some-ne-none u (sym e))
others_gone (x ∷ xs) c first stays h all zero u e n = absurd (n refl)
others_gone (x ∷ xs) c first stays h all (suc k) u e n = let same : x.gone ≡ c.gone = ap (λ (y : View). y.gone) (some-injective x c first) in all_gone xs (λ k u e. h (suc k) u e) (omega arith) k u e

module _ (z : Size) (s : Moment) (v : View) (r : BoardAt z v s) (joined : v.joined ≡ z.seats) (dealt : v.to_deal ≡ 0) (sized : length v.bans ≡ z.bans) where
  alone : (k : ℕ) (u : View) → Sits s k u → k ≢ 0 → u.gone ≡ 1
  alone = others_gone s.views v r.first r.joins.1 (λ k u e. (r.seats k u e).left) (let a = r.dealt in let b = r.joins.0 in omega arith)

  -- only the control seat has tickets now
  only : (k i : ℕ) (u : View) → Sits s k u → (hold u i).number ≢ 0 → k ≡ 0
  only k i u there n = dite (ℕ_discrete k 0) (λ e. e) (λ f. ⊎_elim (λ (e : u.gone ≡ 0). let one = alone k u there f in absurd (omega arith)) (λ (e : (u.gone ≡ 1) × (u.held ≡ [])). absurd (n (ap (λ (hs : List Hold). (get_or hs i no_hold).number) e.1))) (r.seats k u there).left)

  task_there : (i : ℕ) → (hold v i).number ≢ 0 → (i < z.slots) × (task s.words i ≢ 0)
  task_there i n = let h = (r.seats 0 v r.first).holds i n in (h.inside, λ e. n (sym h.is ∙ (ap number e ∙ zero_number)))

  ticket_there : (i : ℕ) → i < z.slots → task s.words i ≢ 0 → (hold v i).number ≢ 0
  ticket_there i l n e = let t = r.tasks i l n in let first = only (r.owner i) i t.view t.seated (λ f. t.named (t.is ∙ f)) in
      t.named (t.is ∙ (ap (λ (u : View). (hold u i).number) (some-injective t.view v (sym t.seated ∙ (ap (get_elem? s.views) first ∙ r.first))) ∙ e))

  tasks : tasks_left z s.words ≡ v.taken
  tasks = same_count is_taken is_out 0 no_hold refl refl (take z.slots (drop 1 s.words)) v.held same ∙ r.taken
    where
      same : (i : ℕ) → is_taken (get_or (take z.slots (drop 1 s.words)) i 0) ≡ is_out (hold v i)
      same i = elim (dec_lt i z.slots) [
        | yes l ↦ ap is_taken (get_or-take z.slots (drop 1 s.words) i 0 l ∙ (get_or_after_one s.words i 0 ∙ ap (λ (k : ℕ). get_or s.words k 0) (let e : 1 + i ≡ i + 1 = omega arith in e)))
            ∙ same_test (task s.words i) (hold v i).number (λ e. dite (ℕ_discrete (hold v i).number 0) (λ f. f) (λ f. absurd ((task_there i f).1 e))) (λ e. dite (ℕ_discrete (task s.words i) 0) (λ f. f) (λ f. absurd (ticket_there i l f e)))
        | no m ↦ ap is_taken (taken_past z.slots (drop 1 s.words) i (omega arith)) ∙ same_test 0 (hold v i).number (λ _. dite (ℕ_discrete (hold v i).number 0) (λ f. f) (λ f. absurd (m (task_there i f).0))) (λ _. refl)
      ]

  bans : bans_left z s.words ≡ bans_out v
  bans = same_count is_taken is_banned 0 no_ban refl refl (take z.bans (drop (z.slots + 1) s.words)) v.bans same
    where
      same : (j : ℕ) → is_taken (get_or (take z.bans (drop (z.slots + 1) s.words)) j 0) ≡ is_banned (ban v j)
      same j = elim (dec_lt j z.bans) [
        | yes l ↦ (let b = r.bans j l in ap is_taken (taken_from z.bans (z.slots + 1) s.words j l ∙ (ap (λ (k : ℕ). get_or s.words k 0) (let e : z.slots + 1 + j ≡ z.slots + j + 1 = omega arith in e) ∙ b.stands))
            ∙ same_test (ban_word (ban v j).parent (ban v j).cancel) (ban v j).parent (λ e. dite (ℕ_discrete (ban v j).parent 0) (λ f. f) (λ f. absurd (ban_some (ban v j).parent (ban v j).cancel f e))) (λ e. ban_none (ban v j).parent (ban v j).cancel e (b.none_yet e)))
        | no m ↦ ap is_taken (taken_past z.bans (drop (z.slots + 1) s.words) j (omega arith)) ∙ ap is_banned (sym (get_or_past v.bans j no_ban (omega arith)))
      ]

pub last : (z : Size) (s : Moment) (id : ℕ) (v : View) → v.lead ≡ 1 → BoardOk z s → get_elem? s.views id ≡ some v → v.joined ≡ z.seats → v.to_deal ≡ 0 → length v.bans ≡ z.bans → Last z v.taken (bans_out v)
last z s id v lead (c, q) there joined dealt sized = let first : id ≡ 0 = (q.seats id v there).leads (λ e. absurd (omega arith)) in let r = as_first z s v (c, q) (ap (get_elem? s.views) (sym first) ∙ there) in
    record { moment = s; holds = moment z s (c, q); joined = alone z s v r joined dealt sized; tasks = tasks z s v r joined dealt sized; bans = bans z s v r joined dealt sized }
