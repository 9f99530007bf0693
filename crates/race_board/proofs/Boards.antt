-- What a step leaves as it was.
use Rattle.std.proofs.Common.{◌≡◌, ◌≢◌, ℕ, zero, suc, ◌+◌, ◌*◌, ◌<◌, ◌≤◌, List, [], ◌∷◌, length, set, sym, refl, ap, ◌∙◌, subst, ⊎_elim, inl, inr, arith}
use mathlib.Core.Logic.{dite}
use mathlib.Core.Option.{some, some-injective, some-ne-none}
use native.Mathlib.Decide.{ℕ_discrete}
use lib.ListN.{get_elem?}
use Rattle.atomic_table.proofs.Lists.{at_set, set_else}
use Rattle.race_board.specs.declared.views.Size.{Size}
use Rattle.race_board.specs.declared.views.Hold.{Hold}
use Rattle.race_board.specs.declared.views.Ban.{Ban}
use Rattle.race_board.specs.declared.views.View.{View}
use Rattle.std.specs.Int.{bit_at}
use Rattle.race_board.specs.Words.{number, parent, cancel}
use Rattle.race_board.specs.Board.{hold, ban, task, mask, In, told_count, gone_count, Left, Late, HoldOk, SeatOk, WordOk}

abbrev pick : {P : Type 0} → Dec P → ℕ → ℕ → ℕ
pick (yes _) a b = a
pick (no _) a b = b

pub put : (ℕ → ℕ) → ℕ → ℕ → ℕ → ℕ
put f i c j = pick (ℕ_discrete j i) c (f j)

pub put_here : (f : ℕ → ℕ) (i c : ℕ) → put f i c i ≡ c
unfolding put
put_here f i c = go (ℕ_discrete i i)
  where
    go : (d : Dec (i ≡ i)) → pick d c (f i) ≡ c
    go (yes _) = refl
    go (no n) = absurd (n refl)

pub put_else : (f : ℕ → ℕ) (i c j : ℕ) → j ≢ i → put f i c j ≡ f j
unfolding put
put_else f i c j other = go (ℕ_discrete j i)
  where
    go : (d : Dec (j ≡ i)) → pick d c (f j) ≡ f j
    go (yes e) = absurd (other e)
    go (no _) = refl

pub told-set : (l : List View) (i : ℕ) (v w : View) → get_elem? l i ≡ some v → told_count (set l i w) + v.told ≡ told_count l + w.told
told-set [] i v w e = absurd (some-ne-none v (sym e))
told-set (x ∷ xs) zero v w e = let is : x.told ≡ v.told = ap (λ (m : View). m.told) (some-injective x v e) in omega arith
told-set (x ∷ xs) (suc i) v w e = let r = told-set xs i v w e in omega arith

pub gone-set : (l : List View) (i : ℕ) (v w : View) → get_elem? l i ≡ some v → gone_count (set l i w) + v.gone ≡ gone_count l + w.gone
gone-set [] i v w e = absurd (some-ne-none v (sym e))
gone-set (x ∷ xs) zero v w e = let is : x.gone ≡ v.gone = ap (λ (m : View). m.gone) (some-injective x v e) in omega arith
gone-set (x ∷ xs) (suc i) v w e = let r = gone-set xs i v w e in omega arith

pub told-most : (l : List View) → ((k : ℕ) (v : View) → get_elem? l k ≡ some v → v.told < 2) → told_count l ≤ length l
told-most [] h = omega arith
told-most (x ∷ xs) h = let a = h 0 x refl in let r = told-most xs (λ k v e. h (suc k) v e) in omega arith

-- the seat that stepped has its new view
pub placed : (l : List View) (k : ℕ) (v w : View) → get_elem? l k ≡ some v → get_elem? (set l k w) k ≡ some w
placed [] k v w e = absurd (some-ne-none v (sym e))
placed (x ∷ xs) zero v w e = refl
placed (x ∷ xs) (suc k) v w e = placed xs k v w e

-- a fact of each seat, where the seat id has the new view w
pub each : (K : ℕ → View → Type 0) (vs : List View) (id : ℕ) (w : View) → K id w → ((k : ℕ) (u : View) → k ≢ id → get_elem? vs k ≡ some u → K k u)
    → (k : ℕ) (u : View) → get_elem? (set vs id w) k ≡ some u → K k u
each K vs id w mine others k u e = ⊎_elim (λ (t : (k ≡ id) × (w ≡ u)). subst (λ (x : ℕ × View). K x.0 x.1) (λ i. (sym t.0 i, t.1 i)) mine)
    (λ (t : (k ≢ id) × (get_elem? vs k ≡ some u)). others k u t.0 t.1) (at_set vs id k w u e)

pub left_same : (v w : View) → w.gone ≡ v.gone → (v.held ≡ [] → w.held ≡ []) → Left v → Left w
left_same v w gone held l = ⊎_elim (λ (e : v.gone ≡ 0). inl (gone ∙ e)) (λ (e : (v.gone ≡ 1) × (v.held ≡ [])). inr (gone ∙ e.0, held e.1)) l

-- the same where the ticket of one slot changes
pub left_set : (v w : View) (i : ℕ) (h : Hold) → w.gone ≡ v.gone → w.held ≡ set v.held i h → Left v → Left w
left_set v w i h gone held l = left_same v w gone (λ e. held ∙ ap (λ (hs : List Hold). set hs i h) e) l

pub same_late : (z : Size) (c c' : View) (ws ws' : List ℕ) (i j : ℕ) → task ws' i ≡ task ws i → ban c' j ≡ ban c j → (c.about ≡ i + 1 → c.loaded ≢ task ws i) → Late z c' ws' i j → Late z c ws i j
same_late z c c' ws ws' i j e b unseen l = record {
  stands = λ n. l.stands (ap (λ (x : Ban). x.parent) b ∙ n);
  known = l.known;
  passed = subst (λ (x : Ban). i < x.next) b l.passed;
  child = sym (ap parent e) ∙ (l.child ∙ ap (λ (x : Ban). x.parent) b);
  unmarked = sym (ap cancel e) ∙ l.unmarked;
  unseen = unseen;
}

module _ (z : Size) (c : View) (owner owner' : ℕ → ℕ) (ws ws' : List ℕ) where
  -- a ticket whose slot a step does not touch
  pub hold_stays : (k i : ℕ) (h : Hold) → owner' i ≡ owner i → task ws' i ≡ task ws i → mask z ws' i ≡ mask z ws i → HoldOk z c owner ws k i h → HoldOk z c owner' ws' k i h
  hold_stays k i h o t m ok = record {
    inside = ok.inside;
    owned = o ∙ ok.owned;
    is = ap number t ∙ ok.is;
    child_of = ap parent t ∙ ok.child_of;
    race = λ j l. ok.race j (same_late z c c ws ws' i j t refl (λ e f. l.unseen e (f ∙ sym t)) l);
    masked = λ x a. ap (λ (n : ℕ). bit_at n x) m ∙ ok.masked x a;
    caught = ok.caught;
    halfway = λ x a n b. ok.halfway x a (λ e. n (ap cancel t ∙ e)) b;
  }

module _ (z : Size) (c : View) (owner at owner' at' : ℕ → ℕ) (ws ws' : List ℕ) where
  -- another seat's facts, where only the seat id's slots change
  pub other_seat : (id k : ℕ) (u : View) → k ≢ id → ((n : ℕ) → at n ≡ 2 * k + 2 → at' n ≡ 2 * k + 2)
      → ((i : ℕ) → i < z.slots → owner i ≢ id → number (task ws i) ≢ 0 → (owner' i ≡ owner i) × (task ws' i ≡ task ws i) × (mask z ws' i ≡ mask z ws i)) → SeatOk z c owner at ws k u → SeatOk z c owner' at' ws' k u
  other_seat id k u other drawn kept ok = record {
    once = ok.once;
    leads = ok.leads;
    unused = λ d. (drawn u.drawn (ok.unused d).0, (ok.unused d).1);
    holds = λ i n. let h = ok.holds i n in let t = kept i h.inside (λ e. other (sym h.owned ∙ e)) (λ e. n (sym h.is ∙ e)) in hold_stays z c owner owner' ws ws' k i (hold u i) t.0 t.1 t.2 h;
    left = ok.left;
  }

  -- a word that stays, and the seat that holds it
  pub same_word : (vs : List View) (id : ℕ) (v w : View) (i : ℕ) → get_elem? vs id ≡ some v → owner' i ≡ owner i → task ws' i ≡ task ws i → at' (number (task ws i)) ≡ at (number (task ws i))
      → (hold w i).number ≡ (hold v i).number → WordOk c owner at ws vs i → WordOk c owner' at' ws' (set vs id w) i
  same_word vs id v w i there o t a h ok = record {
    stands = ap (λ (x : ℕ). at' (number x)) t ∙ (a ∙ ok.stands);
    view = seen.0;
    seated = ap (get_elem? (set vs id w)) o ∙ seen.1;
    is = ap number t ∙ (ok.is ∙ seen.2);
    named = λ e. ok.named (sym (ap number t) ∙ e);
    marked = λ n. subst (λ (x : ℕ). In (number x) c.marked) (sym t) (ok.marked (λ e. n (ap cancel t ∙ e)));
    unmarked = λ e m. ok.unmarked (sym (ap cancel t) ∙ e) (subst (λ (x : ℕ). In (number x) c.marked) t m);
    latest = λ n. ok.latest (λ e. n (ap cancel t ∙ e)) ∙ sym (ap number t);
  }
    where
      seen : (u : View) × (get_elem? (set vs id w) (owner i) ≡ some u) × ((hold ok.view i).number ≡ (hold u i).number)
      seen = dite (ℕ_discrete (owner i) id)
          (λ e. (w, ap (get_elem? (set vs id w)) e ∙ placed vs id v w there, ap (λ (x : View). (hold x i).number) (some-injective ok.view v (sym ok.seated ∙ (ap (get_elem? vs) e ∙ there))) ∙ sym h))
          (λ n. (ok.view, set_else vs id (owner i) w n ∙ ok.seated, refl))
