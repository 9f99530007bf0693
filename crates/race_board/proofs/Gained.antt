-- The facts of one call, over a further step.
use Rattle.std.proofs.Common.{◌≡◌, ◌≢◌, ℕ, ◌+◌, ◌<◌, List, [], ◌∷◌, ◌++◌, length, get_or, set, sym, refl, ap, ◌∙◌, subst, arith, append_assoc, length-append, get_or-set_other, get_or-set_same}
use mathlib.Core.Logic.{dite}
use native.Mathlib.Decide.{ℕ_discrete}
use lib.ListN.{get_elem?}
use Rattle.atomic_table.proofs.Lists.{at_longer, at_last}
use Rattle.race_board.specs.Words.{number, parent}
use Rattle.race_board.specs.Board.{hold, no_hold}
use Rattle.race_board.specs.Steps.{did, noted, took}
use Rattle.race_board.specs.Calls.{Longer, Saw, Wrote, OnlySteps, SawFull, TakesAt, ticket}
use Rattle.race_board.specs.declared.views.Did.{Did}
use Rattle.race_board.specs.declared.views.Hold.{Hold}
use Rattle.race_board.specs.declared.views.View.{View}

pub longer_same : (v : View) → Longer v v
longer_same v = ([], sym (nil_right v.steps))
  where
    nil_right : (l : List Did) → l ++ [] ≡ l
    nil_right [] = refl
    nil_right (x ∷ xs) = ap (λ (y : List Did). x ∷ y) (nil_right xs)

-- w has the steps of u and one more
pub longer_more : (v u w : View) (d : Did) → Longer v u → w.steps ≡ u.steps ++ d ∷ [] → Longer v w
longer_more v u w d (gained, e) f = (gained ++ d ∷ [], f ∙ (ap (λ (l : List Did). l ++ d ∷ []) e ∙ append_assoc v.steps gained (d ∷ [])))

pub saw_more : (v u w : View) (d : Did) (x n : ℕ) → w.steps ≡ u.steps ++ d ∷ [] → Saw v u x n → Saw v w x n
saw_more v u w d x n f s = record { turn = s.turn; of_this_call = s.of_this_call; left = s.left; there = ap (λ (l : List Did). get_elem? l s.turn) f ∙ at_longer u.steps (d ∷ []) s.turn (did x n s.left) s.there }

pub saw_now : (v u w : View) (x n left : ℕ) → Longer v u → w.steps ≡ u.steps ++ did x n left ∷ [] → Saw v w x n
saw_now v u w x n left (gained, e) f = record {
  turn = length u.steps;
  of_this_call = (let a = length-append v.steps gained in let b = ap length e in omega arith);
  left = left;
  there = ap (λ (l : List Did). get_elem? l (length u.steps)) f ∙ at_last u.steps (did x n left) (length u.steps) refl;
}

pub only_more : (v u w : View) (d : Did) → OnlySteps v u → w ≡ noted u d → OnlySteps v w
only_more v u w d only e = e ∙ (ap (λ (q : View). let r : View = record q { steps = u.steps ++ d ∷ [] } in r) only ∙ (λ i. let r : View = record v { steps = (sym (ap (λ (q : View). q.steps) e)) i } in r))

pub full_more : (v u w : View) (i n : ℕ) → Longer v u → SawFull v u i → n ≢ 0 → w ≡ noted u (did (i + 1) n n) → SawFull v w (i + 1)
full_more v u w i n long full taken e k l = dite (ℕ_discrete k i)
    (λ f. (n, subst (λ (q : ℕ). Saw v w (q + 1) n) (sym f) (saw_now v u w (i + 1) n n long (ap (λ (q : View). q.steps) e)), taken))
    (λ f. let t = full k (omega arith) in (t.0, saw_more v u w (did (i + 1) n n) (k + 1) t.0 (ap (λ (q : View). q.steps) e) t.1, t.2))

pub takes_at : (v u w : View) (i y : ℕ) → OnlySteps v u → Longer v u → i < v.size.slots → w ≡ noted (took u i y) (did (i + 1) 0 y) → (hold u i).number ≡ 0 → TakesAt v w i (number y) (parent y)
takes_at v u w i y only long inside e free = let steps : w.steps ≡ u.steps ++ did (i + 1) 0 y ∷ [] = ap (λ (q : View). q.steps) e in (
  inside,
  saw_now v u w (i + 1) 0 y long steps,
  e ∙ (ap (λ (q : View). noted (took q i y) (did (i + 1) 0 y)) only
      ∙ (λ k. let r : View = record v { steps = sym steps k; drawn = 0; held = set v.held i (ticket (number y) (parent y)) } in r)),
  sym (ap (λ (q : View). (hold q i).number) only) ∙ free,
)

-- the plain words of a seat's tickets, where the slot i gets the word x and the ticket h
pub tickets_set : (ws : List ℕ) (hs : List Hold) (i x : ℕ) (h : Hold) → i < length ws → i < length hs → number x ≡ h.number → parent x ≡ h.parent
    → ((k : ℕ) → (number (get_or ws k 0) ≡ (get_or hs k no_hold).number) × (parent (get_or ws k 0) ≡ (get_or hs k no_hold).parent))
    → (k : ℕ) → (number (get_or (set ws i x) k 0) ≡ (get_or (set hs i h) k no_hold).number) × (parent (get_or (set ws i x) k 0) ≡ (get_or (set hs i h) k no_hold).parent)
tickets_set ws hs i x h a b n p same k = dite (ℕ_discrete k i)
    (λ e. let f : get_or (set ws i x) k 0 ≡ x = ap (λ (q : ℕ). get_or (set ws i x) q 0) e ∙ get_or-set_same ws i x 0 a in let g : get_or (set hs i h) k no_hold ≡ h = ap (λ (q : ℕ). get_or (set hs i h) q no_hold) e ∙ get_or-set_same hs i h no_hold b in
    (ap number f ∙ (n ∙ sym (ap (λ (q : Hold). q.number) g)), ap parent f ∙ (p ∙ sym (ap (λ (q : Hold). q.parent) g))))
    (λ e. let f = get_or-set_other ws i k x 0 e in let g = get_or-set_other hs i k h no_hold e in
    (ap number f ∙ ((same k).0 ∙ sym (ap (λ (q : Hold). q.number) g)), ap parent f ∙ ((same k).1 ∙ sym (ap (λ (q : Hold). q.parent) g))))

pub longer_trans : (v u w : View) → Longer v u → Longer u w → Longer v w
longer_trans v u w (a, e) (b, f) = (a ++ b, f ∙ (ap (λ (l : List Did). l ++ b) e ∙ append_assoc v.steps a b))

-- the tickets of a seat have numbers of their own
abbrev pub Distinct : List Hold → Type 0
Distinct hs = (i j : ℕ) → (get_or hs i no_hold).number ≢ 0 → (get_or hs i no_hold).number ≡ (get_or hs j no_hold).number → i ≡ j

pub distinct_set : (hs : List Hold) (i : ℕ) (h : Hold) → i < length hs → Distinct hs → ((k : ℕ) → k ≢ i → (get_or hs k no_hold).number ≢ 0 → (get_or hs k no_hold).number ≢ h.number) → Distinct (set hs i h)
distinct_set hs i h l distinct others a b some_number same = dite (ℕ_discrete a i)
    (λ e. dite (ℕ_discrete b i) (λ f. e ∙ sym f)
    (λ f. let p = at_i a e in let q = get_or-set_other hs i b h no_hold f in let n : (get_or hs b no_hold).number ≡ h.number = sym (ap (λ (x : Hold). x.number) q) ∙ (sym same ∙ ap (λ (x : Hold). x.number) p) in
    absurd (others b f (λ g. some_number (same ∙ (ap (λ (x : Hold). x.number) q ∙ g))) n)))
    (λ e. let q = get_or-set_other hs i a h no_hold e in dite (ℕ_discrete b i)
    (λ f. absurd (others a e (λ g. some_number (ap (λ (x : Hold). x.number) q ∙ g)) (sym (ap (λ (x : Hold). x.number) q) ∙ (same ∙ ap (λ (x : Hold). x.number) (at_i b f)))))
    (λ f. distinct a b (λ g. some_number (ap (λ (x : Hold). x.number) q ∙ g)) (sym (ap (λ (x : Hold). x.number) q) ∙ (same ∙ ap (λ (x : Hold). x.number) (get_or-set_other hs i b h no_hold f)))))
  where
    at_i : (k : ℕ) → k ≡ i → get_or (set hs i h) k no_hold ≡ h
    at_i k e = ap (λ (q : ℕ). get_or (set hs i h) q no_hold) e ∙ get_or-set_same hs i h no_hold l

-- no ticket waits for a look
pub calm_set : (hs : List Hold) (i : ℕ) (h : Hold) → i < length hs → h.seek ≡ 0 → ((k : ℕ) → (get_or hs k no_hold).seek ≡ 0) → (k : ℕ) → (get_or (set hs i h) k no_hold).seek ≡ 0
calm_set hs i h l free all k = dite (ℕ_discrete k i)
    (λ e. ap (λ (q : ℕ). (get_or (set hs i h) q no_hold).seek) e ∙ (ap (λ (x : Hold). x.seek) (get_or-set_same hs i h no_hold l) ∙ free))
    (λ e. ap (λ (x : Hold). x.seek) (get_or-set_other hs i k h no_hold e) ∙ all k)

pub saw_longer : (v u w : View) (x n : ℕ) → Longer u w → Saw v u x n → Saw v w x n
saw_longer v u w x n long s = record { turn = s.turn; of_this_call = s.of_this_call; left = s.left; there = ap (λ (l : List Did). get_elem? l s.turn) long.1 ∙ at_longer u.steps long.0 s.turn (did x n s.left) s.there }

pub saw_later : (v u w : View) (x n : ℕ) → Longer v u → Saw u w x n → Saw v w x n
saw_later v u w x n long s = record { turn = s.turn; of_this_call = (let a = s.of_this_call in let b = ap length long.1 in let d = length-append v.steps long.0 in omega arith); left = s.left; there = s.there }

pub wrote_later : (v u w : View) (x n y : ℕ) → Longer v u → Wrote u w x n y → Wrote v w x n y
wrote_later v u w x n y long wrote = (wrote.0, (let a = wrote.1 in let b = ap length long.1 in let d = length-append v.steps long.0 in omega arith), wrote.2)

pub wrote_longer : (v u w : View) (x n y : ℕ) → Longer u w → Wrote v u x n y → Wrote v w x n y
wrote_longer v u w x n y long wrote = (wrote.0, wrote.1, ap (λ (l : List Did). get_elem? l wrote.0) long.1 ∙ at_longer u.steps long.0 wrote.0 (did x n y) wrote.2)

pub wrote_now : (v w : View) (x n y : ℕ) → w.steps ≡ v.steps ++ did x n y ∷ [] → Wrote v w x n y
wrote_now v w x n y e = (length v.steps, omega arith, ap (λ (l : List Did). get_elem? l (length v.steps)) e ∙ at_last v.steps (did x n y) (length v.steps) refl)
