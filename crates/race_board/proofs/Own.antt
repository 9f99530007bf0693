-- What holds of the view that the control seat has.
use Rattle.std.proofs.Common.{◌≡◌, ◌≢◌, ℕ, zero, suc, ◌+◌, ◌<◌, List, [], ◌∷◌, ◌++◌, length, replicate, refl, get_or, set, slice_index, sym, ap, ◌∙◌, subst, inl, inr, arith, get_or-set_same, get_or-set_other}
use mathlib.Core.Logic.{dite}
use native.Mathlib.Decide.{ℕ_discrete}
use lib.Seq.{set-get_or}
use Rattle.race_board.specs.Words.{number, cancel}
use Rattle.race_board.specs.Board.{hold, task, In, Has, Lasts, Late}
use Rattle.race_board.specs.Events.{Event}
use Rattle.race_board.specs.Own.{IsAt, IsListed, StopsAll, HasCleared}
use Rattle.race_board.specs.Theorem.{Moment, Sits, Against, Asked}
use Rattle.race_board.specs.Turn.{Turn}
use Rattle.race_board.specs.declared.views.Size.{Size}
use Rattle.race_board.specs.declared.views.View.{View}
use Rattle.race_board.proofs.Controls.{in_front, in_last}
use Rattle.race_board.proofs.Parts.{zero_cancel}

module _ (z : Size) (v : View) (s : Moment) (at : IsAt z v s) (lead : v.lead ≢ 0) where
  own : at.holds.control ≡ v
  own = sym (at.holds.leads at.seat v at.sits lead)

  against : Against z s v
  against = subst (Against z s) own at.holds.against

  asked : Asked z s v
  asked = subst (Asked z s) own at.holds.asked

  pub stops_all : (j : ℕ) → IsListed z v j → StopsAll z s v j
  stops_all j listed i l child = dite (ℕ_discrete (cancel (task s.words i)) 0)
      (λ e. let t = against.told i j l (late e) in inr (t.0, t.1, t.2, sym t.3, t.4))
      (λ n. inl n)
    where
      late : cancel (task s.words i) ≡ 0 → Late z v s.words i j
      late e = record { stands = listed.1; known = listed.0; passed = subst (λ (n : ℕ). i < n) (sym listed.2) l; child = child; unmarked = e; unseen = λ f. let idle = listed.3 in absurd (omega arith) }

  pub cleared_in : (n nodes : ℕ) → Has n nodes v.masks → HasCleared n nodes s
  cleared_in n nodes has k i x u there some is bit = asked.caught k i n nodes x u there some is has bit

  -- a live task that was marked was marked last in its slot
  last_of : (n k i : ℕ) (u : View) → In n v.marked → Sits s k u → (hold u i).number ≢ 0 → (hold u i).number ≡ n → (slice_index v.last i ≡ n) × (i < z.slots) × (task s.words i ≢ 0) × (number (task s.words i) ≡ n)
  last_of n k i u known there some is = let live = at.holds.held.live k i u there some in let here : number (task s.words i) ≡ n = live.2 ∙ is in
      (asked.latest i live.0 (λ e. (asked.marked i live.0 live.1).1 e (subst (λ (q : ℕ). In q v.marked) (sym here) known)) ∙ here, live.0, live.1, here)

  -- the task that was marked last in the slot i is not there any more
  pub gone_from : (n i : ℕ) → Lasts v → In n v.marked → slice_index v.last i ≡ n → (task s.words i ≢ 0 → number (task s.words i) ≢ n) → HasCleared n 0 s
  gone_from n i lasts known at_i other k q x u there some is bit = let l = last_of n k q u known there some is in
      let same : q ≡ i = lasts.apart q i (λ e. some (is ∙ (sym l.0 ∙ e))) (l.0 ∙ sym at_i) in
      absurd (subst (λ (p : ℕ). task s.words p ≢ 0 → number (task s.words p) ≢ n) (sym same) other l.2 l.3)

  -- no slot was marked last with the task's number
  pub nowhere : (n : ℕ) → In n v.marked → ((i : ℕ) → i < z.slots → slice_index v.last i ≢ n) → HasCleared n 0 s
  nowhere n known none k q x u there some is bit = let l = last_of n k q u known there some is in absurd (none q l.1 l.0)

-- what an exchange finds without a mark was not marked before
pub unmarked_yet : (z : Size) (v w : View) (i n left : ℕ) (es : List Event) → Turn z v w (i + 1) n left es → v.lead ≢ 0 → i < z.slots → n ≢ 0 → cancel n ≡ 0 → ¬ In (number n) v.marked
unmarked_yet z v w i n left es turn lead l full free known = let s : Moment = turn.before in let at : IsAt z v s = record { seat = turn.seat; sits = turn.sits; holds = turn.holds } in
    ((asked z v s at lead).marked i l (λ e. full (sym turn.finds ∙ e))).1 (ap cancel turn.finds ∙ free) (subst (λ (q : ℕ). In (number q) v.marked) (sym turn.finds) known)

-- what is found with a mark was marked by the seat, and last of all in that slot
pub marked_here : (z : Size) (v w : View) (i n left : ℕ) (es : List Event) → Turn z v w (i + 1) n left es → v.lead ≢ 0 → i < z.slots → cancel n ≢ 0 → (number n ≢ 0) × In (number n) v.marked × (slice_index v.last i ≡ number n)
marked_here z v w i n left es turn lead l some = subst (λ (q : ℕ). (number q ≢ 0) × In (number q) v.marked × (slice_index v.last i ≡ number q)) turn.finds (named, ((asked z v s at lead).marked i l full).0 mark, (asked z v s at lead).latest i l mark)
  where
    s : Moment
    s = turn.before

    at : IsAt z v s
    at = record { seat = turn.seat; sits = turn.sits; holds = turn.holds }

    mark : cancel (task s.words i) ≢ 0
    mark e = some (sym (ap cancel turn.finds) ∙ e)

    full : task s.words i ≢ 0
    full e = mark (ap cancel e ∙ zero_cancel)

    named : number (task s.words i) ≢ 0
    named e = let h = turn.holds.held.one i l full in h.5 (h.3 ∙ e)

-- a load leaves the words as they were
pub load_leaves : (z : Size) (v w : View) (x n : ℕ) (es : List Event) → (turn : Turn z v w x n n es) → get_or turn.after.words x 0 ≡ n
load_leaves z v w x n es turn = let same : turn.after.words ≡ turn.before.words = turn.leaves ∙ ((λ k. set turn.before.words x (sym turn.finds k)) ∙ set-get_or turn.before.words x 0) in
    ap (λ (l : List ℕ). get_or l x 0) same ∙ turn.finds

pub lasts_same : (v w : View) → w.last ≡ v.last → w.marked ≡ v.marked → Lasts v → Lasts w
lasts_same v w last marked ok = record {
  marked = λ n i fresh some is. ok.marked n i (λ h. fresh (subst (In n) (sym marked) h)) (λ e. some (at_slot i ∙ e)) (sym (at_slot i) ∙ is);
  apart = λ i j some same. ok.apart i j (λ e. some (at_slot i ∙ e)) (sym (at_slot i) ∙ (same ∙ at_slot j));
}
  where
    at_slot : (i : ℕ) → slice_index w.last i ≡ slice_index v.last i
    at_slot i = ap (λ (l : List ℕ). get_or l i 0) last

-- the slot i is marked with a number that was not marked before
pub lasts_struck : (v w : View) (i n : ℕ) → i < length v.last → w.last ≡ set v.last i n → w.marked ≡ v.marked ++ n ∷ [] → ¬ In n v.marked → Lasts v → Lasts w
lasts_struck v w i n inside last marks fresh ok = lasts_same new w last marks record {
  marked = λ m a never some is. dite (ℕ_discrete a i)
      (λ e. never (subst (λ (q : ℕ). In q (v.marked ++ n ∷ [])) (sym (here a e) ∙ is) (in_last n v.marked)))
      (λ e. ok.marked m a (λ h. never (in_front m v.marked (n ∷ []) h)) (λ f. some (else_at a e ∙ f)) (sym (else_at a e) ∙ is));
  apart = λ a b some same. dite (ℕ_discrete a i)
      (λ e. dite (ℕ_discrete b i) (λ f. e ∙ sym f) (λ f. absurd (clash a b e f some same)))
      (λ e. dite (ℕ_discrete b i) (λ f. absurd (clash b a f e (λ g. some (same ∙ g)) (sym same))) (λ f. ok.apart a b (λ g. some (else_at a e ∙ g)) (sym (else_at a e) ∙ (same ∙ else_at b f))));
}
  where
    new : View
    new = record v { last = set v.last i n; marked = v.marked ++ n ∷ [] }

    here : (a : ℕ) → a ≡ i → get_or (set v.last i n) a 0 ≡ n
    here a e = ap (λ (q : ℕ). get_or (set v.last i n) q 0) e ∙ get_or-set_same v.last i n 0 inside

    else_at : (a : ℕ) → a ≢ i → get_or (set v.last i n) a 0 ≡ get_or v.last a 0
    else_at a e = get_or-set_other v.last i a n 0 e

    clash : (a b : ℕ) → a ≡ i → b ≢ i → get_or (set v.last i n) a 0 ≢ 0 → get_or (set v.last i n) a 0 ≡ get_or (set v.last i n) b 0 → ⊥
    clash a b e f some same = let g : get_or v.last b 0 ≡ n = sym (else_at b f) ∙ (sym same ∙ here a e) in
        ok.marked n b fresh (λ h. some (here a e ∙ (sym g ∙ h))) g

-- a new seat has marked nothing
pub lasts_blank : (v : View) (n : ℕ) → v.last ≡ replicate n 0 → Lasts v
lasts_blank v n e = record { marked = λ n i fresh some. absurd (some (none i)); apart = λ i j some. absurd (some (none i)) }
  where
    zeros : (n i : ℕ) → (let z : ℕ = get_or (replicate n 0) i 0 in z) ≡ 0
    zeros zero i = refl
    zeros (suc n) zero = refl
    zeros (suc n) (suc i) = zeros n i

    none : (i : ℕ) → slice_index v.last i ≡ 0
    none i = ap (λ (l : List ℕ). get_or l i 0) e ∙ zeros n i
