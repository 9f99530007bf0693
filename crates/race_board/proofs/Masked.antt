-- The two loads of a mask.
use Rattle.std.proofs.Common.{◌≡◌, ◌≢◌, ℕ, ◌+◌, List, [], ◌∷◌, ◌++◌, ◌<◌, slice_index, refl, sym, ap, ◌∙◌, subst, inl, inr}
use mathlib.Core.Logic.{dite}
use native.Mathlib.Decide.{ℕ_discrete}
use Rattle.race_board.specs.Words.{number, cancel}
use Rattle.race_board.specs.Board.{In, Has, Lasts}
use Rattle.race_board.specs.Steps.{did, noted, halved, with_mask, no_mask}
use Rattle.race_board.specs.Calls.{Longer}
use Rattle.race_board.specs.Lists.{Masks}
use Rattle.race_board.specs.Kinds.{masks}
use Rattle.race_board.specs.Own.{IsAt, AtTheEnd, HasCleared}
use Rattle.race_board.specs.Theorem.{Holds}
use Rattle.race_board.specs.Turn.{Turn}
use Rattle.race_board.specs.Walks.{Walks}
use Rattle.race_board.specs.declared.views.Size.{Size}
use Rattle.race_board.specs.declared.views.Did.{Did}
use Rattle.race_board.specs.declared.views.Mask.{Mask}
use Rattle.race_board.specs.declared.views.View.{View}
use Rattle.race_board.proofs.Doing.{on_task, on_mask}
use Rattle.race_board.proofs.Gained.{longer_same, longer_more, saw_now, saw_more}
use Rattle.race_board.proofs.Own.{cleared_in, gone_from, lasts_same, load_leaves}
use Rattle.race_board.proofs.Walking.{walk_one, walk_still, stride, stride_of, same_or_not, tale, Tells}

frame_of : (v u w : View) (i loaded : ℕ) (d : Did) → v.half ≡ 0 → u ≡ noted (halved v i loaded) d → w ≡ (let r : View = record u { steps = w.steps; half = 0; half_mask = w.half_mask; masks = w.masks } in r) → w ≡ (let r : View = record v { steps = w.steps; masks = w.masks; half_mask = w.half_mask } in r)
frame_of v u w i loaded d whole a b = b ∙ (ap (λ (q : View). let r : View = record q { steps = w.steps; half = 0; half_mask = w.half_mask; masks = w.masks } in r) a ∙ (λ k. let r : View = record v { steps = w.steps; half = (sym whole) k; half_mask = w.half_mask; masks = w.masks } in r))

after_word : (u w : View) (n : ℕ) (d : Did) → (cancel n ≢ 0 → w ≡ noted (with_mask u (number n)) d) → (cancel n ≡ 0 → w ≡ noted (no_mask u) d)
    → (w ≡ (let r : View = record u { steps = w.steps; half = 0; half_mask = w.half_mask; masks = w.masks } in r)) × (w.steps ≡ u.steps ++ d ∷ [])
after_word u w n d some none = dite (ℕ_discrete (cancel n) 0)
    (λ e. let f = none e in (f ∙ (λ k. let r : View = record u { steps = (sym (ap (λ (q : View). q.steps) f)) k; half = 0; half_mask = (sym (ap (λ (q : View). q.half_mask) f)) k; masks = (sym (ap (λ (q : View). q.masks) f)) k } in r), ap (λ (q : View). q.steps) f))
    (λ e. let f = some e in (f ∙ (λ k. let r : View = record u { steps = (sym (ap (λ (q : View). q.steps) f)) k; half = 0; half_mask = (sym (ap (λ (q : View). q.half_mask) f)) k; masks = (sym (ap (λ (q : View). q.masks) f)) k } in r), ap (λ (q : View). q.steps) f))

pub masks_then : (v u w : View) (z : Size) (n nodes i loaded seen : ℕ) → slice_index v.last i ≡ n → v.half ≡ 0 → In n v.marked
    → u ≡ noted (halved v i loaded) (did (z.slots + z.bans + i + 1) loaded loaded) → (cancel seen ≢ 0 → w ≡ noted (with_mask u (number seen)) (did (i + 1) seen seen)) → (cancel seen ≡ 0 → w ≡ noted (no_mask u) (did (i + 1) seen seen))
    → (seen ≢ 0 → In (number seen) u.marked → cancel seen ≢ 0) → (seen ≢ 0 → number seen ≡ n → nodes ≡ loaded) → ((seen ≢ 0 → number seen ≢ n) → nodes ≡ 0) → Masks v w z n nodes i
masks_then v u w z n nodes i loaded seen at whole marked a some none live bits empty = let d : Did = did (i + 1) seen seen in let t = after_word u w seen d some none in let steps : u.steps ≡ v.steps ++ did (z.slots + z.bans + i + 1) loaded loaded ∷ [] = ap (λ (q : View). q.steps) a in
    let long : Longer v u = longer_more v v u (did (z.slots + z.bans + i + 1) loaded loaded) (longer_same v) steps in record {
      slot = at;
      loaded = loaded;
      seen = seen;
      saw_mask = saw_more v u w d (z.slots + z.bans + i + 1) loaded t.1 (saw_now v v u (z.slots + z.bans + i + 1) loaded loaded (longer_same v) steps);
      saw_word = saw_now v u w (i + 1) seen seen long t.1;
      whole = λ full is. let m = live full (subst (λ (q : List ℕ). In (number seen) q) (sym (ap (λ (q : View). q.marked) a)) (subst (λ (q : ℕ). In q v.marked) (sym is) marked)) in
          (bits full is, ap (λ (q : View). q.masks) (some m) ∙ (λ k. let x : Mask = record { number = is k; nodes = (ap (λ (q : View). q.half_mask) a) k } in x ∷ (ap (λ (q : View). q.masks) a) k));
      none = empty;
      frame = frame_of v u w i loaded (did (z.slots + z.bans + i + 1) loaded loaded) whole a t.0;
    }

module _ (v u w : View) (z : Size) (i loaded seen : ℕ) where
  abbrev HalfIs : Type 0
  HalfIs = u ≡ noted (halved v i loaded) (did (z.slots + z.bans + i + 1) loaded loaded)

  abbrev WholeIs : Type 0
  WholeIs = (cancel seen ≢ 0 → w ≡ noted (with_mask u (number seen)) (did (i + 1) seen seen))

  abbrev NoneIs : Type 0
  NoneIs = (cancel seen ≡ 0 → w ≡ noted (no_mask u) (did (i + 1) seen seen))

  told : WholeIs → NoneIs → Tells u w (did (i + 1) seen seen)
  told some none = same_or_not u w (did (i + 1) seen seen) (cancel seen) 0 (λ e. ap tale (none e)) (λ e. ap tale (some e))

  -- the two loads are the steps of the call
  pub two_loads : i < z.slots → v.size ≡ z → HalfIs → WholeIs → NoneIs → Turn v.size v u (z.slots + z.bans + i + 1) loaded loaded [] → Turn u.size u w (i + 1) seen seen [] → Walks masks v w []
  two_loads low size half some none turn turn' = walk_still masks v u w [] (walk_one masks v u [] (stride masks v u (z.slots + z.bans + i + 1) loaded loaded loaded [] [] (ap tale half) turn (i, inl (on_mask v z i size low), refl, refl) refl))
      (stride masks u w (i + 1) seen seen seen [] [] (told some none) turn' (i, inr (on_task u z i (ap (λ (q : View). q.size) half ∙ size) low), refl, refl) refl)

  -- after the second load
  at_last_load : v.size ≡ z → HalfIs → WholeIs → NoneIs → (turn : Turn u.size u w (i + 1) seen seen []) → IsAt z w turn.after
  at_last_load size half some none turn = record { seat = turn.seat; sits = turn.sits_after; holds = subst (λ (q : Size). Holds q turn.after) (ap (λ (q : View). q.size) half ∙ size) turn.holds_after }

  leads_on : v.lead ≢ 0 → HalfIs → WholeIs → NoneIs → w.lead ≢ 0
  leads_on lead half some none e = lead (ap (λ (q : View). q.lead) (sym half) ∙ (sym (dite (ℕ_discrete (cancel seen) 0) (λ f. ap (λ (q : View). q.lead) (none f)) (λ f. ap (λ (q : View). q.lead) (some f))) ∙ e))

  pub mask_covers : (n : ℕ) → v.size ≡ z → v.lead ≢ 0 → In n v.marked → seen ≢ 0 → number seen ≡ n → HalfIs → WholeIs → NoneIs → (seen ≢ 0 → In (number seen) u.marked → cancel seen ≢ 0) → Turn u.size u w (i + 1) seen seen [] → AtTheEnd z v w (HasCleared n loaded)
  mask_covers n size lead known full is half some none live turn = let at = at_last_load size half some none turn in
      let m = live full (subst (λ (q : List ℕ). In (number seen) q) (sym (ap (λ (q : View). q.marked) half)) (subst (λ (q : ℕ). In q v.marked) (sym is) known)) in
      let has : Has n loaded w.masks = subst (λ (l : List Mask). Has n loaded l) (sym (ap (λ (q : View). q.masks) (some m))) (inl (sym is, sym (ap (λ (q : View). q.half_mask) half))) in
      inl (u, (stride_of u w (i + 1) seen seen seen [] (told some none) turn, at, cleared_in z w turn.after at (leads_on lead half some none) n loaded has))

  pub mask_of_none : (n : ℕ) → v.size ≡ z → v.lead ≢ 0 → In n v.marked → Lasts v → slice_index v.last i ≡ n → (seen ≢ 0 → number seen ≢ n) → HalfIs → WholeIs → NoneIs → Turn u.size u w (i + 1) seen seen [] → AtTheEnd z v w (HasCleared n 0)
  mask_of_none n size lead known lasts at_i other half some none turn = let at = at_last_load size half some none turn in
      let last : w.last ≡ v.last = dite (ℕ_discrete (cancel seen) 0) (λ f. ap (λ (q : View). q.last) (none f)) (λ f. ap (λ (q : View). q.last) (some f)) ∙ ap (λ (q : View). q.last) half in
      let marked : w.marked ≡ v.marked = dite (ℕ_discrete (cancel seen) 0) (λ f. ap (λ (q : View). q.marked) (none f)) (λ f. ap (λ (q : View). q.marked) (some f)) ∙ ap (λ (q : View). q.marked) half in
      inl (
        u,
        (
          stride_of u w (i + 1) seen seen seen [] (told some none) turn,
          at,
          gone_from z w turn.after at (leads_on lead half some none) n i (lasts_same v w last marked lasts) (subst (In n) (sym marked) known) (ap (λ (l : List ℕ). slice_index l i) last ∙ at_i)
              (subst (λ (q : ℕ). q ≢ 0 → number q ≢ n) (sym (load_leaves u.size u w (i + 1) seen [] turn)) other),
        ),
      )
