-- What was seen was found by a step.
use Rattle.std.proofs.Common.{◌≡◌, ℕ, zero, suc, ◌<◌, List, [], ◌∷◌, length, sym, ap, ◌∙◌, ⊎_elim, arith}
use mathlib.Core.Option.{some, some-ne-none}
use lib.ListN.{get_elem?}
use Rattle.atomic_table.proofs.Lists.{at_snoc}
use Rattle.race_board.specs.Calls.{Saw}
use Rattle.race_board.specs.Events.{Event}
use Rattle.race_board.specs.Kinds.{Kind}
use Rattle.race_board.specs.Steps.{did}
use Rattle.race_board.specs.Walks.{Walk, Found}
use Rattle.race_board.specs.declared.views.Did.{Did}
use Rattle.race_board.specs.declared.views.View.{View}

within : (l : List Did) (t : ℕ) (d : Did) → get_elem? l t ≡ some d → t < length l
within [] t d e = absurd (some-ne-none d (sym e))
within (x ∷ xs) zero d e = omega arith
within (x ∷ xs) (suc t) d e = let more = within xs t d e in omega arith

walk_size : (kind : Kind) (n : ℕ) (v w : View) (es : List Event) → Walk kind n v w es → w.size ≡ v.size
walk_size kind zero v w es (same, none) = ap (λ (q : View). q.size) (sym same)
walk_size kind (suc n) v w es (u, fs, walk, (s, is, e)) = s.size ∙ walk_size kind n v u fs walk

pub saw_found : (kind : Kind) (n : ℕ) (v w : View) (es : List Event) (word seen : ℕ) → Walk kind n v w es → Saw v w word seen → Found v word seen
saw_found kind zero v w es word seen (same, none) saw = let late = saw.of_this_call in let few = within w.steps saw.turn (did word seen saw.left) saw.there in let long : length v.steps ≡ length w.steps = ap (λ (q : View). length q.steps) same in absurd (omega arith)
saw_found kind (suc n) v w es word seen (u, fs, walk, (s, is, f)) saw = let d : Did = did word seen saw.left in
    ⊎_elim (λ (e : get_elem? u.steps saw.turn ≡ some d). saw_found kind n v u fs word seen walk record { turn = saw.turn; of_this_call = saw.of_this_call; left = saw.left; there = e })
    (λ (e : s.step ≡ d). record { before = u; after = w; stride = s; at = ap (λ (q : Did). q.word) e; value = ap (λ (q : Did). q.seen) e; size = walk_size kind n v u fs walk })
    (at_snoc u.steps s.step d saw.turn (ap (λ (l : List Did). get_elem? l saw.turn) (sym s.noted) ∙ saw.there))
