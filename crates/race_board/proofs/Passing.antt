-- The scan of a ban passes one slot.
use Rattle.std.proofs.Common.{◌≡◌, ◌≢◌, ℕ, ◌+◌, ◌<◌, List, [], ◌∷◌, ◌++◌, length, set, slice_index, Some, sym, ap, ◌∙◌, ⊎_elim, append-nil}
use lib.Seq.{set-get_or}
use Rattle.race_board.specs.Words.{number}
use Rattle.race_board.specs.Board.{ban, In, Lasts}
use Rattle.race_board.specs.Steps.{noted, banning, past, struck}
use Rattle.race_board.specs.Lists.{new_to, WasLast, Passes}
use Rattle.race_board.specs.declared.views.Did.{Did}
use Rattle.race_board.specs.declared.views.View.{View}
use Rattle.race_board.proofs.News.{new_known, new_fresh}
use Rattle.race_board.proofs.Own.{lasts_same, lasts_struck}

-- the number that stands there
same_last : (u : View) (i n : ℕ) → slice_index u.last i ≡ n → set u.last i n ≡ u.last
same_last u i n is = ap (set u.last i) (sym is) ∙ set-get_or u.last i 0

-- the seat keeps the last mark of each slot over the pass of one, whose child is marked now
pub lasts_passed : (u w : View) (i n : ℕ) → i < length u.last → w.last ≡ set u.last i n → w.marked ≡ u.marked ++ new_to u (n ∷ []) → WasLast u i n → Lasts u → Lasts w
lasts_passed u w i n inside last marks was ok = ⊎_elim
    (λ (fresh : ¬ In n u.marked). lasts_struck u w i n inside last (marks ∙ ap (λ (l : List ℕ). u.marked ++ l) (new_fresh u n fresh)) fresh ok)
    (λ (t : (n ≢ 0) × In n u.marked × (slice_index u.last i ≡ n)). lasts_same u w (last ∙ same_last u i n t.2) (marks ∙ (ap (λ (l : List ℕ). u.marked ++ l) (new_known u n t.1) ∙ append-nil u.marked)) ok) was

-- the load passes the slot of a child that was marked before
pub pass_known : (v u : View) (j i r : ℕ) (d : Did) → u ≡ noted (past v j i 0 0) d → new_to v (r ∷ []) ≡ [] → slice_index v.last i ≡ r → Passes v u j i (Some r)
pass_known v u j i r d e known is = let steps : v.steps ++ d ∷ [] ≡ u.steps = sym (ap (λ (q : View). q.steps) e) in let marks : v.marked ≡ v.marked ++ new_to v (r ∷ []) = sym (ap (λ (l : List ℕ). v.marked ++ l) known ∙ append-nil v.marked) in let last : v.last ≡ set v.last i r = sym (same_last v i r is) in
    e ∙ (λ y. let q : View = record v { steps = steps y; bans = set v.bans j (banning (ban v j).parent (ban v j).cancel (i + 1)); about = 0; loaded = 0; marked = marks y; last = last y } in q)

-- the load and the exchange pass the slot of a child that is marked now
pub pass_marked : (v u w : View) (j i n r : ℕ) (d d' : Did) → u ≡ noted (past v j i (i + 1) n) d → w ≡ noted (struck u i (number n)) d' → number n ≡ r → new_to v (r ∷ []) ≡ r ∷ [] → Passes v w j i (Some r)
pass_marked v u w j i n r d d' e f is fresh = let steps : (v.steps ++ d ∷ []) ++ d' ∷ [] ≡ w.steps = ap (λ (l : List Did). l ++ d' ∷ []) (sym (ap (λ (q : View). q.steps) e)) ∙ sym (ap (λ (q : View). q.steps) f) in
    let marks : v.marked ++ number n ∷ [] ≡ v.marked ++ new_to v (r ∷ []) = ap (λ (k : ℕ). v.marked ++ k ∷ []) is ∙ ap (λ (l : List ℕ). v.marked ++ l) (sym fresh) in
    f ∙ (ap (λ (q : View). noted (struck q i (number n)) d') e
    ∙ (λ y. let q : View = record v { steps = steps y; bans = set v.bans j (banning (ban v j).parent (ban v j).cancel (i + 1)); about = 0; loaded = 0; marked = marks y; last = set v.last i (is y) } in q))
