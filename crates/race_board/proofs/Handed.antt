-- What a list hands over, slot by slot.
use Rattle.std.proofs.Common.{◌≡◌, ◌≢◌, ℕ, zero, suc, ◌+◌, ◌≤◌, true, false, List, [], ◌∷◌, ◌++◌, slice_index, Option, Some, None, IfSome, sym, refl, ap, ◌∙◌, subst, ⊎_elim, inl, inr, append_assoc, append-nil, arith, get_or-set_other}
use Rattle.race_board.specs.Board.{In, Lasts}
use Rattle.race_board.specs.Calls.{Longer}
use Rattle.race_board.specs.Events.{Event, listed}
use Rattle.race_board.specs.Lists.{has_marked, new_to, as_list, WasLast, Hands, HandsOver, MarksChild, SawMarked, last_with, marks_with, done_at}
use Rattle.race_board.specs.declared.views.Size.{Size}
use Rattle.race_board.specs.declared.views.View.{View}
use Rattle.race_board.proofs.Doing.{where_other, marks_more}
use Rattle.race_board.proofs.Gained.{saw_longer, saw_later, wrote_later, wrote_longer}
use Rattle.race_board.proofs.Controls.{in_front}
use Rattle.race_board.proofs.News.{told, new_known, new_fresh}

-- from the slot i on, u has the same numbers that were marked last as v
abbrev pub SameFrom : View → View → ℕ → Type 0
SameFrom v u i = (k : ℕ) → i ≤ k → slice_index u.last k ≡ slice_index v.last k

-- whom the seat had marked last in a slot to which the call had not come, it had marked before the call
pub marked_before : (v u : View) (i n : ℕ) → Lasts v → SameFrom v u i → n ≢ 0 → slice_index u.last i ≡ n → In n v.marked
marked_before v u i n lasts same some is = let at : slice_index v.last i ≡ n = sym (same i (omega arith)) ∙ is in
    ⊎_elim (λ (t : In n v.marked × (has_marked v n ≡ true)). t.0)
    (λ (t : (¬ In n v.marked) × (has_marked v n ≡ false)). absurd (lasts.marked n i t.0 (λ e. some (sym at ∙ e)) at)) (told n v.marked)

-- so a slot adds the same to the marks of the call as to those of its pass
pub same_news : (v u : View) (i : ℕ) (ms : List ℕ) (got : Option ℕ) → Lasts v → SameFrom v u i → u.marked ≡ v.marked ++ ms → IfSome got (WasLast u i) → new_to u (as_list got) ≡ new_to v (as_list got)
same_news v u i ms None lasts same marks last = refl
same_news v u i ms (Some n) lasts same marks last = ⊎_elim
    (λ (fresh : ¬ In n u.marked). new_fresh u n fresh ∙ sym (new_fresh v n (λ h. fresh (subst (In n) (sym marks) (in_front n v.marked ms h)))))
    (λ (t : (n ≢ 0) × In n u.marked × (slice_index u.last i ≡ n)). new_known u n t.1 ∙ sym (new_known v n (marked_before v u i n lasts same t.0 t.2))) last

-- the slot i is passed, and those after it stay
pub same_after : (v u w : View) (i : ℕ) (got : Option ℕ) → SameFrom v u i → w.last ≡ last_with u.last i got → SameFrom v w (i + 1)
same_after v u w i None same last k l = ap (λ (q : List ℕ). slice_index q k) last ∙ same k (omega arith)
same_after v u w i (Some n) same last k l = ap (λ (q : List ℕ). slice_index q k) last ∙ (get_or-set_other u.last i k n 0 (λ e. omega arith) ∙ same k (omega arith))

-- a child of a slot, in the words of the whole call
hands_later : (v u w : View) (p c i : ℕ) (got : Option ℕ) → Lasts v → SameFrom v u i → Longer v u → IfSome got (WasLast u i) → Hands u w p c i got → Hands v w p c i got
hands_later v u w p c i None lasts same long last hands =
    (hands.0, saw_later v u w (i + 1) hands.0 long hands.1, λ child. let t = hands.2 child in (t.0, (t.1.0, saw_later v u w (i + 1) t.1.0 long t.1.1, t.1.2)))
hands_later v u w p c i (Some n) lasts same long last hands = ⊎_elim
    (λ (t : MarksChild u w p c i n). inl (t.0, saw_later v u w (i + 1) t.0 long t.1, t.2, t.3, t.4, wrote_later v u w (i + 1) t.0 _ long t.5))
    (λ (t : SawMarked u w p i n). inr (t.0, saw_later v u w (i + 1) t.0 long t.1, t.2, t.3, t.4, known t.5)) hands
  where
    known : In n u.marked → In n v.marked
    known h = ⊎_elim (λ (fresh : ¬ In n u.marked). absurd (fresh h)) (λ (t : (n ≢ 0) × In n u.marked × (slice_index u.last i ≡ n)). marked_before v u i n lasts same t.0 t.2) last

hands_longer : (v u w : View) (p c i : ℕ) (got : Option ℕ) → Longer u w → Hands v u p c i got → Hands v w p c i got
hands_longer v u w p c i None long hands = (hands.0, saw_longer v u w (i + 1) hands.0 long hands.1, λ child. let t = hands.2 child in (t.0, (t.1.0, saw_longer v u w (i + 1) t.1.0 long t.1.1, t.1.2)))
hands_longer v u w p c i (Some n) long hands = ⊎_elim
    (λ (t : MarksChild v u p c i n). inl (t.0, saw_longer v u w (i + 1) t.0 long t.1, t.2, t.3, t.4, wrote_longer v u w (i + 1) t.0 _ long t.5))
    (λ (t : SawMarked v u p i n). inr (t.0, saw_longer v u w (i + 1) t.0 long t.1, t.2, t.3, t.4, t.5)) hands

handed_longer : (v u w : View) (p c i : ℕ) (ns : List ℕ) → Longer u w → HandsOver v u p c i ns → HandsOver v w p c i ns
handed_longer v u w p c zero ns long h = h
handed_longer v u w p c (suc i) ns long (earlier, got, before, hands, is) = (earlier, got, handed_longer v u w p c i earlier long before, hands_longer v u w p c i got long hands, is)

-- one slot more
pub handed_more : (v u w : View) (p c i : ℕ) (ns : List ℕ) (got : Option ℕ) → Lasts v → SameFrom v u i → Longer v u → Longer u w → IfSome got (WasLast u i) → HandsOver v u p c i ns → Hands u w p c i got → HandsOver v w p c (i + 1) (ns ++ as_list got)
handed_more v u w p c i ns got lasts same long more last before hands = let e : suc i ≡ i + 1 = omega arith in
    subst (λ (k : ℕ). HandsOver v w p c k (ns ++ as_list got)) e (ns, got, handed_longer v u w p c i ns more before, hands_later v u w p c i got lasts same long last hands, refl)

-- the events of a list, after one slot more, where these are marked
pub list_more : (z : Size) (j k i : ℕ) (ns ms : List ℕ) → i ≢ z.slots → (marks_with k ns ++ done_at z j i) ++ (marks_with k ms ++ done_at z j (i + 1)) ≡ marks_with k (ns ++ ms) ++ done_at z j (i + 1)
list_more z j k i ns ms more = ap (λ (l : List Event). l ++ (marks_with k ms ++ done_at z j (i + 1))) (ap (λ (l : List Event). marks_with k ns ++ l) (where_other i z.slots (listed j ∷ []) [] more) ∙ append-nil (marks_with k ns))
    ∙ (sym (append_assoc (marks_with k ns) (marks_with k ms) (done_at z j (i + 1))) ∙ ap (λ (l : List Event). l ++ done_at z j (i + 1)) (sym (marks_more k ns ms)))
