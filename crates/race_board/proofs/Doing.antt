-- The words of the steps of each call, and their events.
use Rattle.std.proofs.Common.{◌≡◌, ◌≢◌, ℕ, suc, ◌+◌, ◌<◌, ◌&&◌, cond, eqb, eq-eqb, ne_eqb, List, [], ◌∷◌, ◌++◌, refl, sym, ap, ◌∙◌, subst, arith}
use mathlib.Core.Logic.{dite}
use native.Mathlib.Decide.{ℕ_discrete}
use Rattle.task_table.specs.TicketParts.{TicketParts}
use Rattle.task_table.specs.declared.answers.Check.TheVariants as answer
use Rattle.race_board.specs.Words.{number, parent, cancel, banned, with_mark}
use Rattle.race_board.specs.Board.{ban}
use Rattle.race_board.specs.Checks.{ticket_parent, check_events, look_events}
use Rattle.race_board.specs.Events.{Event, put, passed, worked, marked, listed}
use Rattle.race_board.specs.Keys.{mark_in}
use Rattle.race_board.specs.Kinds.{OnTask, OnMask, OnBan}
use Rattle.race_board.specs.Lists.{marks_with, done_at}
use Rattle.race_board.specs.StepEvents.{of_claim, of_check, of_scan, of_mark, of_look, closing}
use Rattle.race_board.specs.declared.views.Size.{Size}
use Rattle.race_board.specs.declared.views.Hold.{Hold}
use Rattle.race_board.specs.declared.views.View.{View}
use Rattle.race_board.proofs.Marks.{no_mark_in, some_mark_in}
use Rattle.race_board.proofs.Parts.{cancel_mark}

pub where_same : (n a : ℕ) (x y : List Event) → n ≡ a → cond (eqb n a) x y ≡ x
where_same n a x y e = ap (λ b. cond b x y) (eq-eqb n a e)

pub where_other : (n a : ℕ) (x y : List Event) → n ≢ a → cond (eqb n a) x y ≡ y
where_other n a x y e = ap (λ b. cond b x y) (ne_eqb n a e)

pub on_task : (u : View) (z : Size) (i : ℕ) → u.size ≡ z → i < z.slots → OnTask u (i + 1) i
on_task u z i e l = (subst (λ (q : Size). i < q.slots) (sym e) l, refl)

pub on_mask : (u : View) (z : Size) (i : ℕ) → u.size ≡ z → i < z.slots → OnMask u (z.slots + z.bans + i + 1) i
on_mask u z i e l = subst (λ (q : Size). (i < q.slots) × (z.slots + z.bans + i + 1 ≡ q.slots + q.bans + i + 1)) (sym e) (l, refl)

pub on_ban : (u : View) (z : Size) (j : ℕ) → u.size ≡ z → j < z.bans → OnBan u (z.slots + j + 1) j
on_ban u z j e l = subst (λ (q : Size). (j < q.bans) × (z.slots + j + 1 ≡ q.slots + j + 1)) (sym e) (l, refl)

pub claim_hits : (n y : ℕ) → n ≡ 0 → of_claim n y ≡ put (number y) (parent y) ∷ []
claim_hits n y e = where_same n 0 (put (number y) (parent y) ∷ []) [] e

pub claim_misses : (n y : ℕ) → n ≢ 0 → of_claim n y ≡ []
claim_misses n y e = where_other n 0 (put (number y) (parent y) ∷ []) [] e

-- the check of the task t has loaded j of b places and found no ban of its parent
abbrev pub so_far : ℕ → ℕ → ℕ → List Event
so_far t j b = cond (eqb j b) (passed t ∷ []) []

pub check_hits : (h : Hold) (x last n : ℕ) → banned n ≡ h.parent → of_check h x last n ≡ []
check_hits h x last n e = where_same (banned n) h.parent [] (cond (eqb x last) (passed h.number ∷ []) []) e

pub check_misses : (h : Hold) (s j b n t : ℕ) → h.number ≡ t → banned n ≢ h.parent → of_check h (s + j + 1) (s + b) n ≡ so_far t (j + 1) b
check_misses h s j b n t is e = let x : ℕ = s + j + 1 in where_other (banned n) h.parent [] (cond (eqb x (s + b)) (passed h.number ∷ []) []) e
    ∙ dite (ℕ_discrete (j + 1) b)
    (λ f. where_same x (s + b) (passed h.number ∷ []) [] (omega arith) ∙ (ap (λ (k : ℕ). passed k ∷ []) is ∙ sym (where_same (j + 1) b (passed t ∷ []) [] f)))
    (λ f. where_other x (s + b) (passed h.number ∷ []) [] (λ g. f (omega arith)) ∙ sym (where_other (j + 1) b (passed t ∷ []) [] f))

pub child_passes : (t : TicketParts) → ticket_parent t ≢ 0 → passed t.id.number ∷ [] ≡ check_events t answer.Clear
child_passes t e = sym (where_other (ticket_parent t) 0 [] (passed t.id.number ∷ []) e)

pub look_tells : (h : Hold) (n t : ℕ) → h.number ≡ t → of_look h n ≡ look_events t (mark_in n)
look_tells h n t is = dite (ℕ_discrete (cancel n) 0)
    (λ e. where_same (cancel n) 0 (worked h.number ∷ []) [] e ∙ (ap (λ (k : ℕ). worked k ∷ []) is ∙ sym (ap (look_events t) (no_mark_in n e))))
    (λ e. where_other (cancel n) 0 (worked h.number ∷ []) [] e ∙ sym (ap (look_events t) (some_mark_in n e)))

pub mark_hits : (done n old c : ℕ) → n ≡ old → cancel old ≡ 0 → of_mark done n old (with_mark old c) ≡ marked (number old) c ∷ closing done
mark_hits done n old c e free = where_same n old (marked (number n) (cancel (with_mark old c)) ∷ closing done) (closing done) e ∙ (λ k. marked (number (e k)) (cancel_mark old c free k) ∷ closing done)

pub mark_misses : (done n old c : ℕ) → n ≢ old → of_mark done n old (with_mark old c) ≡ closing done
mark_misses done n old c e = where_other n old (marked (number n) (cancel (with_mark old c)) ∷ closing done) (closing done) e

-- the list is done with the last slot
pub closes : (z : Size) (j i : ℕ) → closing (cond (eqb (i + 1) z.slots) (j + 1) 0) ≡ done_at z j (i + 1)
closes z j i = dite (ℕ_discrete (i + 1) z.slots)
    (λ e. ap (λ b. closing (cond b (j + 1) 0)) (eq-eqb (i + 1) z.slots e) ∙ (ap closing (let f : j + 1 ≡ suc j = omega arith in f) ∙ sym (where_same (i + 1) z.slots (listed j ∷ []) [] e)))
    (λ e. ap (λ b. closing (cond b (j + 1) 0)) (ne_eqb (i + 1) z.slots e) ∙ sym (where_other (i + 1) z.slots (listed j ∷ []) [] e))

pub scan_hits : (v : View) (j x n : ℕ) → parent n ≡ (ban v j).parent → cancel n ≡ 0 → of_scan v j x n ≡ []
scan_hits v j x n e f = (λ k. cond (eq-eqb (parent n) (ban v j).parent e k && eq-eqb (cancel n) 0 f k) [] (cond (eqb x v.size.slots) (listed j ∷ []) []))

pub scan_misses : (v : View) (z : Size) (j i n : ℕ) → v.size ≡ z → ¬ ((parent n ≡ (ban v j).parent) × (cancel n ≡ 0)) → of_scan v j (i + 1) n ≡ done_at z j (i + 1)
scan_misses v z j i n size no_child = dite (ℕ_discrete (parent n) (ban v j).parent)
    (λ e. (λ k. cond (eq-eqb (parent n) (ban v j).parent e k && ne_eqb (cancel n) 0 (λ f. no_child (e, f)) k) [] rest) ∙ all)
    (λ e. (λ k. cond (ne_eqb (parent n) (ban v j).parent e k && eqb (cancel n) 0) [] rest) ∙ all)
  where
    rest : List Event
    rest = cond (eqb (i + 1) v.size.slots) (listed j ∷ []) []

    all : rest ≡ done_at z j (i + 1)
    all = ap (λ (q : Size). done_at q j (i + 1)) size

-- one more is marked
pub marks_more : (c : ℕ) (ns ms : List ℕ) → marks_with c (ns ++ ms) ≡ marks_with c ns ++ marks_with c ms
marks_more c [] ms = refl
marks_more c (n ∷ ns) ms = ap (λ (l : List Event). marked n c ∷ l) (marks_more c ns ms)
