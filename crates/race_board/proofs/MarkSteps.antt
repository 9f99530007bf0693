-- A mark by number, over its last step.
use Rattle.std.proofs.Common.{◌≡◌, ℕ, ◌+◌, [], ◌∷◌, ◌++◌, set, sym, ap, ◌∙◌, inr}
use Rattle.task_table.specs.declared.ended.MarkAnswer.{MarkAnswer}
use Rattle.task_table.specs.declared.ended.MarkAnswer.TheVariants.{Marked, Already, NotFound}
use Rattle.race_board.specs.Words.{number, with_mark}
use Rattle.race_board.specs.Steps.{noted, missed}
use Rattle.race_board.specs.Calls.{Longer, Saw, OnlySteps}
use Rattle.race_board.specs.Lists.{Marks, MarksSeen}
use Rattle.race_board.specs.declared.views.Size.{Size}
use Rattle.race_board.specs.declared.views.Did.{Did}
use Rattle.race_board.specs.declared.views.View.{View}
use Rattle.race_board.proofs.Gained.{saw_longer, saw_later, wrote_later}

-- u has the steps of v and the look at the slot i
pub marks_then : (v u w : View) (z : Size) (i n seen c : ℕ) (a : MarkAnswer) → OnlySteps v u → Longer v u → Longer u w → Saw v u (i + 1) seen → number seen ≡ n → MarksSeen u w i seen c a → Marks v w z n c a
marks_then v u w z i n seen c Marked only before long saw is told = (
  i,
  seen,
  saw_longer v u w (i + 1) seen long saw,
  wrote_later v u w (i + 1) seen (with_mark seen c) before told.0,
  is,
  told.1,
  told.2 ∙ (ap (λ (q : View). let r : View = record q { steps = w.steps; marked = q.marked ++ number seen ∷ []; last = set q.last i (number seen) } in r) only
      ∙ (λ k. let r : View = record v { steps = w.steps; marked = v.marked ++ is k ∷ []; last = set v.last i (is k) } in r)),
)
marks_then v u w z i n seen c (Already k) only before long saw is told = (told.0 ∙ (only ∙ (λ y. let r : View = record v { steps = ap (λ (q : View). q.steps) (sym told.0) y } in r)), (i, seen, saw_longer v u w (i + 1) seen long saw, is, told.1, told.2))
marks_then v u w z i n seen c NotFound only before long saw is told = (
  told.0 ∙ ap (λ (q : View). let r : View = record q { steps = w.steps } in r) only,
  inr (i, seen, told.1.0, saw_longer v u w (i + 1) seen long saw, saw_later v u w (i + 1) told.1.0 before told.1.1, is, told.1.2),
)

pub missed_is : (v w : View) (d : Did) → v.about ≡ 0 → v.loaded ≡ 0 → w ≡ noted (missed v) d → OnlySteps v w
missed_is v w d about loaded e = e ∙ (λ k. let r : View = record v { steps = (sym (ap (λ (q : View). q.steps) e)) k; about = (sym about) k; loaded = (sym loaded) k } in r)
