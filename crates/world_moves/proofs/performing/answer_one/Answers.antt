use Rattle.std.proofs.Common.{◌≡◌, ◌∷◌, [], ◌==◌, ℕ, true, Option, Some, None, refl, sym, ◌∙◌}
use Rattle.std.specs.Prelude.{option_map}
use Rattle.cancel_core.specs.declared.act.Act.{Act}
use Rattle.task_events.specs.declared.event.Event.{Event}
use Rattle.world_moves.specs.Acts.{answer_in, cancel_of, answers_in}
use Rattle.world_moves.specs.Left.{left_in}
use Rattle.world_moves.proofs.performing.answer_one.Goals as goal

-- an act that answers a cancel which waits at no other task gives its answer
answer_there : (act : Act) (left : ℕ → ℕ) (cancel : ℕ) (o : Option Event) → answer_in act ≡ o → option_map cancel_of o ≡ Some cancel → (left cancel == 1) ≡ true → (e : Event) × (answers_in (act ∷ []) left ≡ e ∷ [])
answer_there act left cancel None e is last = absurd (cc)
answer_there act left cancel (Some x) e is last = let same : cancel_of x ≡ cancel = cc in (x, rw e (rw same (rw last refl)))

pub returns-then-leave_one-clause-full : goal.returns-then-leave_one-clause-full
returns-then-leave_one-clause-full c = λ failed.
    let gives = answer_there c.args.act.now (left_in c.args.left.now) c.in-Some.cancel (answer_in c.args.act.now) refl (sym c.cancel_in.ensures ∙ c.in-Some.is) (sym c.leave_one.ensures.last ∙ c.if-leave_one.true) in
    (c.note_answer.ensures.full failed, gives.0, gives.1)
