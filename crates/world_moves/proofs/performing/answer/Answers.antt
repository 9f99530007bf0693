use Rattle.std.proofs.Common.{◌≡◌, ◌++◌, ◌∷◌, [], ◌<◌, ◌+◌, ℕ, List, length, get_or, take, drop, sym, ap, subst, ◌∙◌}
use Rattle.cancel_core.specs.declared.act.Act.{Act}
use Rattle.task_events.specs.declared.event.Event.{Event}
use Rattle.world_moves.specs.Acts.{offered_in, left_after, answers_in}
use Rattle.world_moves.specs.Left.{left_in}
use Rattle.world_moves.specs.Moves.{IsPartOf}
use Rattle.world_moves.proofs.AnswersOf.{more_left, more_answered, whole_answers}
use Rattle.world_moves.proofs.performing.answer.Goals as goal

pub returns-in-Err-clause-part : goal.returns-in-Err-clause-part
returns-in-Err-clause-part c =
    let acts = c.args.acts.now in
    let left = left_in c.args.left.now in
    let so_far = c.in-Err.ensures.err ∙ c.loop-act.invariant.answered in (
      answers_in (drop c.loop-act.act-index acts) (left_after (offered_in (take c.loop-act.act-index acts)) left),
      answers_in (take c.loop-act.act-index acts) left,
      whole_answers acts c.loop-act.act-index left c.args.history.now c.answer_one.new.history so_far,
      so_far,
    )

pub loop-act-preserved : goal.loop-act-preserved
loop-act-preserved c = record {
  counted = more_left c.args.acts.now c.loop-act.act-index c.act-item.result _ _ _ c.loop-act-test.true c.act-item.is c.loop-act.invariant.counted c.in-Ok.ensures.counted;
  answered = more_answered c.args.acts.now c.loop-act.act-index c.act-item.result _ _ _ _ _ c.loop-act-test.true c.act-item.is c.loop-act.invariant.counted c.loop-act.invariant.answered c.in-Ok.ensures.answered;
  room = c.in-Ok.ensures.room;
}

-- the act that did not fit gives an answer
cut_there : (acts : List Act) (i : ℕ) (act : Act) (e : Event) (left now : ℕ → ℕ) (old past : List Event) → i < length acts → act ≡ get_or acts i act → ((c : ℕ) → now c ≡ left_after (offered_in (take i acts)) left c)
    → past ≡ answers_in (take i acts) left ++ old → answers_in (act ∷ []) now ≡ e ∷ [] → IsPartOf old (e ∷ past) (answers_in acts left ++ old)
cut_there acts i act e left now old past below is counted so_far answer =
    let more = more_answered acts i act left now old past (e ∷ past) below is counted so_far (ap (λ xs. xs ++ past) (sym answer)) in
    (answers_in (drop (i + 1) acts) (left_after (offered_in (take (i + 1) acts)) left), answers_in (take (i + 1) acts) left, whole_answers acts (i + 1) left old (e ∷ past) more, more)

pub returns-in-Err-clause-full : goal.returns-in-Err-clause-full
returns-in-Err-clause-full c = λ failed.
    let acts = c.args.acts.now in
    let left = left_in c.args.left.now in
    let same = c.in-Err.ensures.err in
    let found = c.in-Err.ensures.full failed in (
      ap length same ∙ found.0,
      found.1,
      subst (λ past. IsPartOf c.args.history.now (found.1 ∷ past) (answers_in acts left ++ c.args.history.now)) (sym same)
          (cut_there acts c.loop-act.act-index c.act-item.result found.1 left _ c.args.history.now c.loop-act.history c.loop-act-test.true c.act-item.is c.loop-act.invariant.counted c.loop-act.invariant.answered found.2),
    )
