use Rattle.std.proofs.Common.{◌≡◌, Bool, true, false, not, refl, inr, Err, ap, ◌∙◌}
use Rattle.world_moves.proofs.NoneAwaited.{none_unanswered}
use Rattle.world_steps.proofs.Plans.{waits_marked, ends_marked}
use Rattle.world_moves.proofs.CutShort.{cut_move}
use Rattle.world_moves.proofs.Outcomes.{move_stops}
use Rattle.world_steps.specs.Runs.{Steps}
use Rattle.world_steps.proofs.acting.leave_or_wait.Goals as goal

turned : (b c : Bool) → c ≡ not b → c ≡ true → b ≡ false
turned true c e f = absurd (cc)
turned false c e f = refl

back : (b c : Bool) → c ≡ not b → c ≡ false → b ≡ true
back true c e f = refl
back false c e f = absurd (cc)

pub returns-then-waits-clause-stepped : goal.returns-then-waits-clause-stepped
returns-then-waits-clause-stepped c =
    let s = c.args.state.now in
    let some = turned _ _ c.requires.waits c.if-waits.true in
    (c.requires.live, waits_marked s.cluster s.corpus.now s.script.now s.history _ _ _ c.requires.tied.ties c.args.task c.args.cancel c.requires.passed c.requires.marked some, refl)

pub finish_cancelled-requires-clause-answered : goal.finish_cancelled-requires-clause-answered
finish_cancelled-requires-clause-answered c =
    let s = c.args.state.now in
    none_unanswered s.cluster c.args.task s.history c.requires.tied.ties.lawful (back _ _ c.requires.waits c.if-waits.false)

pub returns-in-Ok-clause-stepped : goal.returns-in-Ok-clause-stepped
returns-in-Ok-clause-stepped c =
    let s = c.args.state.now in
    let none = none_unanswered s.cluster c.args.task s.history c.requires.tied.ties.lawful (back _ _ c.requires.waits c.if-waits.false) in
    let next = ends_marked s.cluster s.corpus.now s.script.now s.history _ _ _ c.requires.tied.ties c.args.task c.args.cancel c.requires.passed c.requires.marked none in
    (_, c.requires.live, next, c.in-Ok.ensures.happened)

pub returns-in-Err-clause-part : goal.returns-in-Err-clause-part
returns-in-Err-clause-part c =
    let s = c.args.state.now in
    let none = none_unanswered s.cluster c.args.task s.history c.requires.tied.ties.lawful (back _ _ c.requires.waits c.if-waits.false) in
    let next = ends_marked s.cluster s.corpus.now s.script.now s.history _ _ _ c.requires.tied.ties c.args.task c.args.cancel c.requires.passed c.requires.marked none in
    inr (_, (_, c.requires.live, next, refl), c.in-Err.ensures.part)

pub returns-in-Err-clause-stop : goal.returns-in-Err-clause-stop
returns-in-Err-clause-stop c =
    let s = c.args.state.now in
    let Moves = Steps s.cluster s.corpus.now s.script.now c.args.task in
    let none = none_unanswered s.cluster c.args.task s.history c.requires.tied.ties.lawful (back _ _ c.requires.waits c.if-waits.false) in
    let next = ends_marked s.cluster s.corpus.now s.script.now s.history _ _ _ c.requires.tied.ties c.args.task c.args.cancel c.requires.passed c.requires.marked none in
    move_stops Moves s.history c.finish_cancelled.new.state.history c.in-Err.stop (λ e. cut_move Moves s.history c.finish_cancelled.new.state.history _ (_, c.requires.live, next, refl) (c.finish_cancelled.ensures.full (c.in-Err.is ∙ ap Err e)))
    (λ e. c.finish_cancelled.ensures.numbers (c.in-Err.is ∙ ap Err e))
