use Rattle.std.proofs.Common.{◌∙◌, Some, refl, ap, sym}
use Rattle.std.specs.Option.{option_copied}
use Rattle.child_track.specs.Track.{unanswered}
use Rattle.std.specs.Prelude.{nat_lt}
use Rattle.world_moves.specs.Facts.{awaited_by}
use Rattle.world_moves.proofs.NoneAwaited.{tells_some}
use Rattle.world_moves.proofs.StepsAfter.{runs_of, gone_of}
use Rattle.world_steps.proofs.acting.act.Goals as goal

pub returns-in_default-clause-stepped : goal.returns-in_default-clause-stepped
returns-in_default-clause-stepped c =
    let s = c.args.state.now in
    (gone_of s.cluster s.corpus.now s.script.now s.history _ _ _ c.requires.tied.ties c.args.task (sym c.get.ensures.value ∙ ap option_copied c.in_default.is), refl)

pub first_step-requires-clause-live : goal.first_step-requires-clause-live
first_step-requires-clause-live c =
    let s = c.args.state.now in
    let kept = sym c.get.ensures.value ∙ ap option_copied c.in-Some.is ∙ ap Some (sym c.get-running.ensures) in
    (runs_of s.cluster s.corpus.now s.script.now s.history _ _ _ c.requires.tied.ties c.args.task c.get-running.result.now kept).live

pub first_step-requires-clause-first : goal.first_step-requires-clause-first
first_step-requires-clause-first c =
    let s = c.args.state.now in
    let kept = sym c.get.ensures.value ∙ ap option_copied c.in-Some.is ∙ ap Some (sym c.get-running.ensures) in
    sym (runs_of s.cluster s.corpus.now s.script.now s.history _ _ _ c.requires.tied.ties c.args.task c.get-running.result.now kept).new ∙ c.if-running.true

pub leave_or_wait-requires-clause-live : goal.leave_or_wait-requires-clause-live
leave_or_wait-requires-clause-live c =
    let s = c.args.state.now in
    let kept = sym c.get.ensures.value ∙ ap option_copied c.in-Some.is ∙ ap Some (sym c.get-running.ensures) in
    (runs_of s.cluster s.corpus.now s.script.now s.history _ _ _ c.requires.tied.ties c.args.task c.get-running.result.now kept).live

pub leave_or_wait-requires-clause-passed : goal.leave_or_wait-requires-clause-passed
leave_or_wait-requires-clause-passed c =
    let s = c.args.state.now in
    let kept = sym c.get.ensures.value ∙ ap option_copied c.in-Some.is ∙ ap Some (sym c.get-running.ensures) in
    sym (runs_of s.cluster s.corpus.now s.script.now s.history _ _ _ c.requires.tied.ties c.args.task c.get-running.result.now kept).new ∙ c.if-running.false

pub leave_or_wait-requires-clause-marked : goal.leave_or_wait-requires-clause-marked
leave_or_wait-requires-clause-marked c =
    let s = c.args.state.now in
    let kept = sym c.get.ensures.value ∙ ap option_copied c.in-Some.is ∙ ap Some (sym c.get-running.ensures) in
    let runs = runs_of s.cluster s.corpus.now s.script.now s.history _ _ _ c.requires.tied.ties c.args.task c.get-running.result.now kept in
    ap (λ track. track.closed) (sym runs.track) ∙ sym c.closed.ensures.number ∙ c.in-Some-closed.is

pub leave_or_wait-requires-clause-waits : goal.leave_or_wait-requires-clause-waits
leave_or_wait-requires-clause-waits c =
    let s = c.args.state.now in
    let kept = sym c.get.ensures.value ∙ ap option_copied c.in-Some.is ∙ ap Some (sym c.get-running.ensures) in
    let runs = runs_of s.cluster s.corpus.now s.script.now s.history _ _ _ c.requires.tied.ties c.args.task c.get-running.result.now kept in
    ap (λ n. nat_lt 0 n) (c.unanswered-waits.ensures ∙ ap unanswered runs.track) ∙ tells_some (awaited_by c.args.task s.history)

pub work_on-requires-clause-live : goal.work_on-requires-clause-live
work_on-requires-clause-live c =
    let s = c.args.state.now in
    let kept = sym c.get.ensures.value ∙ ap option_copied c.in-Some.is ∙ ap Some (sym c.get-running.ensures) in
    (runs_of s.cluster s.corpus.now s.script.now s.history _ _ _ c.requires.tied.ties c.args.task c.get-running.result.now kept).live

pub work_on-requires-clause-passed : goal.work_on-requires-clause-passed
work_on-requires-clause-passed c =
    let s = c.args.state.now in
    let kept = sym c.get.ensures.value ∙ ap option_copied c.in-Some.is ∙ ap Some (sym c.get-running.ensures) in
    sym (runs_of s.cluster s.corpus.now s.script.now s.history _ _ _ c.requires.tied.ties c.args.task c.get-running.result.now kept).new ∙ c.if-running.false

pub work_on-requires-clause-unmarked : goal.work_on-requires-clause-unmarked
work_on-requires-clause-unmarked c =
    let s = c.args.state.now in
    let kept = sym c.get.ensures.value ∙ ap option_copied c.in-Some.is ∙ ap Some (sym c.get-running.ensures) in
    let runs = runs_of s.cluster s.corpus.now s.script.now s.history _ _ _ c.requires.tied.ties c.args.task c.get-running.result.now kept in
    ap (λ track. track.closed) (sym runs.track) ∙ sym c.closed.ensures.number ∙ c.in_default-closed.is
