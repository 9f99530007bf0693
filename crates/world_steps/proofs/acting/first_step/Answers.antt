use Rattle.std.proofs.Common.{◌∙◌, Some, refl, ap, sym, inl, inr, Err, subst}
use Rattle.task_events.specs.Steps.{first_step}
use Rattle.world_steps.proofs.Plans.{next_new}
use Rattle.task_events.specs.declared.event.Event.TheVariants.{Pass}
use Rattle.world_moves.specs.declared.state.State.{State}
use Rattle.world_moves.specs.Moves.{StopsMove}
use Rattle.world_moves.proofs.CutShort.{cut_move, cut_only}
use Rattle.world_moves.proofs.Outcomes.{move_stops}
use Rattle.world_steps.specs.Runs.{Steps}
use Rattle.world_steps.proofs.acting.first_step.Goals as goal
use Rattle.world_steps.proofs.acting.first_step.Goals.{in-Some, in-None}

pub returns-in-Ok-clause-stepped : goal.returns-in-Ok-clause-stepped
returns-in-Ok-clause-stepped c =
    let s = c.args.state.now in
    let next = next_new s.cluster s.corpus.now s.script.now s.history _ _ _ c.requires.tied.ties c.args.task c.requires.first in
    elim c.match-ban_over.branch [
      | in-Some w ↦
          let first = next ∙ ap (λ ban. Some (first_step c.args.task ban)) (sym c.ban_over.ensures ∙ w.in-Some.is) in
          let happened = rw (sym w.stepped-is ∙ c.in-Ok.is) at w.refuse-stepped.ensures.happened in
          (_, c.requires.live, first, ap (λ x. x.history) w.state-is ∙ happened)
      | in-None w ↦
          let first = next ∙ ap (λ ban. Some (first_step c.args.task ban)) (sym c.ban_over.ensures ∙ w.in-None.is) in
          let happened = rw (sym w.stepped-is ∙ c.in-Ok.is) at w.pass-stepped.ensures.happened in
          (_, c.requires.live, first, ap (λ x. x.history) w.state-is ∙ happened)
    ]

pub returns-in-Err-clause-part : goal.returns-in-Err-clause-part
returns-in-Err-clause-part c =
    let s = c.args.state.now in
    let next = next_new s.cluster s.corpus.now s.script.now s.history _ _ _ c.requires.tied.ties c.args.task c.requires.first in
    elim c.match-ban_over.branch [
      | in-Some w ↦
          let first = next ∙ ap (λ ban. Some (first_step c.args.task ban)) (sym c.ban_over.ensures ∙ w.in-Some.is) in
          let part = rw (sym w.stepped-is ∙ c.in-Err.is) at w.refuse-stepped.ensures.part in
          rw w.state-is (inr (_, (_, c.requires.live, first, refl), part))
      | in-None w ↦
          let same = rw (sym w.stepped-is ∙ c.in-Err.is) at w.pass-stepped.ensures.err in
          inl (ap (λ x. x.history) w.state-is ∙ same)
    ]

pub returns-in-Err-clause-stop : goal.returns-in-Err-clause-stop
returns-in-Err-clause-stop c =
    let s = c.args.state.now in
    let t = c.args.task in
    let Moves = Steps s.cluster s.corpus.now s.script.now t in
    let Why = λ (x : State). StopsMove Moves s.history x.history c.in-Err.stop in
    let next = next_new s.cluster s.corpus.now s.script.now s.history _ _ _ c.requires.tied.ties t c.requires.first in
    elim c.match-ban_over.branch [
      | in-Some w ↦
          let first = next ∙ ap (λ ban. Some (first_step t ban)) (sym c.ban_over.ensures ∙ w.in-Some.is) in
          let is = sym w.stepped-is ∙ c.in-Err.is in
          subst Why (sym w.state-is) (move_stops Moves s.history _ c.in-Err.stop (λ e. cut_move Moves s.history _ _ (_, c.requires.live, first, refl) (w.refuse-stepped.ensures.full (is ∙ ap Err e))) (λ e. w.refuse-stepped.ensures.numbers (is ∙ ap Err e)))
      | in-None w ↦
          let first = next ∙ ap (λ ban. Some (first_step t ban)) (sym c.ban_over.ensures ∙ w.in-None.is) in
          let is = sym w.stepped-is ∙ c.in-Err.is in
          let same = rw is at w.pass-stepped.ensures.err in
          subst Why (sym w.state-is) (move_stops Moves s.history _ c.in-Err.stop (λ e. cut_only Moves s.history _ (Pass t) (_, c.requires.live, first, refl) (w.pass-stepped.ensures.full.0 (is ∙ ap Err e)) same) (λ e. w.pass-stepped.ensures.numbers (is ∙ ap Err e)))
    ]
