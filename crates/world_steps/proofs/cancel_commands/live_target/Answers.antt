use Rattle.std.proofs.Common.{◌≡◌, ◌∙◌, Some, sym, ap}
use Rattle.std.specs.Option.{option_copied}
use Rattle.task_events.specs.Tasks.{is_live}
use Rattle.world_moves.specs.Cancels.{target_of}
use Rattle.world_moves.proofs.StepsAfter.{kept_where_live}
use Rattle.world_steps.proofs.cancel_commands.live_target.Goals as goal
use Rattle.world_steps.proofs.cancel_commands.live_target.Goals.{in-Task, in-Command+in_ok-task-in-Command}

pub returns-then-contains_key-clause-live : goal.returns-then-contains_key-clause-live
returns-then-contains_key-clause-live c =
    let s = c.args.state.now in
    let kept = kept_where_live s.cluster s.corpus.now s.script.now s.history _ _ s.flight c.requires.tied.ties c.match-target.task in
    let roots = c.requires.tied.cancels.roots_are in
    let target : target_of c.args.target.now s.history ≡ Some c.match-target.task = elim c.match-target.branch [
      | in-Task w ↦ ap (λ x. target_of x s.history) w.in-Task.is ∙ ap Some (sym w.task-is)
      | in-Command+in_ok-task-in-Command w ↦ ap (λ x. target_of x s.history) w.in-Command.is ∙ sym (roots w.in-Command.command) ∙ sym w.get.ensures.value ∙ ap option_copied w.in_ok-task-in-Command.was ∙ ap Some (sym w.task-is)
    ] in
    (target, sym kept ∙ sym c.contains_key.ensures ∙ c.if-contains_key.true)

pub returns-else-contains_key-clause-none : goal.returns-else-contains_key-clause-none
returns-else-contains_key-clause-none c = λ task named.
    let s = c.args.state.now in
    let kept = kept_where_live s.cluster s.corpus.now s.script.now s.history _ _ s.flight c.requires.tied.ties c.match-target.task in
    let roots = c.requires.tied.cancels.roots_are in
    let target : target_of c.args.target.now s.history ≡ Some c.match-target.task = elim c.match-target.branch [
      | in-Task w ↦ ap (λ x. target_of x s.history) w.in-Task.is ∙ ap Some (sym w.task-is)
      | in-Command+in_ok-task-in-Command w ↦ ap (λ x. target_of x s.history) w.in-Command.is ∙ sym (roots w.in-Command.command) ∙ sym w.get.ensures.value ∙ ap option_copied w.in_ok-task-in-Command.was ∙ ap Some (sym w.task-is)
    ] in
    let both = sym target ∙ named in
    let same : c.match-target.task ≡ task = cc in
    ap (λ u. is_live u s.history) (sym same) ∙ sym kept ∙ sym c.contains_key.ensures ∙ c.if-contains_key.false
