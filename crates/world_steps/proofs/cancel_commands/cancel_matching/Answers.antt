use Rattle.std.proofs.Common.{◌∙◌, sym, subst}
use Rattle.world_moves.specs.Cancels.{targets}
use Rattle.corpus_shards.proofs.Cases.{on_err}
use Rattle.world_steps.specs.Naming.{CanName}
use Rattle.world_steps.proofs.WholeNaming.{none_yet}
use Rattle.world_steps.proofs.NamingEnds.{nothing_named}
use Rattle.world_steps.proofs.TargetsLive.{targets_live, can_name}
use Rattle.world_steps.proofs.cancel_commands.cancel_matching.Goals as goal

pub cancel_tasks-done-requires-clause-can : goal.cancel_tasks-done-requires-clause-can
cancel_tasks-done-requires-clause-can c =
    let s = c.args.state.now in
    let lawful = c.requires.tied.ties.lawful in
    let first = nothing_named s.cluster s.history c.args.number c.requires.begun lawful in
    let found = c.as_slice.ensures.value ∙ c.in_ok-tasks.ensures.ids in
    subst (λ ts. CanName c.args.number ts s.history) (sym found)
    (can_name c.args.number s.history first.names (targets s.cluster s.script.now c.args.wanted.now s.history) (targets_live s.cluster s.script.now c.args.wanted.now s.history lawful))

pub returns-in_err-tasks-clause-part : goal.returns-in_err-tasks-clause-part
returns-in_err-tasks-clause-part c =
    let s = c.args.state.now in
    on_err c.from_residual.result _ (none_yet c.args.number c.args.wait (targets s.cluster s.script.now c.args.wanted.now s.history) s.history)
