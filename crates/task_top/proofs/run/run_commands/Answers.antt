use Rattle.std.proofs.Common.{◌≡◌, Some, ap, length, refl, sym, subst}
use Rattle.std.specs.Prelude.{slice_get}
use Rattle.std.proofs.lemmas.Option.{slice_get_read}
use Rattle.task_ids.specs.declared.cluster.Cluster.{Cluster}
use Rattle.world_steps.specs.Scripts.{CanDo}
use Rattle.world_steps.specs.World.{WorldView}
use Rattle.world_steps.proofs.Commanded.{can_do}
use Rattle.task_top.proofs.run.run_commands.Goals as goal

pub run_command-requires-clause-can : goal.run_command-requires-clause-can
run_command-requires-clause-can c =
    let items = c.as_slice-command-items.result.now in
    let found = slice_get_read items (length items) c.loop-place.place c.command-item.result refl c.loop-place-test.true c.command-item.is in
    let at = subst (λ commands. slice_get commands c.loop-place.place ≡ Some c.command-item.result) c.as_slice-command-items.ensures found in
    let same = ap (λ (w : WorldView). w.cluster) c.loop-place.invariant.keeps in
    subst (λ (cluster : Cluster). CanDo cluster.nodes c.command-item.result) (sym same)
    (can_do c.args.world.now.cluster.nodes c.args.script.now.commands c.requires.can c.loop-place.place c.command-item.result at)
