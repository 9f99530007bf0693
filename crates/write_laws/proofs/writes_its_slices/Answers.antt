use Rattle.task_events.specs.declared.reply.Reply.TheVariants.{Wrote}
use Rattle.command_roots.specs.Roots.{scripted}
use Rattle.write_laws.proofs.RunsKeep.{run_keeps}
use Rattle.write_laws.proofs.SlicesDone.{other_than_one, slices_done}
use Rattle.write_laws.proofs.WholeTurns.{run_planned}
use Rattle.write_laws.proofs.writes_its_slices.Goals as goal

pub returns : goal.returns
returns c = λ cluster corpus script h t ask counts run l several asked replied good.
    slices_done cluster corpus (scripted script) ask (other_than_one ask.slices several) h l (run_keeps cluster corpus script h run) (run_planned cluster corpus script h run) t (Wrote counts) good replied asked
