use Rattle.std.proofs.Common.{refl}
use Rattle.task_events.specs.declared.reply.Reply.TheVariants.{Wrote}
use Rattle.task_events.specs.declared.request.Request.TheVariants.{Reindex, Slice}
use Rattle.command_roots.specs.Roots.{scripted}
use Rattle.write_laws.proofs.RunsKeep.{run_keeps}
use Rattle.write_laws.proofs.SlicesWritten.{one_slice, slices_written}
use Rattle.write_laws.proofs.WholeTurns.{run_planned}
use Rattle.write_laws.proofs.writes_its_pages.Goals as goal

pub returns-clause-slices : goal.returns-clause-slices
returns-clause-slices c = λ cluster corpus script h t ask counts run l asked replied good.
    slices_written cluster corpus (scripted script) (Slice ask) ask.reindex ask.slice (λ t made q now. refl) refl h l (run_keeps cluster corpus script h run) (run_planned cluster corpus script h run) t (Wrote counts) good replied asked

pub returns-clause-reindexes : goal.returns-clause-reindexes
returns-clause-reindexes c = λ cluster corpus script h t ask counts run l one asked replied good.
    slices_written cluster corpus (scripted script) (Reindex ask) ask 0 (λ t made q now. one_slice cluster t ask q made now one) refl h l (run_keeps cluster corpus script h run) (run_planned cluster corpus script h run) t (Wrote counts) good replied asked
