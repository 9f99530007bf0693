use Rattle.std.proofs.Common.{refl}
use Rattle.task_events.specs.declared.reply.Reply.TheVariants.{Wrote}
use Rattle.command_roots.specs.Roots.{scripted}
use Rattle.write_laws.proofs.BulksWritten.{bulks_written}
use Rattle.write_laws.proofs.PartsWritten.{parts_written}
use Rattle.write_laws.proofs.RunsKeep.{run_keeps}
use Rattle.write_laws.proofs.WholeTurns.{run_planned}
use Rattle.write_laws.proofs.writes_its_documents.Goals as goal

pub returns-clause-parts : goal.returns-clause-parts
returns-clause-parts c = λ cluster corpus script h t ask counts run l asked replied. parts_written cluster corpus (scripted script) h l (run_keeps cluster corpus script h run) (run_planned cluster corpus script h run) t (Wrote counts) ask refl replied asked

pub returns-clause-bulks : goal.returns-clause-bulks
returns-clause-bulks c = λ cluster corpus script h t ask counts run l asked replied good. bulks_written cluster corpus (scripted script) h l (run_keeps cluster corpus script h run) (run_planned cluster corpus script h run) t (Wrote counts) ask good replied asked
