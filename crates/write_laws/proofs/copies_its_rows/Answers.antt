use Rattle.std.proofs.Common.{List, refl}
use Rattle.task_ids.specs.declared.cluster.Cluster.{Cluster}
use Rattle.task_ids.specs.declared.corpus.Corpus.{Corpus}
use Rattle.task_events.specs.declared.event.Event.{Event}
use Rattle.task_events.specs.declared.reply.Reply.TheVariants.{Wrote}
use Rattle.task_events.specs.declared.request.Request.TheVariants.{Reindex, Slice}
use Rattle.task_events.specs.Lawful.{Lawful}
use Rattle.script_lang.specs.declared.command.Script.{Script}
use Rattle.world_moves.specs.Plain.{AnswersPlainly}
use Rattle.world_steps.specs.Scripts.{IsRunSoFar}
use Rattle.write_laws.proofs.Pasts.{IsPast}
use Rattle.write_laws.proofs.RootsOfRuns.{run_fits}
use Rattle.write_laws.proofs.RowsCopied.{rows_copied}
use Rattle.write_laws.proofs.RunsKeep.{run_keeps}
use Rattle.write_laws.proofs.SlicesWritten.{one_slice}
use Rattle.write_laws.proofs.WholeTurns.{run_planned}
use Rattle.write_laws.proofs.copies_its_rows.Goals as goal

past_of_run : (cluster : Cluster) (corpus : Corpus) (script : Script) (h : List Event) → IsRunSoFar cluster corpus script h → Lawful cluster h → AnswersPlainly cluster corpus script h → IsPast cluster corpus script h
past_of_run cluster corpus script h run l plain = record {
  lawful = l;
  keeps = run_keeps cluster corpus script h run;
  planned = run_planned cluster corpus script h run;
  plain = plain;
  fit = run_fits cluster corpus script h run;
}

pub returns-clause-slices : goal.returns-clause-slices
returns-clause-slices c = λ cluster corpus script h t ask counts run l plain asked replied good.
    rows_copied cluster corpus script (Slice ask) ask.reindex ask.slice (λ t made q now. refl) refl h (past_of_run cluster corpus script h run l plain) t (Wrote counts) good replied asked

pub returns-clause-reindexes : goal.returns-clause-reindexes
returns-clause-reindexes c = λ cluster corpus script h t ask counts run l plain one asked replied good.
    rows_copied cluster corpus script (Reindex ask) ask 0 (λ t made q now. one_slice cluster t ask q made now one) refl h (past_of_run cluster corpus script h run l plain) t (Wrote counts) good replied asked
