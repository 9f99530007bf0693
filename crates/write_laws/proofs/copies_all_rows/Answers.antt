use Rattle.std.proofs.Common.{refl}
use Rattle.task_events.specs.declared.request.Request.TheVariants.{Reindex}
use Rattle.write_laws.proofs.ReindexesCopied.{reindexes_copied}
use Rattle.write_laws.proofs.RunsKeep.{run_keeps}
use Rattle.write_laws.proofs.WholeTurns.{run_planned}
use Rattle.write_laws.proofs.copies_all_rows.Goals as goal

pub returns : goal.returns
returns c = λ cluster corpus script h run l plain.
    reindexes_copied cluster corpus script h l (run_keeps cluster corpus script h run) (run_planned cluster corpus script h run) (λ t slice counts asked replied good. c.copies_its_rows.ensures.slices cluster corpus script h t slice counts run l plain asked replied good)
    (λ t ask counts one asked replied good. c.copies_its_rows.ensures.reindexes cluster corpus script h t ask counts run l plain one asked replied good)
    (λ t ask asked. c.writes_where_told.ensures cluster corpus script h t (Reindex ask) ask.dest run l asked refl)
