use Rattle.task_top.proofs.LinesOfCommands.{each_has_its_line}
use Rattle.task_top.proofs.PrintedLines.{as_many_lines, each_prints_a_line}
use Rattle.task_top.proofs.Reasons.{tells_reasons}
use Rattle.task_top.proofs.UnharmedSearches.{answers_wholly}
use Rattle.task_top.proofs.laws.answer_laws.Goals as goal

pub returns-clause-lines : goal.returns-clause-lines
returns-clause-lines c = λ cluster corpus script h lawful plain drained answered run can.
    let told = each_has_its_line cluster corpus script h lawful drained answered plain can (c.whole_is_so_far.ensures cluster corpus script h run) run in
    let one_line = each_prints_a_line cluster corpus script h told in
    record { told = told; one_line = one_line; as_many = as_many_lines cluster corpus script h one_line; reasons = tells_reasons cluster corpus script h run (c.causes.ensures.named cluster h lawful) }

pub returns-clause-wrote : goal.returns-clause-wrote
returns-clause-wrote c = c.counts_its_writes.ensures.runs

pub returns-clause-copied : goal.returns-clause-copied
returns-clause-copied c = c.copies_all_rows.ensures

pub returns-clause-throttled : goal.returns-clause-throttled
returns-clause-throttled c = c.keeps_to_its_rate.ensures

pub returns-clause-unharmed : goal.returns-clause-unharmed
returns-clause-unharmed c = λ cluster corpus script h lawful plain t ask reply. answers_wholly cluster corpus script (c.causes.ensures.named cluster) t h lawful plain ask reply
