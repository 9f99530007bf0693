use Rattle.std.proofs.Common.{sym, subst, [], rules}
use Rattle.std.specs.Option.{option_copied}
use Rattle.task_events.specs.declared.request.Request.{Request}
use Rattle.task_events.specs.declared.request.SliceAsk.{SliceAsk}
use Rattle.reindex.specs.SliceRuns.{IsSliceAt}
use Rattle.reindex.proofs.SliceRuns.{slice_first}
use Rattle.task_work.specs.declared.work.Work.TheVariants.{Slice}
use Rattle.task_work.specs.Works.{IsBegun}
use Rattle.task_work.proofs.Plans.{work_first}
use Rattle.task_work.proofs.work.Work.new.Goals as goal

pub returns-in_ok-slice-in-Slice-clause-tied : goal.returns-in_ok-slice-in-Slice-clause-tied
returns-in_ok-slice-in-Slice-clause-tied c =
    let P : Request → Type 0 = λ r. IsBegun c.args.task r c.args.cluster.now.shards (Slice c.in_ok-slice-in-Slice.slice) in
    let Q : SliceAsk → Type 0 = λ a. IsSliceAt c.args.task a.reindex a.slice c.args.cluster.now.shards [] [] c.in_ok-slice-in-Slice.slice in
    subst P (sym c.in-Slice.is) (subst Q c.get-in-Slice.ensures (slice_first c.in_ok-slice-in-Slice.ensures))

pub returns-in_ok-slice-in-Slice-clause-at : goal.returns-in_ok-slice-in-Slice-clause-at
returns-in_ok-slice-in-Slice-clause-at c = λ writes.
    work_first c.args.task c.args.cluster.now.shards writes c.args.request.now (option_copied c.args.context) (Slice c.in_ok-slice-in-Slice.slice) (search rules)
