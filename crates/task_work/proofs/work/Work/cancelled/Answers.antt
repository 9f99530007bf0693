use Rattle.std.proofs.Common.{◌≡◌, sym, ap, ◌∙◌, rules}
use Rattle.task_events.specs.declared.reply.Reply.TheVariants.{Cancelled}
use Rattle.task_work.specs.Works.{counts_of}
use Rattle.task_work.proofs.Plans.{work_counted}
use Rattle.task_work.proofs.work.Work.cancelled.Goals as goal

pub returns-clause-counted : goal.returns-clause-counted
returns-clause-counted c = λ request shards p writes at.
    let told : Cancelled c.args.task c.args.cancel c.in_ok-counts.counts ≡ Cancelled c.args.task c.args.cancel (counts_of c.args.self.now) = search rules in
    told ∙ ap (Cancelled c.args.task c.args.cancel) (sym (work_counted c.args.task shards request p writes c.args.self.now at))
