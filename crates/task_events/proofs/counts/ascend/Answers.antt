use Rattle.std.proofs.Common.{rules, nat_lt}
use Rattle.std.proofs.lemmas.List.Sorted.{answers_always}
use Rattle.task_events.proofs.Ascending.{ascend_by_answer}
use Rattle.task_events.proofs.counts.ascend.Goals as goal

pub returns : goal.returns
returns c = ascend_by_answer c.args.counts.now c.is_sorted_by.result (c.is_sorted_by.ensures.cases (λ one next. nat_lt one.shard next.shard) (answers_always _ _ _ (λ f a r f' called. search rules)))
