use Rattle.std.proofs.Common.{ap}
use Rattle.std.specs.BTreeMap.{is_at}
use Rattle.std.specs.List.{list_any}
use Rattle.std.specs.Map.{lookup}
use Rattle.std.specs.Ordering.{nat_cmp}
use Rattle.task_ids.specs.TaskIdOrder.{task_id_cmp}
use Rattle.world_steps.proofs.results.KnownResults.new.Goals as goal

pub returns : goal.returns
returns c = λ script. record {
  table = c.new.ensures;
  storing = λ t. ap (list_any (is_at (task_id_cmp t))) c.new-2.ensures.empty;
  roots = λ k. ap (lookup (is_at (nat_cmp k))) c.new-3.ensures.empty;
}
