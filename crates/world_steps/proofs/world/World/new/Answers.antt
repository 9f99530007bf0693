use Rattle.std.proofs.Common.{ap}
use Rattle.std.specs.Map.{lookup}
use Rattle.std.specs.BTreeMap.{is_at}
use Rattle.std.specs.List.{list_any}
use Rattle.std.specs.Ordering.{nat_cmp}
use Rattle.task_ids.specs.TaskIdOrder.{task_id_cmp}
use Rattle.std.specs.Prelude.{unwrap_or}
use Rattle.world_moves.specs.Left.{left_in}
use Rattle.world_moves.specs.Listings.{listing_cmp}
use Rattle.world_moves.specs.Ties.{task_at}
use Rattle.world_steps.proofs.Empty.{nothing_yet, nothing_cancelled, nothing_counted, nothing_opened, nothing_read, nothing_told}
use Rattle.world_steps.proofs.world.World.new.Goals as goal

pub invariant_of-result : goal.invariant_of-result
invariant_of-result c = record {
  tied = record {
    ties = rw c.new.ensures (rw c.new-3.ensures (nothing_yet c.args.cluster c.args.corpus.now c.args.script.now (task_at c.new-2.result) c.in_ok-tables.tables.items (λ t. ap (lookup (is_at (task_id_cmp t))) c.new-2.ensures.empty) c.in_ok-tables.ensures));
    cancels = rw c.new.ensures (nothing_cancelled c.args.cluster c.in_ok-tables.tables.items _ c.in-Ok.bans.items c.in-Ok-new_cores.cores.items c.new-6.result c.in_ok-tables.ensures
        (λ k. ap (lookup (is_at (nat_cmp k))) c.new-4.ensures.empty) c.in-Ok.ensures c.in-Ok-new_cores.ensures (λ l. ap (list_any (is_at (listing_cmp l))) c.new-6.ensures.empty));
    counts = rw c.new.ensures (nothing_counted (left_in c.new-5.result) (λ k. ap (λ m. unwrap_or (lookup (is_at (nat_cmp k)) m) 0) c.new-5.ensures.empty));
    tells = rw (c.new.ensures, c.new-3.ensures) (nothing_told c.args.cluster c.args.script.now c.in_ok-tables.tables.items c.in_ok-tables.ensures);
    pages = rw c.new.ensures (nothing_opened c.args.cluster c.args.corpus.now c.args.script.now c.in-Ok-new_contexts.contexts.items c.in-Ok-new_contexts.ensures);
    shards = rw c.new.ensures (record { has = c.in-Ok-new_shards.ensures.written; from_start = c.in-Ok-new_shards.ensures.from_start; noted = c.in-Ok-new_shards.ensures.noted });
    awaits = rw c.new.ensures tt;
    oldest = λ index shard. 0;
    reads = rw c.new.ensures (nothing_read c.args.cluster c.args.corpus.now c.args.script.now);
  };
  ready_known = rw c.new.ensures (record { tasks = c.new-7.ensures.tasks; kept = c.new-7.ensures.kept; alarms = c.new-7.ensures.alarms; results = c.new-7.ensures.results c.args.script.now });
  can_run = c.requires.can;
  few = c.requires.few;
}
