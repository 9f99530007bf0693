-- A core stays one of its run where one of its tasks takes a turn over its shard, also where the turn broke off.
use Rattle.std.proofs.Common.{◌≡◌, ℕ, List, ◌++◌, Some, ap, ◌∙◌, subst}
use Rattle.task_ids.specs.declared.doc.Doc.{Doc}
use Rattle.shard_docs.specs.ShardView.{ShardView}
use Rattle.task_work.specs.declared.work.Work.{Work}
use Rattle.task_work.specs.Works.{BrokeOff, docs_next}
use Rattle.held_shards.specs.declared.HeldShards.{HeldShards}
use Rattle.held_shards.specs.Held.{shard_at, with_shard}
use Rattle.live_tasks.specs.declared.entry.Entry.{Entry}
use Rattle.live_tasks.specs.declared.live.LiveTasks.{LiveTasks}
use Rattle.live_tasks.specs.Entries.{with_work}
use Rattle.live_tasks.specs.Live.{ChangesTask, entry_at}
use Rattle.live_tasks.specs.Turning.{TurnedOn}
use Rattle.reply_facts.specs.Settings.{Setting}
use Rattle.entry_facts.specs.Entries.{IsCoreOfRun}
use Rattle.entry_facts.proofs.Cores.{broken_core, turned_core}
use Rattle.data_core.specs.declared.state.DataCore.{DataCore}
use Rattle.data_core.proofs.Working.{IsTurnAt, its_shard, over_writes, replaces}

module _ (run : Setting) (old : DataCore) (of_run : IsCoreOfRun run old.cluster.shards old.shards old.live) (held : HeldShards) (at : ℕ) (s : ShardView) (e : Entry) (turn : IsTurnAt old held at s e) (left : ShardView) (w : Work)
    (live : LiveTasks) (k : ℕ) (is : entry_at old.live k ≡ Some e) (change : ChangesTask old.live live k (with_work e w)) where
  abbrev after : HeldShards
  after = with_shard held at left

  written : (more : List Doc) → left.writes ≡ s.writes ++ more → left.writes ≡ (shard_at old.shards turn.index turn.number).writes ++ more
  written more grown = grown ∙ ap (λ (x : ShardView). x.writes ++ more) (its_shard old held at s e turn)

  -- it has taken a turn
  pub turned_stays : TurnedOn e.running.work w s.writes left.writes → IsCoreOfRun run old.cluster.shards after live
  turned_stays turned =
      turned_core run old.cluster.shards old.shards old.live of_run after live k e w is change.0 turn.index turn.number turn.placed left (replaces old held at s e turn left w) turn.numbers
      left.writes (written (docs_next e.running.work) turned.written) (subst (λ ws. TurnedOn e.running.work w ws left.writes) (over_writes old held at s e turn) turned)

  -- the turn broke off
  pub broken_stays : BrokeOff e.running.work w s.writes left.writes → IsCoreOfRun run old.cluster.shards after live
  broken_stays broke =
      broken_core run old.cluster.shards old.shards old.live of_run after live k e w is change.0 turn.index turn.number turn.placed left (replaces old held at s e turn left w) turn.numbers
      broke.written left.writes (written _ broke.now_is) (subst (λ ws. BrokeOff e.running.work w ws left.writes) (over_writes old held at s e turn) broke)
