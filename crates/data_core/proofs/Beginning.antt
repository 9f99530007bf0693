-- A core that is new keeps what is known of a run over its documents, whose indices have as many shards.
use Rattle.std.proofs.Common.{◌≡◌, ℕ, sym, ap, ◌∙◌, subst}
use Rattle.task_ids.specs.declared.cluster.Cluster.{Cluster}
use Rattle.task_ids.specs.declared.corpus.Corpus.{Corpus}
use Rattle.held_shards.specs.Held.{HasLines}
use Rattle.reply_facts.specs.Settings.{Setting}
use Rattle.entry_facts.specs.Entries.{IsCoreOfRun}
use Rattle.entry_facts.proofs.Cores.{new_core}
use Rattle.data_core.specs.declared.state.DataCore.{DataCore}
use Rattle.data_core.specs.Cores.{IsNewDataCore}

pub new_of_setting : (run : Setting) (node : ℕ) (cluster : Cluster) (corpus : Corpus) (core : DataCore) → IsNewDataCore node core → HasLines corpus.lines cluster.shards core.shards → core.cluster ≡ cluster → (run.corpus ≡ corpus) × (run.shards ≡ cluster.shards)
    → IsCoreOfRun run core.cluster.shards core.shards core.live
new_of_setting run node cluster corpus core new lines own setting =
    new_core run core.cluster.shards core.shards core.live new.live.tasks
    (subst (λ (c : Corpus). HasLines c.lines run.shards core.shards) (sym setting.0) (subst (λ n. HasLines corpus.lines n core.shards) (sym setting.1) lines))
    (ap (λ (c : Cluster). c.shards) own ∙ sym setting.1)
