-- The small values of lines have no fractions.
use Rattle.std.proofs.Common.{◌≡◌, ℕ, Bool, false, List, [], ◌∷◌, map, refl}
use Rattle.serde_json.specs.Data.{string}
use Rattle.serde_json.specs.View.{items_of}
use Rattle.serde_json.specs.Written.{has_float, items_have_float}
use Rattle.task_ids.specs.declared.task_id.TaskId.{TaskId}
use Rattle.task_ids.specs.TaskId.{task_id_text}
use Rattle.task_events.specs.declared.reply.FailedShard.{FailedShard}
use Rattle.task_events.specs.declared.reply.ShardFailure.{ShardFailure}
use Rattle.task_events.specs.declared.reply.ShardFailure.TheVariants.{Cancelled, Rejected}
use Rattle.line_print.specs.Errors.{shard_failure, failed_shard, all_shards_failed}
use Rattle.line_print.specs.Lines.{cancelled, results_json}

shard_whole : (shard : ℕ) (failure : ShardFailure) → has_float (shard_failure shard failure) ≡ false
shard_whole shard (Cancelled task cancel) = refl
shard_whole shard (Rejected node) = refl

failed_whole : (failed : List FailedShard) → items_have_float (items_of (map failed_shard failed)) ≡ false
failed_whole [] = refl
failed_whole (f ∷ failed) = rw (shard_whole f.shard f.failure) (failed_whole failed)

pub all_failed_whole : (failed : List FailedShard) → has_float (all_shards_failed failed) ≡ false
all_failed_whole failed = rw (failed_whole failed) refl

ids_whole : (tasks : List TaskId) → items_have_float (items_of (map (λ t. string (task_id_text t)) tasks)) ≡ false
ids_whole [] = refl
ids_whole (t ∷ tasks) = ids_whole tasks

pub cancelled_whole : (tasks : List TaskId) (wait : Bool) → has_float (cancelled tasks wait) ≡ false
cancelled_whole tasks wait = rw (ids_whole tasks) refl

pub results_whole : (tasks : List TaskId) → has_float (results_json tasks) ≡ false
results_whole tasks = rw (ids_whole tasks) refl
