-- Replies that tell what was counted, and what a number among the counts is.
use Rattle.std.proofs.Common.{◌≡◌, ℕ, Bool, true, false, not, List, [], ◌∷◌, Option, refl}
use Rattle.std.specs.List.{sum_by}
use Rattle.std.specs.Option.{option_map_or}
use Rattle.std.specs.Prelude.{⊤}
use Rattle.task_ids.specs.declared.cluster.Cluster.{Cluster}
use Rattle.task_ids.specs.declared.corpus.Corpus.{Corpus}
use Rattle.task_ids.specs.declared.task_id.TaskId.{TaskId}
use Rattle.task_events.specs.declared.event.Event.{Event}
use Rattle.task_events.specs.declared.event.Event.TheVariants.{End}
use Rattle.task_events.specs.declared.event.Outcome.{Outcome}
use Rattle.task_events.specs.declared.reply.Counts.{Counts}
use Rattle.task_events.specs.declared.reply.Reply.{Reply}
use Rattle.task_events.specs.declared.request.Request.{Request}
use Rattle.task_events.specs.declared.step.Asked.{Asked}
use Rattle.task_events.specs.BulkShardTask.{writes_counted}
use Rattle.task_events.specs.Counting.{answers_in, carried, sums_of, written_in}
use Rattle.task_events.specs.Requests.{Scripted, request_of}
use Rattle.task_events.specs.SliceTask.{slice_counts}
use Rattle.task_events.specs.Steps.{counted}
use Rattle.task_events.specs.Tasks.{no_counts}
use Rattle.task_events.specs.Written.{is_created, writes_by}
use Rattle.write_laws.specs.KindsAsked.{reads_shard}

-- all but the readings of shards tell what was written
abbrev pub telling_asked : Option Request → Bool
telling_asked request = option_map_or (λ made. not (reads_shard made)) request false

-- Each of their replies carries what its task has counted.
abbrev pub TellsCounts : Cluster → Corpus → Scripted → List Event → Type 0
TellsCounts cluster corpus said [] = ⊤
TellsCounts cluster corpus said (End t reply ∷ h) = (telling_asked (request_of said t h) ≡ true → carried reply ≡ counted cluster corpus said t h) × TellsCounts cluster corpus said h
TellsCounts cluster corpus said (_ ∷ h) = TellsCounts cluster corpus said h

-- This number among the counts is how often documents were written with an outcome.
pub record IsNumberOf (test : Outcome → Bool) (number : Counts → ℕ) : Type 0 where
  pub none : number no_counts ≡ 0
  pub own : (t : TaskId) (h : List Event) → number (writes_counted (writes_by is_created t h) (writes_by (λ outcome. not (is_created outcome)) t h)) ≡ writes_by test t h
  pub written : (answers : List Reply) → number (written_in answers) ≡ sum_by (λ reply. number (carried reply)) answers
  pub sums : (answers : List Reply) → number (sums_of answers) ≡ sum_by (λ reply. number (carried reply)) answers
  pub slice : (asked : List Asked) → number (slice_counts asked) ≡ sum_by (λ reply. number (carried reply)) (answers_in asked)

pub created_number : IsNumberOf is_created (λ counts. counts.created)
created_number = record { none = refl; own = λ t h. refl; written = λ answers. refl; sums = λ answers. refl; slice = λ asked. refl }

pub updated_number : IsNumberOf (λ outcome. not (is_created outcome)) (λ counts. counts.updated)
updated_number = record { none = refl; own = λ t h. refl; written = λ answers. refl; sums = λ answers. refl; slice = λ asked. refl }
