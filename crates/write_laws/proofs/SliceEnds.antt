-- A slice that ends without a failure replies with what it has counted, so no answer to its asks tells of one.
use Rattle.std.proofs.Common.{◌≡◌, ◌-◌, ℕ, List, ◌∷◌, length, Some, refl, sym, ap, ◌∙◌}
use Rattle.std.specs.List.{sum_by}
use Rattle.task_ids.specs.declared.cluster.Cluster.{Cluster}
use Rattle.task_ids.specs.declared.corpus.Corpus.{Corpus}
use Rattle.task_ids.specs.declared.task_id.TaskId.{TaskId}
use Rattle.task_events.specs.declared.event.Event.{Event}
use Rattle.task_events.specs.declared.event.Event.TheVariants.{End}
use Rattle.task_events.specs.declared.reply.Reply.{Reply}
use Rattle.task_events.specs.declared.reply.Reply.TheVariants.{Wrote}
use Rattle.task_events.specs.declared.request.ReindexAsk.{ReindexAsk}
use Rattle.task_events.specs.declared.request.Request.{Request}
use Rattle.task_events.specs.Clock.{clock}
use Rattle.task_events.specs.Counting.{answers_in, failures_of}
use Rattle.task_events.specs.Kind.{Progress}
use Rattle.task_events.specs.Kinds.{kind_of}
use Rattle.task_events.specs.Requests.{Scripted, request_of}
use Rattle.task_events.specs.SliceTask.{answer_at, slice_counts, slice_step}
use Rattle.task_events.specs.Steps.{asked_by, came_by, progress_of}
use Rattle.task_events.specs.Written.{corpus_at}
use Rattle.write_laws.proofs.GoodAnswers.{good_alive}
use Rattle.write_laws.proofs.SliceAsks.{EndsAfter, slice_ends}
use Rattle.write_laws.proofs.StepCases.{ends_by_plan}
use Rattle.write_laws.proofs.WholeTurns.{AllPlanned}

module _ (cluster : Cluster) (corpus : Corpus) (said : Scripted) (t : TaskId) (request : Request) (ask : ReindexAsk) (slice : ℕ)
    (does : (made : Corpus) (q : Progress) (now : ℕ) → (kind_of request).step cluster made t q now ≡ slice_step t ask slice cluster.shards q.asked q.came now)
    (h : List Event) (last : Reply) (planned : AllPlanned cluster corpus said (End t last ∷ h)) (asked : request_of said t h ≡ Some request) (fits : failures_of last ≡ 0) where
  pub slice_ended : EndsAfter (length (asked_by t h)) (answer_at (asked_by t h) (length (asked_by t h) - 1)) × (Wrote (slice_counts (asked_by t h)) ≡ last)
  slice_ended =
      slice_ends t ask slice cluster.shards (asked_by t h) (came_by t h) (clock h) last
      (sym (does (corpus_at corpus said h) (progress_of cluster corpus said t request h) (clock h)) ∙ ends_by_plan cluster corpus said h (End t last) planned.0.0 t last request refl (good_alive last fits) asked)

  pub none_failing : sum_by failures_of (answers_in (asked_by t h)) ≡ 0
  none_failing = ap failures_of slice_ended.1 ∙ fits
