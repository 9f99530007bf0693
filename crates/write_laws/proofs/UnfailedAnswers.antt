-- Where a slice has ended without a failure, the answers to its asks tell of none.
use Rattle.std.proofs.Common.{◌≡◌, ℕ, List, Some, ap, ◌∙◌, arith}
use Rattle.std.specs.List.{sum_by}
use Rattle.task_ids.specs.declared.cluster.Cluster.{Cluster}
use Rattle.task_ids.specs.declared.corpus.Corpus.{Corpus}
use Rattle.task_ids.specs.declared.task_id.TaskId.{TaskId}
use Rattle.task_events.specs.declared.event.Event.{Event}
use Rattle.task_events.specs.declared.reply.Reply.{Reply}
use Rattle.task_events.specs.declared.request.ReindexAsk.{ReindexAsk}
use Rattle.task_events.specs.declared.request.Request.{Request}
use Rattle.task_events.specs.Counting.{answers_in, failures_of}
use Rattle.task_events.specs.Kind.{Progress}
use Rattle.task_events.specs.Kinds.{kind_of}
use Rattle.task_events.specs.Lawful.{Lawful}
use Rattle.task_events.specs.Requests.{Scripted, request_of}
use Rattle.task_events.specs.SliceTask.{slice_step}
use Rattle.task_events.specs.Steps.{asked_by}
use Rattle.task_events.specs.Tasks.{reply_of}
use Rattle.write_laws.specs.KindsAsked.{KeepsToKinds}
use Rattle.write_laws.proofs.AskedInOrder.{asked_stays}
use Rattle.write_laws.proofs.EndedWritten.{ended_says}
use Rattle.write_laws.proofs.SliceEnds.{none_failing}
use Rattle.write_laws.proofs.WholeTurns.{AllPlanned}

module _ (cluster : Cluster) (corpus : Corpus) (said : Scripted) (request : Request) (ask : ReindexAsk) (slice : ℕ)
    (does : (t : TaskId) (made : Corpus) (q : Progress) (now : ℕ) → (kind_of request).step cluster made t q now ≡ slice_step t ask slice cluster.shards q.asked q.came now) where
  pub no_failures : (h : List Event) → Lawful cluster h → KeepsToKinds said h → AllPlanned cluster corpus said h → (t : TaskId) (reply : Reply) → failures_of reply ≡ 0 → reply_of t h ≡ Some reply → request_of said t h ≡ Some request
      → sum_by failures_of (answers_in (asked_by t h)) ≡ 0
  no_failures =
      ended_says cluster corpus said request (λ last. failures_of last ≡ 0) (λ u c fits. absurd (omega (arith, fits))) (λ t h. sum_by failures_of (answers_in (asked_by t h)) ≡ 0)
      (λ e h t l ended s. ap (λ xs. sum_by failures_of (answers_in xs)) (asked_stays cluster e h t l ended) ∙ s) (λ t last h s. s)
      (λ h t last l keeps p asked fits. none_failing cluster corpus said t request ask slice (does t) h last p asked fits)
