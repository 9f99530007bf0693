-- Whether an answer fits a task that may be live is decided.
use Rattle.std.proofs.Common.{◌≡◌, ◌≤◌, ◌-◌, ◌⊎◌, inl, inr, Option, None, Some, refl}
use Rattle.std.specs.Prelude.{ℕ, slice_get, slice_index_or, is_some}
use native.Mathlib.Decide.{dec_le}
use Rattle.task_ids.specs.declared.task_id.TaskId.{TaskId}
use Rattle.child_track.specs.Token.{ReceiptParts}
use Rattle.child_track.specs.Track.{Track, Answers}
use Rattle.task_events.specs.declared.answered.AnsweredRequest.{AnsweredRequest}
use Rattle.task_events.specs.declared.reply.Reply.{Reply}
use Rattle.node_link.specs.declared.body.Place.{Place}
use Rattle.live_tasks.specs.declared.entry.Entry.{Entry}
use Rattle.live_tasks.specs.Answering.{IsAnswer, IsOfPlace, IsToAsk}
use Rattle.live_tasks.proofs.Keys.{places_eq}
use Rattle.control_worker.proofs.Parents.{alike, differs}
use Rattle.run_cluster.proofs.Decisions.{Decided, both, both_three, decided_true, decided_some}
use Rattle.run_cluster.proofs.Alike.{asked_decided}

decided_task : (a b : TaskId) → Decided (a ≡ b)
decided_task a b = elim (alike a b) [
  | inl e ↦ inl e
  | inr other ↦ inr (λ e. differs a b e other)
]

decided_le : (a b : ℕ) → Decided (a ≤ b)
decided_le a b = elim (dec_le a b) [
  | yes l ↦ inl l
  | no m ↦ inr m
]

answers_decided : (receipt : ReceiptParts) (track : Track) → Decided (Answers receipt track)
answers_decided receipt track = both (decided_some decided_task receipt.parent track.task)
    (both (decided_le 1 receipt.ask) (decided_true (is_some (slice_index_or track.asks (receipt.ask - 1) None))))

abbrev pub FitsIn : ReceiptParts → Place → AnsweredRequest → Reply → Option Entry → Type 0
FitsIn receipt place request reply o = IsAnswer receipt reply o × IsOfPlace receipt place o × IsToAsk receipt request o

-- it fits a live task, or there is none that it fits
pub fits_or_not : (receipt : ReceiptParts) (place : Place) (request : AnsweredRequest) (reply : Reply) (o : Option Entry) → ((e : Entry) × (o ≡ Some e) × FitsIn receipt place request reply o) ⊎ (FitsIn receipt place request reply o → ⊥)
fits_or_not receipt place request reply None = inr (λ f. f.0)
fits_or_not receipt place request reply (Some e) = by_case (both_three (both (answers_decided receipt e.running.track) (decided_true _))
    (decided_some places_eq (slice_get e.asked (receipt.ask - 1)) place) (asked_decided e.running.work receipt.ask request))
  where
    by_case : Decided (FitsIn receipt place request reply (Some e)) → ((d : Entry) × (Some e ≡ Some d) × FitsIn receipt place request reply (Some e)) ⊎ (FitsIn receipt place request reply (Some e) → ⊥)
    by_case (inl fits) = inl (e, refl, fits)
    by_case (inr never) = inr never
