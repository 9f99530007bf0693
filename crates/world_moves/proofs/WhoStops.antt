-- The events that stop a task, and a mark, which stops none that is listed.
use Rattle.std.proofs.Common.{◌≡◌, ◌+◌, ℕ, Bool, true, false, cond, not, List, ◌∷◌, None, refl, ap, ◌∙◌, arith}
use Rattle.task_ids.specs.declared.task_id.TaskId.{TaskId}
use Rattle.task_ids.specs.declared.cluster.Cluster.{Cluster}
use Rattle.task_events.specs.declared.event.Event.{Event}
use Rattle.task_events.specs.declared.event.Event.TheVariants.{Refuse, Mark, Acked, End}
use Rattle.task_events.specs.declared.reply.Reply.{Reply}
use Rattle.task_events.specs.Allowed.{Allowed}
use Rattle.task_events.specs.Bans.{mark_of}
use Rattle.task_events.specs.Tasks.{is_live}
use Rattle.task_laws.proofs.Dues.{stops_now, end_other, refuse_other, acked_same, mark_other, after_end, after_refuse, after_acked, after_mark, unmarked_not_listed}
use Rattle.task_laws.proofs.Still.{still_stopped}
use Rattle.task_laws.proofs.Stops.{StopFacts, times_listed}
use Rattle.world_moves.proofs.OneStops.{StopsAtMost}

module _ (cluster : Cluster) (t : TaskId) (h : List Event) where
  pub end_stops : (r : Reply) → Allowed cluster (End t r) h → StopsAtMost t h (End t r ∷ h)
  end_stops r allowed = record { parents = λ u. refl; listed = λ n p. refl; children = λ n p. refl; others = end_other t r h; for_good = still_stopped cluster (End t r) h allowed t; numbers = λ n p. after_end cluster n p t r h allowed }

  pub refusal_stops : (c : ℕ) → Allowed cluster (Refuse t c) h → StopsAtMost t h (Refuse t c ∷ h)
  refusal_stops c allowed = record { parents = λ u. refl; listed = λ n p. refl; children = λ n p. refl; others = refuse_other t c h; for_good = still_stopped cluster (Refuse t c) h allowed t; numbers = λ n p. after_refuse cluster n p t c h allowed }

  pub ack_stops : (m : ℕ) → Allowed cluster (Acked t m) h → StopsAtMost t h (Acked t m ∷ h)
  ack_stops m allowed = record { parents = λ u. refl; listed = λ n p. refl; children = λ n p. refl; others = acked_same t m h; for_good = still_stopped cluster (Acked t m) h allowed t; numbers = λ n p. after_acked cluster n p t m h allowed }

  -- a task without a mark is in no list
  module _ (facts : StopFacts h) (live : is_live t h ≡ true) (unmarked : mark_of t h ≡ None) where
    pub none_there : (past : List Event) (n : ℕ) (p : TaskId) → cond (stops_now t h past) (times_listed n p t h) 0 ≡ 0
    none_there past n p = ap (λ k. cond (stops_now t h past) k 0) (unmarked_not_listed n p t h facts live unmarked) ∙ no_one (stops_now t h past)
      where
        no_one : (b : Bool) → cond {A = ℕ} b 0 0 ≡ 0
        no_one true = refl
        no_one false = refl

    pub mark_stops : (c : ℕ) → Allowed cluster (Mark t c) h → StopsAtMost t h (Mark t c ∷ h)
    mark_stops c allowed = record {
      parents = λ u. refl;
      listed = λ n p. refl;
      children = λ n p. refl;
      others = mark_other t c h;
      for_good = still_stopped cluster (Mark t c) h allowed t;
      numbers = λ n p. let none = none_there (Mark t c ∷ h) n p in let same = after_mark cluster n p t c h allowed facts in omega (arith, none, same);
    }
