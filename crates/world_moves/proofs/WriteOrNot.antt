-- An event is a write, or it is not.
use Rattle.std.proofs.Common.{◌≡◌, ℕ, false, List, refl}
use Rattle.task_events.specs.declared.event.Event.{Event}
use Rattle.task_events.specs.declared.event.Event.TheVariants.{Begin, Root, RootRejected, Ask, Put, Reject, Pass, Refuse, Cancel, NotFound, Mark, BanPut, Listed, Acked, BanGone, Work, Write, Answered, End, AnswerPlaced, AnswerDone, Tick}
use Rattle.task_events.specs.declared.event.Outcome.{Outcome}
use Rattle.world_moves.specs.Facts.{is_write}

module _ (P : Event → Type 0) (written : (index : List ℕ) (shard : ℕ) (outcome : Outcome) (id : List ℕ) → P (Write index shard outcome id)) (other : (e : Event) → is_write e ≡ false → P e) where
  pub write_or_not : (e : Event) → P e
  write_or_not (Begin k) = other (Begin k) refl
  write_or_not (Root k t) = other (Root k t) refl
  write_or_not (RootRejected k n) = other (RootRejected k n) refl
  write_or_not (Ask p k n r) = other (Ask p k n r) refl
  write_or_not (Put t p k) = other (Put t p k) refl
  write_or_not (Reject n p k) = other (Reject n p k) refl
  write_or_not (Pass t) = other (Pass t) refl
  write_or_not (Refuse t c) = other (Refuse t c) refl
  write_or_not (Cancel c t w) = other (Cancel c t w) refl
  write_or_not (NotFound c) = other (NotFound c) refl
  write_or_not (Mark t c) = other (Mark t c) refl
  write_or_not (BanPut n p c) = other (BanPut n p c) refl
  write_or_not (Listed n p) = other (Listed n p) refl
  write_or_not (Acked p n) = other (Acked p n) refl
  write_or_not (BanGone n p) = other (BanGone n p) refl
  write_or_not (Work t) = other (Work t) refl
  write_or_not (Write index shard outcome id) = written index shard outcome id
  write_or_not (Answered p k) = other (Answered p k) refl
  write_or_not (End t r) = other (End t r) refl
  write_or_not (AnswerPlaced c) = other (AnswerPlaced c) refl
  write_or_not (AnswerDone c) = other (AnswerDone c) refl
  write_or_not (Tick ms) = other (Tick ms) refl
