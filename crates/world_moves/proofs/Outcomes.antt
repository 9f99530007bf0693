-- The early ends of what is done.
use Rattle.std.proofs.Common.{◌≡◌, ℕ, List, ap, refl}
use Rattle.std.specs.Prelude.{Result, Ok, Err, IfErr, OnOk}
use Rattle.task_ids.specs.declared.cluster.Cluster.{Cluster}
use Rattle.task_events.specs.declared.event.Event.{Event}
use Rattle.task_events.specs.declared.stop.Stop.{Stop}
use Rattle.task_events.specs.declared.stop.Stop.TheVariants.{HistoryFull, NumbersSpent, Memory}
use Rattle.world_moves.specs.Moves.{Delivers, DeliveryLacksNumber, Stops, StopsDelivery, StopsMove, IsPartly, IsCutShort}
use Rattle.world_moves.proofs.CutShort.{cut_as}

-- what a call that failed says of its early ends, as one
pub stops_so : (stop : Stop) (IsPart : List Event → Type 0) (Lacks : Type 0) (new : List Event) → (stop ≡ HistoryFull → IsCutShort IsPart new) → (stop ≡ NumbersSpent → Lacks) → Stops IsPart Lacks new stop
stops_so HistoryFull IsPart Lacks new full numbers = full refl
stops_so NumbersSpent IsPart Lacks new full numbers = numbers refl
stops_so Memory IsPart Lacks new full numbers = tt

-- why one thing comes to an early end is why another does of which it is a part
pub stops_as : (P Q : List Event → Type 0) (A B : Type 0) (new : List Event) (stop : Stop) → ((past : List Event) → P past → Q past) → (A → B) → Stops P A new stop → Stops Q B new stop
stops_as P Q A B new HistoryFull part lacks cut = cut_as P Q new part cut
stops_as P Q A B new NumbersSpent part lacks a = lacks a
stops_as P Q A B new Memory part lacks any = tt

-- and where it delivered a message that is no request
pub delivery_stops : (cluster : Cluster) (h : List Event) (nth : ℕ) (new : List Event) (stop : Stop) → (stop ≡ HistoryFull → IsCutShort (IsPartly (λ x y. Delivers cluster x nth y) h) new) → (stop ≡ NumbersSpent → ⊥)
    → StopsDelivery cluster h nth new stop
delivery_stops cluster h nth new stop full numbers =
    stops_so stop (IsPartly (λ x y. Delivers cluster x nth y) h) (DeliveryLacksNumber cluster h nth × (new ≡ h)) new full (λ e. absurd (numbers e))

-- the same of what a call answers
pub stops : {T : Type 0} (r : Result T Stop) (IsPart : List Event → Type 0) (Lacks : Type 0) (new : List Event) → (r ≡ Err HistoryFull → IsCutShort IsPart new) → (r ≡ Err NumbersSpent → Lacks)
    → IfErr r (λ stop. Stops IsPart Lacks new stop)
stops (Ok x) IsPart Lacks new full numbers = tt
stops (Err stop) IsPart Lacks new full numbers = stops_so stop IsPart Lacks new (λ e. full (ap Err e)) (λ e. numbers (ap Err e))

-- where a move needs no number
pub move_stops : (Moves : List Event → List Event → Type 0) (h new : List Event) (stop : Stop) → (stop ≡ HistoryFull → IsCutShort (IsPartly Moves h) new) → (stop ≡ NumbersSpent → ⊥) → StopsMove Moves h new stop
move_stops Moves h new stop full numbers = stops_so stop (IsPartly Moves h) ⊥ new full numbers

-- three things that are so where a call succeeds
pub all_ok : {T E : Type 0} (r : Result T E) (P Q R S : Type 0) → OnOk r P → OnOk r Q → OnOk r R → (P → Q → R → S) → OnOk r S
all_ok (Ok x) P Q R S p q s f = f p q s
all_ok (Err e) P Q R S p q s f = tt
