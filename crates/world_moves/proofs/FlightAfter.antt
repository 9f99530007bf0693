-- What the entries of the queue say stays so when more happens.
use Rattle.std.proofs.Common.{◌≡◌, ◌<◌, ℕ, List, [], ◌∷◌, length, Option, Some, None, refl, ap, ◌∙◌, map, arith}
use Rattle.std.proofs.lemmas.Bool.Decides.{nat_tests}
use Rattle.std.specs.Prelude.{option_map, option_and_then}
use Rattle.task_ids.specs.declared.task_id.TaskId.{TaskId}
use Rattle.task_events.specs.declared.event.Event.{Event}
use Rattle.task_events.specs.Messages.{Message}
use Rattle.world_moves.specs.declared.flight.Sent.{Sent}
use Rattle.world_moves.specs.declared.flight.Sent.TheVariants as sent
use Rattle.world_moves.specs.Flights.{event_at, message_of, request_in, reply_in}

-- an event that is found stands below the newest
pub event_below : (at : ℕ) (h : List Event) (x : Event) → event_at at h ≡ Some x → at < length h
event_below at [] x e = absurd (cc)
event_below at (e ∷ h) x f = grind (arith, nat_tests, event_below at h x)

pub event_stays : (at : ℕ) (e : Event) (h : List Event) (x : Event) → event_at at h ≡ Some x → event_at at (e ∷ h) ≡ Some x
event_stays at e h x f = let below = event_below at h x f in grind (arith, nat_tests)

pub event_newest : (e : Event) (h : List Event) → event_at (length h) (e ∷ h) ≡ Some e
event_newest e h = grind (arith, nat_tests)

-- what is read of an event that is found
found : {A : Type 0} (f : Event → Option A) (at : ℕ) (e : Event) (h : List Event) (a : A) (o : Option Event) → event_at at h ≡ o → option_and_then f o ≡ Some a → option_and_then f (event_at at (e ∷ h)) ≡ Some a
found f at e h a None g s = absurd (cc)
found f at e h a (Some x) g s = ap (option_and_then f) (event_stays at e h x g) ∙ s

through : {A B : Type 0} (f : A → B) (o p : Option A) (b : B) → option_map f o ≡ Some b → ((a : A) → o ≡ Some a → p ≡ Some a) → option_map f p ≡ Some b
through f None p b e g = absurd (cc)
through f (Some a) p b e g = ap (option_map f) (g a refl) ∙ e

pub message_stays : (e : Event) (h : List Event) (s : Sent) (m : Message) → message_of h s ≡ Some m → message_of (e ∷ h) s ≡ Some m
message_stays e h (sent.Notice notice) m g = g
message_stays e h (sent.Request token to at headers) m g = through _ _ _ m g (λ a f. found request_in at e h a (event_at at h) refl f)
message_stays e h (sent.Answer receipt at) m g = of_parent receipt.parent refl g
  where
    of_parent : (o : Option TaskId) → receipt.parent ≡ o → message_of h (sent.Answer receipt at) ≡ Some m → message_of (e ∷ h) (sent.Answer receipt at) ≡ Some m
    of_parent None i f = absurd (let x = rw i at f in cc)
    of_parent (Some p) i f = rw i (through _ _ _ m (rw i at f) (λ a k. found reply_in at e h a (event_at at h) refl k))

pub all_stay : (e : Event) (h : List Event) (queue : List Sent) (ms : List Message) → map (message_of h) queue ≡ map Some ms → map (message_of (e ∷ h)) queue ≡ map Some ms
all_stay e h [] ms g = g
all_stay e h (s ∷ queue) [] g = absurd (cc)
all_stay e h (s ∷ queue) (m ∷ ms) g =
    let first = message_stays e h s m (cc) in
    let later = all_stay e h queue ms (cc) in
    rw first (rw later refl)
