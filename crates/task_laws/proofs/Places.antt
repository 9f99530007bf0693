-- A message in flight is the only one of its kind, so that to deliver it is to take it from its place.
use Rattle.std.proofs.Common.{◌≡◌, ◌+◌, ◌≤◌, ◌<◌, ℕ, zero, suc, Bool, true, false, cond, List, [], ◌∷◌, Some, refl, ap, arith}
use Rattle.std.specs.Prelude.{remove, slice_get}
use Rattle.task_events.specs.declared.event.Event.{Event}
use Rattle.task_events.specs.Messages.{Message, without, in_flight, number_in_flight}
use Rattle.task_events.specs.Laws.{IsDeliveredAt}
use Rattle.task_laws.proofs.Numbers.{number, number_is}

found : (test : Message → Bool) (ms : List Message) (i : ℕ) (m : Message) → slice_get ms i ≡ Some m → test m ≡ true → 0 < number test ms
found test [] i m e t = absurd (cc)
found test (x ∷ ms) zero m e t = let same : x ≡ m = cc in let yes : test x ≡ true = rw same t in rw yes (omega arith)
found test (x ∷ ms) (suc i) m e t = let rest = found test ms i m e t in omega arith

-- a message that is found before is another one
first_fails : (b : Bool) (n : ℕ) → cond b 1 0 + n ≤ 1 → 0 < n → b ≡ false
first_fails true n l i = absurd (omega arith)
first_fails false n l i = refl

taken_from : (test : Message → Bool) (ms : List Message) (i : ℕ) (m : Message) → number test ms ≤ 1 → slice_get ms i ≡ Some m → test m ≡ true → without test ms ≡ remove ms i
taken_from test [] i m l e t = absurd (cc)
taken_from test (x ∷ ms) zero m l e t = let same : x ≡ m = cc in let yes : test x ≡ true = rw same t in rw yes
taken_from test (x ∷ ms) (suc i) m l e t =
    let no : test x ≡ false = first_fails (test x) (number test ms) l (found test ms i m e t) in
    let rest = taken_from test ms i m (omega arith) e t in
    rw no (ap (λ xs. x ∷ xs) rest)

pub at_place : (test : Message → Bool) (h : List Event) (i : ℕ) (m : Message) → number_in_flight test h ≤ 1 → slice_get (in_flight h) i ≡ Some m → test m ≡ true → IsDeliveredAt i test h
at_place test h i m l e t =
    let is = number_is test (in_flight h) in
    let some = found test (in_flight h) i m e t in
    (omega arith, taken_from test (in_flight h) i m (omega arith) e t)
