-- The least wait over the rates since an answer.
use Rattle.std.proofs.Common.{◌≡◌, ℕ, ◌+◌, List, [], ◌∷◌, Option, Some, map, min, refl}
use Rattle.throttle.specs.Waits.{wait_at}
use Rattle.by_query.specs.Paces.{Pacing, Rest, with_rates, due_of, least_of}

rests_on : (slices answered batch spent wait : ℕ) (rate : Option ℕ) (later : List (Option ℕ))
    → due_of (with_rates later (record { slices = slices; rate = rate; rest = Some (record { answered = answered; batch = batch; spent = spent; wait = wait }) }))
    ≡ Some (answered + least_of wait (map (λ r. wait_at r batch slices spent) later))
rests_on slices answered batch spent wait rate [] = refl
rests_on slices answered batch spent wait rate (next ∷ later) = rests_on slices answered batch spent (min wait (wait_at next batch slices spent)) next later

pub due_at : (pace : Pacing) (batch spent now : ℕ) (later : List (Option ℕ))
    → due_of (with_rates later (record pace { rest = Some (record { answered = now; batch = batch; spent = spent; wait = wait_at pace.rate batch pace.slices spent }) }))
    ≡ Some (now + least_of (wait_at pace.rate batch pace.slices spent) (map (λ r. wait_at r batch pace.slices spent) later))
due_at pace batch spent now later = rests_on pace.slices now batch spent (wait_at pace.rate batch pace.slices spent) pace.rate later
