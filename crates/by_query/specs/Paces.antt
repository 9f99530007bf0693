-- When the next batch of a slice is due: by the rate at the answer of the one before, and by every later rate.
use Rattle.std.specs.Prelude.{ℕ, ◌+◌, min, List, [], ◌∷◌, Option, None, Some, option_map}
use Rattle.throttle.specs.Waits.{wait_at}

-- a batch that was written: the moment of its answer, how many documents it has, how long it took, and how long is waited after it
pub record Rest : Type 0 where
  pub answered : ℕ
  pub batch : ℕ
  pub spent : ℕ
  pub wait : ℕ

-- the pace of a slice, one of so many: the rate in force, and the batch after which it rests
pub record Pacing : Type 0 where
  pub slices : ℕ
  pub rate : Option ℕ
  pub rest : Option Rest

abbrev pub new_pace : (slices : ℕ) → Option ℕ → Pacing
new_pace slices rate = record { slices = slices; rate = rate; rest = None }

-- a batch was answered
abbrev pub after_batch : (batch spent now : ℕ) → Pacing → Pacing
after_batch batch spent now pace = record pace { rest = Some (record { answered = now; batch = batch; spent = spent; wait = wait_at pace.rate batch pace.slices spent }) }

-- no longer than a batch takes at this rate
abbrev pub at_most_for : (slices : ℕ) → Option ℕ → Rest → Rest
at_most_for slices rate rest = record rest { wait = min rest.wait (wait_at rate rest.batch slices rest.spent) }

-- the rate is another one from here on
abbrev pub with_rate : Option ℕ → Pacing → Pacing
with_rate rate pace = record pace { rate = rate; rest = option_map (at_most_for pace.slices rate) pace.rest }

-- the moment from which on the next batch may be read
abbrev pub due_of : Pacing → Option ℕ
due_of pace = option_map (λ rest. rest.answered + rest.wait) pace.rest

-- ---- over all rates since an answer

-- with one rate after the other
abbrev pub with_rates : List (Option ℕ) → Pacing → Pacing
with_rates [] pace = pace
with_rates (rate ∷ later) pace = with_rates later (with_rate rate pace)

abbrev pub least_of : ℕ → List ℕ → ℕ
least_of n [] = n
least_of n (m ∷ ms) = least_of (min n m) ms
