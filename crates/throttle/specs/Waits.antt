-- How long a batch of documents takes at a rate, and how much of that is left to wait.
use Rattle.std.specs.Prelude.{ℕ, ◌*◌, ◌/◌, ◌-◌, Option, Some, None}
use Rattle.throttle.specs.declared.rate.Rate.{Rate}
use Rattle.throttle.specs.declared.rate.Rate.TheVariants as rates

-- how many documents a second a rate allows, where it bounds them
abbrev pub per_second : Rate → Option ℕ
per_second rates.None = None
per_second (rates.PerSecond documents) = Some documents.count

-- the whole milliseconds that a batch of one slice takes, where all slices together write so many documents a second
abbrev pub time_of : (batch slices rate : ℕ) → ℕ
time_of batch slices rate = 1000 * batch * slices / rate

-- what is left of that time once so many milliseconds were spent on the batch
abbrev pub wait_at : Option ℕ → (batch slices spent : ℕ) → ℕ
wait_at None batch slices spent = 0
wait_at (Some rate) batch slices spent = time_of batch slices rate - spent

abbrev pub wait_of : (batch slices : ℕ) → Rate → (spent : ℕ) → ℕ
wait_of batch slices rate spent = wait_at (per_second rate) batch slices spent
