-- The time of a core.
use Rattle.std.specs.Prelude.{ℕ, ◌^◌, ◌-◌, Bool, Option, Some, None, if◌then◌else◌}

-- the last moment that a clock shows, in milliseconds
abbrev pub last_moment : ℕ
last_moment = 2 ^ 60 - 1

-- the moment by which a task goes on that is due at this one: now, or the due one where every due moment counts as past
abbrev pub moment_by : (now : ℕ) (draining : Bool) → Option ℕ → ℕ
moment_by now draining None = now
moment_by now draining (Some due) = if draining then due else now
