-- When a row dies.
use Rattle.std.specs.Prelude.{ℕ, Bool, true, Option, Some, None, nat_lt}

-- a row that dies at a version is alive before it
abbrev pub is_alive_before : ℕ → Option ℕ → Bool
is_alive_before version None = true
is_alive_before version (Some died) = nat_lt version died
