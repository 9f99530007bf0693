-- The end of some bytes.
use Rattle.std.specs.Prelude.{◌≡◌, ℕ, ◌-◌, List, length, drop}

-- the bytes are the last ones of others
abbrev pub IsEndOf : List ℕ → List ℕ → Type 0
IsEndOf part whole = part ≡ drop (length whole - length part) whole
