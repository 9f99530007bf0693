-- Characters that markup is made of.
use Rattle.std.specs.Prelude.{ℕ, ◌≢◌}

-- The character is none of `"`, `&`, `<` and `>`: in a text, and in an attribute within double quotes, it stands for itself.
abbrev pub IsPlain : ℕ → Type 0
IsPlain c = (c ≢ 34) × (c ≢ 38) × (c ≢ 60) × (c ≢ 62)
