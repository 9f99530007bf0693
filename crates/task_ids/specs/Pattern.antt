-- Patterns, by which task lists are filtered: `*` stands for any run of bytes, also the empty one, and each other byte for itself.
use Rattle.std.specs.Prelude.{◌≡◌, ℕ, ◌==◌, ◌&&◌, Bool, false, List, [], ◌∷◌, ◌++◌, length, if◌then◌else◌, drop}
use Rattle.std.specs.List.{list_any}

-- the first of some runs of bytes, and the empty run where there is none
abbrev pub first_run : List (List ℕ) → List ℕ
first_run [] = []
first_run (run ∷ runs) = run

-- the pattern with its first `*` replaced by the first run, its second by the second, and so on
abbrev pub filled : List ℕ → List (List ℕ) → List ℕ
filled [] runs = []
filled (byte ∷ pattern) runs = if byte == 42 then first_run runs ++ filled pattern (drop 1 runs) else byte ∷ filled pattern runs

-- The text is the pattern with each `*` replaced by some run of bytes.
abbrev pub MatchesPattern : List ℕ → List ℕ → Type 0
MatchesPattern pattern text = (runs : List (List ℕ)) × (text ≡ filled pattern runs)

-- the rests of a text: all of it, all but its first byte, and so on to none of it
abbrev pub rests : List ℕ → List (List ℕ)
rests [] = [] ∷ []
rests (byte ∷ text) = (byte ∷ text) ∷ rests text

-- a text begins with a byte, and what comes after it passes a test
abbrev pub begins_with : ℕ → (List ℕ → Bool) → List ℕ → Bool
begins_with wanted test [] = false
begins_with wanted test (byte ∷ text) = (wanted == byte) && test text

-- the same as a test: where the pattern begins with `*`, some rest of the text matches what comes after that
abbrev pub matches_pattern : List ℕ → List ℕ → Bool
matches_pattern [] text = length text == 0
matches_pattern (wanted ∷ pattern) text =
    if wanted == 42 then list_any (λ rest. matches_pattern pattern rest) (rests text) else begins_with wanted (λ rest. matches_pattern pattern rest) text
