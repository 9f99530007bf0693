-- What a call does to bytes that may be known: those still to come, and those written so far.
use Rattle.std.specs.Prelude.{ℕ, ◌≡◌, ◌-◌, List, ◌++◌, length, drop, IfSome, Some}
use Rattle.std.specs.declared.option.Option.{Option}

-- where the old bytes are known, the new ones are known too, and have grown by text
abbrev pub Appends : Option (List ℕ) → Option (List ℕ) → List ℕ → Type 0
Appends old new text = IfSome old (λ bytes. new ≡ Some (bytes ++ text))

-- where the old bytes are known, the new ones are known too, and have lost their first n
abbrev pub Loses : Option (List ℕ) → Option (List ℕ) → ℕ → Type 0
Loses old new n = IfSome old (λ bytes. new ≡ Some (drop n bytes))

-- where the bytes to come are known before and after, a fact of how many of them were given
abbrev pub IfGave : Option (List ℕ) → Option (List ℕ) → (ℕ → Type 0) → Type 0
IfGave before after P = IfSome before (λ bytes. IfSome after (λ rest. P (length bytes - length rest)))
