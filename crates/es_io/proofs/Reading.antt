-- What was read so far, against what was left at the start.
use Rattle.std.proofs.Common.{◌≡◌, ℕ, List, ◌++◌, length, take, drop, Some, None, IfSome, refl, sym, ap, ◌∙◌, subst, append_assoc, take-append-drop}
use Rattle.std.proofs.lemmas.List.{drop_at}
use Rattle.std.specs.declared.option.Option.{Option}
use Rattle.es_io.specs.Bytes.{Loses}

-- where the old bytes are known, they are the text and then the new bytes
abbrev pub SplitsInto : Option (List ℕ) → Option (List ℕ) → List ℕ → Type 0
SplitsInto old new text = IfSome old (λ bytes. (rest : List ℕ) × (bytes ≡ text ++ rest) × (new ≡ Some rest))

-- what a read says, at the bytes that are left
pub at_rest : (b : Option (List ℕ)) (rest : List ℕ) (P : List ℕ → Type 0) → b ≡ Some rest → IfSome b P → P rest
at_rest b rest P e h = subst (λ o. IfSome o P) e h

-- one read more
pub split_more : (a b c : Option (List ℕ)) (text buf : List ℕ) (n : ℕ) → SplitsInto a b text
    → IfSome b (λ bytes. take n buf ≡ take n bytes) → Loses b c n → SplitsInto a c (text ++ take n buf)
split_more None b c text buf n split next taken = tt
split_more (Some bytes) b c text buf n (rest, whole, left) next taken =
    let front : take n buf ≡ take n rest = at_rest b rest _ left next in
    let parts : bytes ≡ (text ++ take n rest) ++ drop n rest =
    whole ∙ ap (λ l. text ++ l) (sym (take-append-drop n rest)) ∙ sym (append_assoc text (take n rest) (drop n rest)) in
    (drop n rest, parts ∙ ap (λ l. (text ++ l) ++ drop n rest) (sym front), at_rest b rest _ left taken)

-- some first bytes are gone
pub split_drop : (a b : Option (List ℕ)) (text : List ℕ) → SplitsInto a b text → IfSome a (λ bytes. (k : ℕ) × (b ≡ Some (drop k bytes)))
split_drop None b text split = tt
split_drop (Some bytes) b text (rest, whole, left) =
    (length text, left ∙ ap Some (sym (ap (drop (length text)) whole ∙ drop_at text rest (length text) refl)))

-- a read that gave nothing changes nothing
pub split_same : (a b c : Option (List ℕ)) (text : List ℕ) → SplitsInto a b text → c ≡ b → SplitsInto a c text
split_same a b c text split kept = subst (λ o. SplitsInto a o text) (sym kept) split
