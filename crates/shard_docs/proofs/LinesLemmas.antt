-- The first line of some bytes, and the lines after it.
use Rattle.std.proofs.Common.{◌≡◌, ℕ, suc, ◌+◌, ◌-◌, ◌<◌, ◌≤◌, Bool, true, false, cond, eqb, List, [], ◌∷◌, ◌++◌, length, take, take_all, drop, get_or, length-take, All, refl, sym, ap, ◌∙◌, subst, arith}
use Rattle.std.specs.List.{slice_split}
use Rattle.std.specs.Str.Lines.{lines, lines_of_parts, strip_carriage_return}
use Rattle.std.proofs.lemmas.List.Splits.{slice_split_none, slice_split_at, length-slice_split}
use Rattle.std.proofs.lemmas.List.Elements.{All-from_get_or}
use Rattle.std.proofs.lemmas.List.{take-append-drop, get_or-take, length-drop, drop-drop}
use Rattle.std.proofs.Math.Nat.{sub-zero}
use Rattle.std.proofs.Math.Seq.{drop-cons, drop-length}
use Rattle.shard_docs.specs.Ends.{IsEndOf}
use Rattle.memchr.specs.Find.{Nowhere, NoneBefore, Passes, is_byte}

-- the byte is a newline
abbrev pub ends_line : ℕ → Bool
ends_line b = eqb b 10

-- a part before another is a line, whatever the others are
lines_of_parts-more : (part : List ℕ) (parts : List (List ℕ)) → 0 < length parts → lines_of_parts (part ∷ parts) ≡ strip_carriage_return part ∷ lines_of_parts parts
lines_of_parts-more part [] h = absurd (omega arith)
lines_of_parts-more part (next ∷ more) h = refl

-- without a newline all the bytes are one line
pub lines-none : (bs : List ℕ) → 0 < length bs → All (λ b. ends_line b ≡ false) bs → lines bs ≡ bs ∷ []
lines-none [] h none = absurd (omega arith)
lines-none (b ∷ bs) h none =
    let not_empty : eqb (length (b ∷ bs)) 0 ≡ false = grind arith in
    ap lines_of_parts (slice_split_none ends_line (b ∷ bs) none) ∙ ap (λ empty. cond empty [] ((b ∷ bs) ∷ [])) not_empty

-- a newline after bytes that are none ends the first line
pub lines-first : (line rest : List ℕ) → All (λ b. ends_line b ≡ false) line → lines (line ++ 10 ∷ rest) ≡ strip_carriage_return line ∷ lines rest
lines-first line rest none =
    ap lines_of_parts (slice_split_at ends_line line 10 rest none refl)
    ∙ lines_of_parts-more line (slice_split ends_line rest) (omega (arith, length-slice_split ends_line rest))

-- a byte that is not found to be a newline is none
none_is : (b : ℕ) → ¬ (ends_line b ≡ true) → ends_line b ≡ false
none_is b h = grind (arith, h)

-- no byte of a front in which no newline is found is one
none_before : (bs : List ℕ) (n : ℕ) → n ≤ length bs → Nowhere (Passes (is_byte 10) bs) 0 n → All (λ b. ends_line b ≡ false) (take n bs)
none_before bs n within nowhere =
    All-from_get_or (λ b. ends_line b ≡ false) (take n bs) 0 (λ i below.
    let inside : i < n = omega (arith, below, length-take n bs) in
    rw get_or-take (none_is (get_or bs i 0) (nowhere i (omega arith) inside)))

-- where no newline is found, all the bytes are one line
pub lines-unended : (bs : List ℕ) → 0 < length bs → Nowhere (Passes (is_byte 10) bs) 0 (length bs) → lines bs ≡ bs ∷ []
lines-unended bs some nowhere =
    let all = none_before bs (length bs) (omega arith) nowhere in
    lines-none bs some (subst (λ front. All (λ b. ends_line b ≡ false) front) (take_all (length bs) bs (omega arith)) all)

newline_is : (b : ℕ) → ends_line b ≡ true → b ≡ 10
newline_is b h = grind (arith, h)

-- bytes, parted at a newline
parted : (bs : List ℕ) (n : ℕ) → n < length bs → get_or bs n 0 ≡ 10 → bs ≡ take n bs ++ (10 ∷ drop (suc n) bs)
parted bs n within newline =
    sym (take-append-drop n bs) ∙ ap (λ back. take n bs ++ back) (drop-cons bs n 0 within ∙ ap (λ b. b ∷ drop (suc n) bs) newline)

-- where the first newline is found at n, the first line is what is before it
pub lines-ended : (bs : List ℕ) (n : ℕ) → NoneBefore (Passes (is_byte 10) bs) 0 (length bs) n → Passes (is_byte 10) bs n
    → lines bs ≡ strip_carriage_return (take n bs) ∷ lines (drop (suc n) bs)
lines-ended bs n first here =
    ap lines (parted bs n first.high (newline_is (get_or bs n 0) here)) ∙ lines-first (take n bs) (drop (suc n) bs) (none_before bs n (omega (arith, first.high)) first.before)

-- the rest after a newline, as a slice from the second place of what is from the newline on
pub rest_after : (bs : List ℕ) (n : ℕ) → n < length bs → take (length (drop n bs) - 1) (drop 1 (drop n bs)) ≡ drop (suc n) bs
rest_after bs n within = rw (drop-cons bs n 0 within) (take_all _ (drop (suc n) bs) (omega arith))

-- the bytes from a place on are the last ones
pub ends_at : (bs : List ℕ) (n : ℕ) → n ≤ length bs → IsEndOf (drop n bs) bs
ends_at bs n within = let place : n ≡ length bs - length (drop n bs) = omega (arith, length-drop n bs) in ap (λ k. drop k bs) place

-- no bytes are the last ones
pub ends_empty : (bs : List ℕ) → IsEndOf [] bs
ends_empty bs = sym (ap (λ n. drop n bs) (sub-zero (length bs)) ∙ drop-length bs)

-- the end of an end is an end
pub end_of_end : (part middle whole : List ℕ) → IsEndOf part middle → IsEndOf middle whole → IsEndOf part whole
end_of_end part middle whole p m =
    let inner = omega_length part middle p in
    let outer = omega_length middle whole m in
    let place : (length whole - length middle) + (length middle - length part) ≡ length whole - length part = omega arith in
    p ∙ ap (λ bs. drop (length middle - length part) bs) m ∙ drop-drop (length middle - length part) (length whole - length middle) whole ∙ ap (λ n. drop n whole) place
  where
    omega_length : (a b : List ℕ) → IsEndOf a b → length a ≤ length b
    omega_length a b e = omega (arith, ap length e, length-drop (length b - length a) b)
