-- A task id has one spelling, and what is spelled so has one id.
use Rattle.std.proofs.Common.{◌≡◌, ℕ, zero, suc, ◌<◌, ◌≤◌, ◌^◌, List, ◌∷◌, ◌++◌, Option, Some, None, Result, Ok, Err, MatchOption, Bor, get_or, decimal, sym, ap, subst, ◌∙◌, arith, lit<}
use Rattle.std.proofs.lemmas.Str.Parse.{IsNumeralModel, numerals_by_value, tells_digits, not_in_digits, parse_plain, digit_at}
use Rattle.std.proofs.lemmas.Str.Pattern.{IsSplitOnceResult, split_after}
use Rattle.std.proofs.lemmas.Fmt.{digits_decimal, decimal-digits_value, decimal_digit, decimal_injective, decimal_nonempty, first_decimal, parse-decimal}
use Rattle.std.specs.Str.Parse.{AllDigits, digits_value, ParsesUnsigned}
use Rattle.task_ids.specs.TaskId.{task_id_text}
use Rattle.task_ids.specs.declared.task_id.TaskId.{TaskId}

numerals : IsNumeralModel (AllDigits 10) (digits_value 10)
numerals = numerals_by_value (AllDigits 10) tells_digits

-- only a number above 0 is spelled with a first digit above 0
above_zero : (bs : List ℕ) (n : ℕ) → bs ≡ decimal n → 49 ≤ get_or bs 0 0 → 1 ≤ n
above_zero bs zero e low =
    let first : get_or bs 0 0 ≡ 48 = ap (λ (ds : List ℕ). get_or ds 0 0) (e ∙ decimal_digit 0 (lit< tt)) in
    absurd (omega arith)
above_zero bs (suc n) e low = omega arith

-- what `parse` says of the number that it read, and of its error, at every type of errors
abbrev pub Reads : List ℕ → ℕ → Type 0
Reads bs n = ParsesUnsigned {E = ℕ} 32 10 bs (Ok n)

abbrev pub ReadsNone : List ℕ → Type 0
ReadsNone bs = ParsesUnsigned {E = ℕ} 32 10 bs (Err 0)

-- a text of digits that does not begin with 0 is the spelling of its number, which is not 0
pub read_number : (bs : List ℕ) (n : ℕ) → Reads bs n → 49 ≤ get_or bs 0 0 → get_or bs 0 0 ≤ 57 → (bs ≡ decimal n) × (1 ≤ n) × (n < 2 ^ 64)
read_number bs n h low high =
    let plain = parse_plain numerals {E = ℕ} 32 bs (Ok n) h (omega arith) in
    let small : digits_value 10 bs < 2 ^ 64 = omega (arith, plain.0.2) in
    let spelled : bs ≡ decimal n =
    sym (decimal-digits_value numerals bs plain.0.0 plain.0.1 (λ e. absurd (omega arith)) small) ∙ ap decimal (sym plain.1) in
    (spelled, above_zero bs n spelled low, omega (arith, plain.1))

-- the number that is read is the one that is spelled
pub one_read : (bs : List ℕ) (m n : ℕ) → Reads bs m → bs ≡ decimal n → n < 2 ^ 32 → m ≡ n
one_read bs m n h e high = let same : ◌≡◌ {A = Result ℕ ℕ} (Ok m) (Ok n) = parse-decimal 32 n bs (Ok m) high (omega arith) e h in cc

-- what is spelled is read
pub read_spelled : (bs : List ℕ) (n : ℕ) → ReadsNone bs → bs ≡ decimal n → n < 2 ^ 32 → ⊥
read_spelled bs n h e high = let same : ◌≡◌ {A = Result ℕ ℕ} (Err 0) (Ok n) = parse-decimal 32 n bs (Err 0) high (omega arith) e h in absurd (cc)

-- the spelling of a number above 0 begins with a digit above 0
pub first_digit : (bs : List ℕ) (n : ℕ) → bs ≡ decimal n → 1 ≤ n → n < 2 ^ 32 → (49 ≤ get_or bs 0 0) × (get_or bs 0 0 ≤ 57)
first_digit bs n e low high =
    let small : n < 2 ^ 64 = omega arith in
    let first : 48 < get_or bs 0 0 = subst (λ (ds : List ℕ). 48 < get_or ds 0 0) (sym e) (first_decimal n low small) in
    let digit = digit_at (decimal n) 0 (digits_decimal numerals n small) (decimal_nonempty n small) in
    let last : get_or bs 0 0 ≤ 57 = subst (λ (ds : List ℕ). get_or ds 0 0 ≤ 57) (sym e) (omega (arith, digit)) in
    (first, last)

-- an id's text is cut at its colon
pub split_id : (t : TaskId) (bs rest : List ℕ) (r : Option (Bor (List ℕ) × Bor (List ℕ))) → IsSplitOnceResult 58 rest r → bs ≡ 110 ∷ rest → bs ≡ task_id_text t → MatchOption r ⊥ (λ x. (x.0.now ≡ decimal t.node) × (x.1.now ≡ decimal t.number))
split_id t bs rest r h b e =
    let small : t.node < 2 ^ 64 = omega (arith, t.node_in_range) in
    let cut : rest ≡ decimal t.node ++ (58 ∷ decimal t.number) = cc in
    split_after 58 rest (decimal t.node) (decimal t.number) r h (lit< tt) cut
    (not_in_digits numerals (decimal t.node) 58 (digits_decimal numerals (t.node) small) (λ d. absurd (omega (arith, d))))

-- the text of an id's parts is that of the id
pub joined : (u t : TaskId) (bs rest front back : List ℕ) → Some u ≡ Some t → bs ≡ 110 ∷ rest → rest ≡ front ++ (58 ∷ back) → front ≡ decimal u.node → back ≡ decimal u.number → bs ≡ task_id_text t
joined u t bs rest front back same e f g h =
    let one : u ≡ t = cc in
    let whole : bs ≡ task_id_text u = cc in
    whole ∙ ap task_id_text one

-- no id is read where no id is spelled
pub none_spelled : (o : Option TaskId) (bs : List ℕ) → o ≡ None → ((t : TaskId) → bs ≡ task_id_text t → ⊥) → (t : TaskId) → (o ≡ Some t → bs ≡ task_id_text t) × (bs ≡ task_id_text t → o ≡ Some t)
none_spelled o bs e never t = (λ h. absurd (cc), λ h. absurd (never t h))

-- no number is read where none in the range is spelled
pub none_numbered : (o : Option ℕ) (bs : List ℕ) (most : ℕ) → o ≡ None → ((n : ℕ) → 1 ≤ n → n ≤ most → bs ≡ decimal n → ⊥) → (n : ℕ) → (o ≡ Some n → (1 ≤ n) × (n ≤ most) × (bs ≡ decimal n)) × ((1 ≤ n) × (n ≤ most) × (bs ≡ decimal n) → o ≡ Some n)
none_numbered o bs most none never n = (λ h. absurd (cc), λ h. absurd (never n h.0 h.1 h.2))

-- the number that is read is the one that is spelled
pub one_numbered : (bs : List ℕ) (most m : ℕ) → bs ≡ decimal m → 1 ≤ m → m ≤ most → most < 2 ^ 64 → (n : ℕ) → (Some m ≡ Some n → (1 ≤ n) × (n ≤ most) × (bs ≡ decimal n)) × ((1 ≤ n) × (n ≤ most) × (bs ≡ decimal n) → Some m ≡ Some n)
one_numbered bs most m e low high small n = (
  (λ h. let same : m ≡ n = cc in (subst (λ k. 1 ≤ k) same low, subst (λ k. k ≤ most) same high, e ∙ ap decimal same)),
  (λ h. ap Some (decimal_injective m n (omega arith) (omega arith) (sym e ∙ h.2))),
)
