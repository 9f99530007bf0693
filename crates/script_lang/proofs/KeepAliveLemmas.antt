-- The number and the unit of a keep-alive, and how many milliseconds it is.
use Rattle.std.proofs.Common.{◌≡◌, ℕ, zero, suc, ◌+◌, ◌*◌, ◌<◌, ◌≤◌, ◌^◌, List, [], ◌∷◌, length, get_or, take, drop, get_or-take, true, cond, Some, None, Ok, Err, Result, sym, ap, ◌∙◌, subst, arith}
use Rattle.std.proofs.Math.Nat.{le-mul_of_pos_right}
use Rattle.std.proofs.lemmas.Bool.Decides.{nat_tests}
use Rattle.std.proofs.lemmas.List.Folds.{length-prefix_len}
use Rattle.std.proofs.lemmas.List.Sums.{prefix_len-le-length, prefix_len_passes}
use Rattle.std.proofs.lemmas.Str.{IsCharBoundary-start, IsCharBoundary-after_ascii}
use Rattle.std.proofs.lemmas.Str.Parse.{IsNumeralModel, numerals_by_value, tells_by_index, parse_digits}
use Rattle.std.specs.Char.{is_ascii_digit}
use Rattle.std.specs.Int.{IsInRange}
use Rattle.std.specs.List.{prefix_len}
use Rattle.std.specs.Prelude.{option_and_then, nat_le}
use Rattle.std.specs.Result.{result_ok}
use Rattle.std.specs.Str.{IsUtf8, IsCharBoundary}
use Rattle.std.specs.Str.Parse.{digits_value, ParsesUnsigned}
use Rattle.script_lang.specs.KeepAlives.{day_ms, unit_ms, begins_with_1_to_9, of_units, keep_alive_of}

-- ---- the digits at the front

in_range : (c : ℕ) → is_ascii_digit c ≡ true → IsInRange 48 57 c
in_range c is = grind (arith, nat_tests, is)

digit_at : (text : List ℕ) (k : ℕ) → k < prefix_len is_ascii_digit text → IsInRange 48 57 (get_or text k 0)
digit_at text k within = in_range (get_or text k 0) (prefix_len_passes is_ascii_digit text k 0 within)

-- a text may be cut after the digits at its front
pub cut_after_digits : (text : List ℕ) → IsUtf8 text → IsCharBoundary text (prefix_len is_ascii_digit text)
cut_after_digits text utf8 = at (prefix_len is_ascii_digit text) (prefix_len-le-length is_ascii_digit text) (digit_at text)
  where
    at : (n : ℕ) → n ≤ length text → ((k : ℕ) → k < n → IsInRange 48 57 (get_or text k 0)) → IsCharBoundary text n
    at zero low digit = IsCharBoundary-start text utf8
    at (suc n) low digit =
        let next : n + 1 ≡ suc n = omega arith in
        subst (IsCharBoundary text) next (IsCharBoundary-after_ascii text n utf8 (omega arith) (omega (arith, digit n (omega arith))))

abbrev AreDigits : List ℕ → Type 0
AreDigits ds = (k : ℕ) → k < length ds → IsInRange 48 57 (get_or ds k 0)

numerals : IsNumeralModel AreDigits (digits_value 10)
numerals = numerals_by_value AreDigits tells_by_index

are_digits : (text : List ℕ) → AreDigits (take (prefix_len is_ascii_digit text) text)
are_digits text k within =
    let below : k < prefix_len is_ascii_digit text = omega (arith, within, length-prefix_len is_ascii_digit text) in
    subst (IsInRange 48 57) (sym (get_or-take (prefix_len is_ascii_digit text) text k 0 below)) (digit_at text k below)

-- where the first is above 0 there is one
some_digit : (text : List ℕ) → begins_with_1_to_9 text ≡ true → 0 < prefix_len is_ascii_digit text
some_digit [] begins = grind (arith, nat_tests, begins)
some_digit (c ∷ cs) begins =
    let digit : is_ascii_digit c ≡ true = grind (arith, nat_tests, begins) in
    rw digit (omega arith)

at_least : (m n : ℕ) → (m < n → ⊥) → n ≤ m
at_least m n never = omega (arith, never)

-- ---- what a text spells

-- a text that begins with such a digit, cut after its digits
module _ (text front back : List ℕ) (end : ℕ) (at_end : end ≡ prefix_len is_ascii_digit text) (is_front : front ≡ take end text) (is_back : back ≡ drop end text)
    (begins : begins_with_1_to_9 text ≡ true) where
  front_is : front ≡ take (prefix_len is_ascii_digit text) text
  front_is = is_front ∙ ap (λ n. take n text) at_end

  front_digits : AreDigits front
  front_digits = subst AreDigits (sym front_is) (are_digits text)

  front_some : 0 < length front
  front_some = omega (arith, ap length front_is, length-prefix_len is_ascii_digit text, some_digit text begins)

  by_unit : keep_alive_of text ≡ option_and_then (of_units (digits_value 10 front)) (unit_ms back)
  unfolding keep_alive_of
  by_unit =
      ap (λ b. cond b (option_and_then (of_units (digits_value 10 (take (prefix_len is_ascii_digit text) text))) (unit_ms (drop (prefix_len is_ascii_digit text) text))) None) begins
      ∙ ap (λ ds. option_and_then (of_units (digits_value 10 ds)) (unit_ms (drop (prefix_len is_ascii_digit text) text))) (sym front_is)
      ∙ ap (λ u. option_and_then (of_units (digits_value 10 front)) (unit_ms u)) (sym (is_back ∙ ap (λ n. drop n text) at_end))

  -- no keep-alive without a unit
  pub no_unit : None ≡ unit_ms back → None ≡ keep_alive_of text
  no_unit none = ap (option_and_then (of_units (digits_value 10 front))) none ∙ sym by_unit

  module _ (unit : ℕ) (is_unit : Some unit ≡ unit_ms back) where
    in_units : of_units (digits_value 10 front) unit ≡ keep_alive_of text
    in_units = ap (option_and_then (of_units (digits_value 10 front))) is_unit ∙ sym by_unit

    short : digits_value 10 front * unit ≤ day_ms → Some (digits_value 10 front * unit) ≡ keep_alive_of text
    short low = sym (at_most (digits_value 10 front * unit) low) ∙ in_units
      where
        at_most : (ms : ℕ) → ms ≤ day_ms → cond (nat_le ms day_ms) (Some ms) None ≡ Some ms
        at_most ms low = grind (arith, nat_tests, low)

    long : day_ms < digits_value 10 front * unit → None ≡ keep_alive_of text
    long high = sym (above (digits_value 10 front * unit) high) ∙ in_units
      where
        above : (ms : ℕ) → day_ms < ms → cond (nat_le ms day_ms) (Some ms) None ≡ None
        above ms high = grind (arith, nat_tests, high)

    -- a number that is not read is too great, since each unit has a millisecond at least
    pub unread : {E : Type 0} (read : Result ℕ E) → ParsesUnsigned {E = E} 64 10 front read → None ≡ result_ok read → 1 ≤ unit → None ≡ keep_alive_of text
    unread {E = E} (Ok n) parsed none some = cc
    unread {E = E} (Err e) parsed none some =
        let never = parse_digits numerals {E = E} 64 front (Err e) parsed front_digits in
        let great : 2 ^ 64 ≤ digits_value 10 front = at_least (digits_value 10 front) (2 ^ 64) (λ below. never (front_some, below)) in
        long (omega (arith, great, le-mul_of_pos_right {m = unit} (digits_value 10 front) (omega (arith, some))))

    -- a number that is read is what the digits spell
    pub read_short : {E : Type 0} (read : Result ℕ E) (count : ℕ) → ParsesUnsigned {E = E} 64 10 front read → Some count ≡ result_ok read → count * unit ≤ day_ms → Some (count * unit) ≡ keep_alive_of text
    read_short {E = E} (Ok n) count parsed is low =
        let read = parse_digits numerals {E = E} 64 front (Ok n) parsed front_digits in
        let same : digits_value 10 front ≡ count = cc (read.1) in
        subst (λ k. k * unit ≤ day_ms → Some (k * unit) ≡ keep_alive_of text) same short low
    read_short {E = E} (Err e) count parsed is low = cc

    pub read_long : {E : Type 0} (read : Result ℕ E) (count : ℕ) → ParsesUnsigned {E = E} 64 10 front read → Some count ≡ result_ok read → day_ms < count * unit → None ≡ keep_alive_of text
    read_long {E = E} (Ok n) count parsed is high =
        let read = parse_digits numerals {E = E} 64 front (Ok n) parsed front_digits in
        let same : digits_value 10 front ≡ count = cc (read.1) in
        subst (λ k. day_ms < k * unit → None ≡ keep_alive_of text) same long high
    read_long {E = E} (Err e) count parsed is high = cc
