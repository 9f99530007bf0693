-- The text of a JSON value has no newline, so what is printed for a command is one line.
use Rattle.std.proofs.Common.{◌≡◌, ◌≢◌, ◌+◌, ◌/◌, ◌%◌, ℕ, zero, suc, pos, negsuc, Bool, true, false, ◌||◌, List, [], ◌∷◌, ◌++◌, decimal, refl, ◌∙◌, arith}
use Rattle.std.specs.Prelude.{◌==◌, nat_lt}
use Rattle.std.specs.Fmt.{digits, digits_onto, digit_glyph}
use Rattle.std.specs.List.{list_any}
use Rattle.std.proofs.lemmas.Bool.Decides.{nat_tests}
use Rattle.std.proofs.lemmas.Bool.{ne_eqb}
use Rattle.std.proofs.lemmas.List.Folds.{list_any-append}
use Rattle.json.specs.Print.{escape, escape_byte, quoted}
use Rattle.serde_json.specs.Data.{Num, unsigned, negative, float, Data, null, boolean, number, string, array, object, Items, no_items, item, Members, no_members, member}
use Rattle.serde_json.specs.Written.{number_text, comma_if, compact_text, items_text, members_text}
use Rattle.search_phase.proofs.Sorting.{by_test}
use Rattle.task_top.specs.EachLine.{is_newline, IsLine}

abbrev has_newline : List ℕ → Bool
has_newline text = list_any is_newline text

-- two texts without one, one after the other
neither : (a b : List ℕ) → has_newline a ≡ false → has_newline b ≡ false → has_newline (a ++ b) ≡ false
neither a b e f = list_any-append is_newline a b ∙ (λ i. e i || f i)

not_newline : (b : ℕ) → b ≢ 10 → is_newline b ≡ false
not_newline b apart = ne_eqb b 10 apart

-- ---- numbers

plain_digit : (d : ℕ) → is_newline (digit_glyph false d) ≡ false
plain_digit d = by_test (nat_lt d 10) (λ yes. rw yes (not_newline (48 + d) (λ e. omega arith))) (λ no. rw no (not_newline (87 + d) (λ e. omega arith)))

plain_digits : (k n : ℕ) (more : List ℕ) → has_newline more ≡ false → has_newline (digits_onto k 10 false n more) ≡ false
plain_digits zero n more e = e
plain_digits (suc k) n more e = by_test (n / 10 == 0) (λ yes. rw yes here) (λ no. rw no (plain_digits k (n / 10) (digit_glyph false (n % 10) ∷ more) here))
  where
    here : has_newline (digit_glyph false (n % 10) ∷ more) ≡ false
    here = λ i. plain_digit (n % 10) i || e i

plain_decimal : (n : ℕ) → has_newline (decimal n) ≡ false
unfolding digits
plain_decimal n = plain_digits 64 n [] refl

plain_number : (n : Num) → has_newline (number_text n) ≡ false
plain_number (unsigned n) = plain_decimal n
plain_number (negative (pos n)) = plain_decimal n
plain_number (negative (negsuc n)) = plain_decimal (suc n)
plain_number (float x) = refl

-- ---- texts

-- a byte that has no escape is no newline
plain_byte : (x : ℕ) → has_newline (escape_byte x) ≡ false
unfolding escape_byte
plain_byte x = grind (arith, nat_tests)

plain_escape : (s : List ℕ) → has_newline (escape s) ≡ false
plain_escape [] = refl
plain_escape (x ∷ s) = neither (escape_byte x) (escape s) (plain_byte x) (plain_escape s)

plain_quoted : (s : List ℕ) → has_newline (quoted s) ≡ false
plain_quoted s = neither (escape s) (34 ∷ []) (plain_escape s) refl

plain_comma : (later : Bool) → has_newline (comma_if later) ≡ false
plain_comma true = refl
plain_comma false = refl

-- ---- values

mutual
  pub plain_text : (d : Data) → has_newline (compact_text d) ≡ false
  plain_text null = refl
  plain_text (boolean true) = refl
  plain_text (boolean false) = refl
  plain_text (number n) = plain_number n
  plain_text (string s) = plain_quoted s
  plain_text (array ds) = plain_items false ds
  plain_text (object ms) = plain_members false ms

  plain_items : (later : Bool) (ds : Items) → has_newline (items_text later ds) ≡ false
  plain_items later no_items = refl
  plain_items later (item d ds) = neither (comma_if later) (compact_text d ++ items_text true ds) (plain_comma later) (neither (compact_text d) (items_text true ds) (plain_text d) (plain_items true ds))

  plain_members : (later : Bool) (ms : Members) → has_newline (members_text later ms) ≡ false
  plain_members later no_members = refl
  plain_members later (member k d ms) =
      neither (comma_if later) (quoted k ++ 58 ∷ (compact_text d ++ members_text true ms)) (plain_comma later)
      (neither (quoted k) (58 ∷ (compact_text d ++ members_text true ms)) (plain_quoted k) (neither (compact_text d) (members_text true ms) (plain_text d) (plain_members true ms)))

-- a value and a newline are one line
pub value_line : (d : Data) → IsLine (compact_text d ++ 10 ∷ [])
value_line d = (compact_text d, refl, plain_text d)
