-- What `get_one` reads of an argument that has its number.
use Rattle.std.proofs.Common.{◌≡◌, ◌∙◌, ◌⊎◌, inl, inr, ℕ, ◌<◌, ◌≤◌, ◌^◌, List, Option, Some, None, Result, Ok, Err, refl, sym, ap, subst, arith}
use Rattle.std.specs.Prelude.{codes, option_map}
use Rattle.std.specs.Str.Parse.{ParsesUnsigned, digits_value, without_leading_plus}
use Rattle.std.proofs.lemmas.Option.{none-some, same_Some}
use Rattle.clap.specs.Lexer.{without_minus}
use Rattle.clap.specs.Matches.{ReadsOne, one_text}
use Rattle.clap.specs.Values.{IsUnsignedIn}
use Rattle.clap.specs.Walk.{rows_of}
use Rattle.clap.specs.declared.parser.matches.Found.{Found}
use Rattle.clap.proofs.CallerReads.{signed_reads}
use Rattle.clap.proofs.WalkLemmas.{one_text-rows}
use Rattle.command_line.specs.Plan.{number_of}
use Rattle.command_line.specs.Takes.{HasNumber, HasUpTo, MayHaveUpTo}

abbrev number_in : List ℕ → ℕ
number_in text = digits_value 10 (without_leading_plus text)

module _ {E : Type 0} (G : List ℕ → Result ℕ E → Type 0) (k : ℕ) (only : (u : List ℕ) (x : Result ℕ E) → G u x → ParsesUnsigned k 10 u x) where
  as_written : (text : List ℕ) (n : ℕ) → ReadsOne G text (Some n) → n ≡ number_in text
  as_written text n read = (only text (Ok n) read).1

  -- an option with a number up to `most`
  option_read : (most : ℕ) (name : List ℕ) (f : Found) (r : Option ℕ) → most < 2 ^ k → HasUpTo most name (rows_of f) → ((t : List ℕ) → one_text f name ≡ Some t → ReadsOne G t r)
      → (n : ℕ) × (r ≡ Some n) × (1 ≤ n) × (n ≤ most) × (number_of name (rows_of f) ≡ Some n)
  option_read most name f r small has reads =
      let read = reads (without_minus has.0) (one_text-rows f name ∙ has.1) in
      let got = signed_reads E G k 1 most has.0 r read only small has.2 in
      let is = as_written (without_minus has.0) got.0 (subst (ReadsOne G (without_minus has.0)) got.1 read) in
      (got.0, got.1, got.2, got.3, ap (λ o. option_map number_in o) has.1 ∙ ap (λ n. Some n) (sym is))

  unsigned_read : (high : ℕ) (text : List ℕ) (r : Option ℕ) → ReadsOne G text r → high < 2 ^ k → IsUnsignedIn 0 high text → (n : ℕ) × (r ≡ Some n) × (n ≡ number_in text)
  unsigned_read high text (Some n) read small within = (n, refl, as_written text n read)
  unsigned_read high text None read small within = absurd (only text (Err read.0) read.1 (within.0, omega (arith, within.3)))

  -- the number of an input
  pub number_read : (f : Found) (r : Option ℕ) → 18446744073709551615 < 2 ^ k → HasNumber (rows_of f) → ((t : List ℕ) → one_text f (codes "number") ≡ Some t → ReadsOne G t r)
      → (n : ℕ) × (r ≡ Some n) × (number_of (codes "number") (rows_of f) ≡ Some n)
  number_read f r small has reads =
      let got = unsigned_read 18446744073709551615 has.0 r (reads has.0 (one_text-rows f (codes "number") ∙ has.1)) small has.2 in
      (got.0, got.1, ap (λ o. option_map number_in o) has.1 ∙ ap (λ n. Some n) (sym got.2))

  pub option_some : (most : ℕ) (name : List ℕ) (f : Found) (r : Option ℕ) (n : ℕ) → most < 2 ^ k → HasUpTo most name (rows_of f) → ((t : List ℕ) → one_text f name ≡ Some t → ReadsOne G t r) → r ≡ Some n
      → (1 ≤ n) × (n ≤ most) × (number_of name (rows_of f) ≡ Some n)
  option_some most name f r n small has reads is =
      let got = option_read most name f r small has reads in
      subst (λ n. (1 ≤ n) × (n ≤ most) × (number_of name (rows_of f) ≡ Some n)) (same_Some got.0 n (sym got.1 ∙ is)) (got.2, got.3, got.4)

  pub option_none : (most : ℕ) (name : List ℕ) (f : Found) (r : Option ℕ) → most < 2 ^ k → HasUpTo most name (rows_of f) → ((t : List ℕ) → one_text f name ≡ Some t → ReadsOne G t r) → r ≡ None → ⊥
  option_none most name f r small has reads is =
      let got = option_read most name f r small has reads in
      none-some got.0 (sym is ∙ got.1)

  -- an option that may be left out
  pub given : (most : ℕ) (name : List ℕ) (f : Found) (r : Option ℕ) (n : ℕ) → most < 2 ^ k → MayHaveUpTo most name (rows_of f) → (one_text f name ≡ None → r ≡ None) → ((t : List ℕ) → one_text f name ≡ Some t → ReadsOne G t r) → r ≡ Some n
      → (1 ≤ n) × (n ≤ most) × (number_of name (rows_of f) ≡ Some n)
  given most name f r n small (inl left) none reads is = absurd (none-some n (sym (none (one_text-rows f name ∙ left)) ∙ is))
  given most name f r n small (inr has) none reads is = option_some most name f r n small has reads is

  pub left_out : (most : ℕ) (name : List ℕ) (f : Found) (r : Option ℕ) → most < 2 ^ k → MayHaveUpTo most name (rows_of f) → ((t : List ℕ) → one_text f name ≡ Some t → ReadsOne G t r) → r ≡ None → number_of name (rows_of f) ≡ None
  left_out most name f r small (inl left) reads is = ap (option_map number_in) left
  left_out most name f r small (inr has) reads is = absurd (option_none most name f r small has reads is)
