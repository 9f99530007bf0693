-- To find whether a text matches a pattern it is enough to go back to the last `*`.
use Rattle.std.proofs.Common.{◌≡◌, ℕ, ◌==◌, ◌+◌, ◌≤◌, Bool, true, false, ◌&&◌, ◌||◌, if◌then◌else◌, List, [], ◌∷◌, ◌++◌, length, drop, refl, sym, ap, subst, ◌∙◌, arith, length-append, length-drop, append_assoc}
use Rattle.std.specs.List.{list_all}
use Rattle.std.proofs.lemmas.List.{drop-drop}
use Rattle.std.proofs.lemmas.Bool.{and_parts, eqb-true, eq-eqb, ne_eqb}
use Rattle.task_ids.specs.Pattern.{matches_pattern}
use Rattle.task_ids.proofs.Patterns.{some_matches, rest_at, rest_where, or_false, drop_run}

-- no byte of a run is `*`
abbrev pub NoStar : List ℕ → Type 0
NoStar [] = Unit {0}
NoStar (b ∷ bs) = ((b == 42) ≡ false) × NoStar bs

no_star_more : (x : List ℕ) (b : ℕ) → NoStar x → (b == 42) ≡ false → NoStar (x ++ b ∷ [])
no_star_more [] b none plain = (plain, tt)
no_star_more (c ∷ x) b none plain = (none.0, no_star_more x b none.1 plain)

-- a text that matches bytes and then a pattern begins with these bytes
bytes_first : (x p t : List ℕ) → NoStar x → matches_pattern (x ++ p) t ≡ true → (t ≡ x ++ drop (length x) t) × (matches_pattern p (drop (length x) t) ≡ true)
bytes_first [] p t none h = (refl, h)
bytes_first (b ∷ x) p [] none h = let bad : false ≡ true = rw none.0 at h in absurd (cc)
bytes_first (b ∷ x) p (c ∷ t) none h =
    let parts = and_parts _ _ (rw none.0 at h) in
    let later = bytes_first x p t none.1 parts.1 in
    (λ i. sym (eqb-true b c parts.0) i ∷ later.0 i, later.1)

drop_more : (x t : List ℕ) (k : ℕ) → drop (length x) (drop k (drop 1 (x ++ t))) ≡ drop k (drop 1 t)
drop_more x t k =
    drop-drop (length x) k (drop 1 (x ++ t)) ∙ drop-drop (k + length x) 1 (x ++ t)
    ∙ ap (λ n. drop n (x ++ t)) (omega arith) ∙ sym (drop-drop (1 + k) (length x) (x ++ t))
    ∙ ap (λ s. drop (1 + k) s) (drop_run x t) ∙ sym (drop-drop k 1 t)

-- What matches after the last `*` but one could be found after the last `*` too.
greedy : (x p t : List ℕ) → NoStar x → some_matches (x ++ p) (drop 1 (x ++ t)) ≡ true → some_matches p (drop 1 t) ≡ true
greedy x p t none h =
    let found = rest_where (x ++ p) (drop 1 (x ++ t)) h in
    let after = (bytes_first x p (drop found.0 (drop 1 (x ++ t))) none found.1).1 in
    rest_at p found.0 (drop 1 t) (subst (λ s. matches_pattern p s ≡ true) (drop_more x t found.0) after)

star_star : (p t : List ℕ) → some_matches (42 ∷ p) t ≡ true → some_matches p t ≡ true
star_star p t h =
    let found = rest_where (42 ∷ p) t h in
    let again = rest_where p (drop found.0 t) found.1 in
    rest_at p (found.0 + again.0) t (subst (λ s. matches_pattern p s ≡ true) (drop-drop again.0 found.0 t) again.1)

one_later : (p t : List ℕ) → some_matches p (drop 1 t) ≡ true → some_matches p t ≡ true
one_later p t h =
    let found = rest_where p (drop 1 t) h in
    rest_at p (1 + found.0) t (subst (λ s. matches_pattern p s ≡ true) (drop-drop found.0 1 t) found.1)

or_again : (b : Bool) → (b || false) ≡ (b || (b || false))
or_again true = refl
or_again false = refl

-- all of the text, or a rest of what comes after its first byte
all_or_later : (p t : List ℕ) → some_matches p t ≡ (matches_pattern p t || some_matches p (drop 1 t))
all_or_later p [] = or_again (matches_pattern p [])
all_or_later p (b ∷ t) = refl

or_within : (a b : Bool) → (b ≡ true → a ≡ true) → (a || b) ≡ a
or_within true b h = refl
or_within false false h = refl
or_within false true h = sym (h refl)

-- How far the search for a rest has come: the text after the run of the last `*` began with `passed`, as the pattern after it does, and
-- the whole matches exactly where what is left does, or where that run could be longer.
pub record Tries (whole : Bool) (most : ℕ) (after from wanted rest : List ℕ) : Type 0 where
  pub passed : List ℕ
  pub from_is : from ≡ passed ++ rest
  pub after_is : after ≡ passed ++ wanted
  pub plain : NoStar passed
  pub short : length from ≤ most
  pub same : whole ≡ (matches_pattern wanted rest || some_matches after (drop 1 from))

pub at_start : (p t : List ℕ) → Tries (some_matches p t) (length t) p t p t
at_start p t = record { passed = []; from_is = refl; after_is = refl; plain = tt; short = omega arith; same = all_or_later p t }

at_star_same : (whole : Bool) (most : ℕ) (after from rest more : List ℕ) → Tries whole most after from (42 ∷ more) rest → whole ≡ some_matches more rest
at_star_same whole most after from rest more tries =
    tries.same ∙ or_within (some_matches more rest) (some_matches after (drop 1 from)) (λ h.
    star_more (greedy tries.passed (42 ∷ more) rest tries.plain (rw (sym tries.from_is, sym tries.after_is) h)))
  where
    star_more : some_matches (42 ∷ more) (drop 1 rest) ≡ true → some_matches more rest ≡ true
    star_more h = one_later more rest (star_star more (drop 1 rest) h)

pub at_star : (whole : Bool) (most : ℕ) (after from wanted rest more : List ℕ) → wanted ≡ 42 ∷ more → Tries whole most after from wanted rest → Tries whole most more rest more rest
at_star whole most after from wanted rest more is tries =
    let here : Tries whole most after from (42 ∷ more) rest = subst (λ w. Tries whole most after from w rest) is tries in
    record {
      passed = [];
      from_is = refl;
      after_is = refl;
      plain = tt;
      short = omega (arith, ap length tries.from_is, length-append tries.passed rest);
      same = at_star_same whole most after from rest more here ∙ all_or_later more rest;
    }

byte_same : (wanted rest more later : List ℕ) (b c : ℕ) → wanted ≡ b ∷ more → rest ≡ c ∷ later → (b == 42) ≡ false → b ≡ c → matches_pattern wanted rest ≡ matches_pattern more later
byte_same wanted rest more later b c is is' plain same = rw (is, is', plain, eq-eqb b c same) refl

pub at_byte : (whole : Bool) (most : ℕ) (after from wanted rest more later : List ℕ) (b c : ℕ) → wanted ≡ b ∷ more → rest ≡ c ∷ later → (b ≡ 42 → ⊥) → b ≡ c
    → Tries whole most after from wanted rest → Tries whole most after from more later
at_byte whole most after from wanted rest more later b c is is' other same tries =
    let plain : (b == 42) ≡ false = ne_eqb b 42 other in record {
      passed = tries.passed ++ b ∷ [];
      from_is = tries.from_is ∙ ap (λ l. tries.passed ++ l) is' ∙ ap (λ n. tries.passed ++ n ∷ later) (sym same) ∙ sym (append_assoc tries.passed (b ∷ []) later);
      after_is = tries.after_is ∙ ap (λ l. tries.passed ++ l) is ∙ sym (append_assoc tries.passed (b ∷ []) more);
      plain = no_star_more tries.passed b tries.plain plain;
      short = tries.short;
      same = tries.same ∙ ap (λ v. v || some_matches after (drop 1 from)) (byte_same wanted rest more later b c is is' plain same);
    }

pub missed_byte : (wanted rest more later : List ℕ) (b c : ℕ) → wanted ≡ b ∷ more → rest ≡ c ∷ later → (b ≡ 42 → ⊥) → (b ≡ c → ⊥) → matches_pattern wanted rest ≡ false
missed_byte wanted rest more later b c is is' other apart = rw (is, is', ne_eqb b 42 other, ne_eqb b c apart) refl

pub missed_end : (wanted rest later : List ℕ) (c : ℕ) → length wanted ≡ 0 → rest ≡ c ∷ later → matches_pattern wanted rest ≡ false
missed_end [] rest later c none is = rw is (ne_eqb (length (c ∷ later)) 0 (λ z. omega arith))
missed_end (b ∷ wanted) rest later c none is = absurd (omega arith)

longer : (whole : Bool) (most : ℕ) (after from wanted rest : List ℕ) → matches_pattern wanted rest ≡ false → Tries whole most after from wanted rest → Tries whole most after (drop 1 from) after (drop 1 from)
longer whole most after from wanted rest missed tries = record {
  passed = [];
  from_is = refl;
  after_is = refl;
  plain = tt;
  short = omega (arith, tries.short, length-drop 1 from);
  same = tries.same ∙ ap (λ v. v || some_matches after (drop 1 from)) missed ∙ all_or_later after (drop 1 from);
}

pub at_miss : (whole : Bool) (most : ℕ) (after from wanted rest next : List ℕ) → next ≡ drop 1 from → matches_pattern wanted rest ≡ false → Tries whole most after from wanted rest → Tries whole most after next after next
at_miss whole most after from wanted rest next is missed tries = subst (λ n. Tries whole most after n after n) (sym is) (longer whole most after from wanted rest missed tries)

star_and : (b x y : Bool) → x ≡ y → (if b then x || false else false) ≡ (b && y)
star_and true true y h = h
star_and true false y h = h
star_and false x y h = refl

only_stars : (p : List ℕ) → matches_pattern p [] ≡ list_all (λ b. b == 42) p
only_stars [] = refl
only_stars (w ∷ p) = star_and (w == 42) (matches_pattern p []) (list_all (λ b. b == 42) p) (only_stars p)

all_are_stars : (whole : Bool) (most : ℕ) (after from wanted rest : List ℕ) → rest ≡ [] → Tries whole most after from wanted rest → whole ≡ list_all (λ b. b == 42) wanted
all_are_stars whole most after from wanted rest none tries =
    let here : Tries whole most after from wanted [] = subst (λ r. Tries whole most after from wanted r) none tries in
    here.same ∙ or_within (matches_pattern wanted []) (some_matches after (drop 1 from)) (λ h.
    or_false _ (greedy here.passed wanted [] here.plain (rw (sym here.from_is, sym here.after_is) h))) ∙ only_stars wanted

length_zero : (t : List ℕ) → length t ≡ 0 → t ≡ []
length_zero [] h = refl
length_zero (b ∷ t) h = absurd (omega arith)

pub at_end : (whole : Bool) (most : ℕ) (after from wanted rest : List ℕ) → length rest ≡ 0 → Tries whole most after from wanted rest → list_all (λ b. b == 42) wanted ≡ whole
at_end whole most after from wanted rest empty tries = sym (all_are_stars whole most after from wanted rest (length_zero rest empty) tries)
