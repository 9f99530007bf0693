-- A text matches a pattern exactly where the test says so.
use Rattle.std.proofs.Common.{◌≡◌, ℕ, zero, suc, ◌==◌, Bool, true, false, ◌||◌, List, [], ◌∷◌, ◌++◌, length, take, drop, refl, sym, ap, subst, ◌∙◌, arith, ⊎_elim}
use Rattle.std.specs.List.{list_any}
use Rattle.std.proofs.lemmas.Bool.{and_parts, and_from, or_cases, eqb-true, eq-eqb, cases_Bool}
use Rattle.task_ids.specs.Pattern.{first_run, filled, MatchesPattern, rests, begins_with, matches_pattern}

-- ---- some rest of a text

-- some rest of the text matches the pattern
abbrev pub some_matches : List ℕ → List ℕ → Bool
some_matches pattern text = list_any (λ rest. matches_pattern pattern rest) (rests text)

or_left : (a b : Bool) → a ≡ true → (a || b) ≡ true
or_left a b h = cc

or_right : (a b : Bool) → b ≡ true → (a || b) ≡ true
or_right true b h = refl
or_right false b h = h

rest_all : (p t : List ℕ) → matches_pattern p t ≡ true → some_matches p t ≡ true
rest_all p [] h = or_left _ _ h
rest_all p (b ∷ t) h = or_left _ _ h

pub rest_at : (p : List ℕ) (k : ℕ) (t : List ℕ) → matches_pattern p (drop k t) ≡ true → some_matches p t ≡ true
rest_at p zero t h = rest_all p t h
rest_at p (suc k) [] h = or_left _ _ h
rest_at p (suc k) (b ∷ t) h = or_right _ _ (rest_at p k t h)

pub or_false : (a : Bool) → (a || false) ≡ true → a ≡ true
or_false true h = refl
or_false false h = h

pub rest_where : (p t : List ℕ) → some_matches p t ≡ true → (k : ℕ) × (matches_pattern p (drop k t) ≡ true)
rest_where p [] h = (0, or_false _ h)
rest_where p (b ∷ t) h = ⊎_elim (λ here. (0, here)) (λ later. let found = rest_where p t later in (suc found.0, found.1)) (or_cases _ _ h)

-- ---- the test and the runs

take_drop : (k : ℕ) (t : List ℕ) → take k t ++ drop k t ≡ t
take_drop zero t = refl
take_drop (suc k) [] = refl
take_drop (suc k) (b ∷ t) = ap (λ l. b ∷ l) (take_drop k t)

pub drop_run : (run t : List ℕ) → drop (length run) (run ++ t) ≡ t
drop_run [] t = refl
drop_run (b ∷ run) t = drop_run run t

star_sound : (w : ℕ) (p t : List ℕ) (k : ℕ) → (w == 42) ≡ true → MatchesPattern p (drop k t) → MatchesPattern (w ∷ p) t
star_sound w p t k star found = (take k t ∷ found.0, rw star (sym (ap (λ l. take k t ++ l) (sym found.1) ∙ take_drop k t)))

byte_sound : (w b : ℕ) (p t : List ℕ) → (w == 42) ≡ false → w ≡ b → MatchesPattern p t → MatchesPattern (w ∷ p) (b ∷ t)
byte_sound w b p t plain same found = (found.0, rw plain (cc (found.1)))

goes_on_sound : (w : ℕ) (p t : List ℕ) → ((s : List ℕ) → matches_pattern p s ≡ true → MatchesPattern p s) → (w == 42) ≡ false → begins_with w (λ rest. matches_pattern p rest) t ≡ true → MatchesPattern (w ∷ p) t
goes_on_sound w p [] below plain h = absurd (cc)
goes_on_sound w p (b ∷ t) below plain h = let parts = and_parts _ _ h in byte_sound w b p t plain (eqb-true w b parts.0) (below t parts.1)

pub sound : (p t : List ℕ) → matches_pattern p t ≡ true → MatchesPattern p t
sound [] [] h = ([], refl)
sound [] (b ∷ t) h = absurd (omega (arith, eqb-true (length (b ∷ t)) 0 h))
sound (w ∷ p) t h = ⊎_elim
    (λ star. let found = rest_where p t (rw star at h) in star_sound w p t found.0 star (sound p (drop found.0 t) found.1))
    (λ plain. goes_on_sound w p t (λ s. sound p s) plain (rw plain at h))
    (cases_Bool (w == 42))

star_filled : (w : ℕ) (p : List ℕ) (runs : List (List ℕ)) → (w == 42) ≡ true → matches_pattern p (filled p (drop 1 runs)) ≡ true → matches_pattern (w ∷ p) (filled (w ∷ p) runs) ≡ true
star_filled w p runs star below =
    rw star (rest_at p (length (first_run runs)) (first_run runs ++ filled p (drop 1 runs)) (subst (λ s. matches_pattern p s ≡ true) (sym (drop_run (first_run runs) (filled p (drop 1 runs)))) below))

byte_filled : (w : ℕ) (p : List ℕ) (runs : List (List ℕ)) → (w == 42) ≡ false → matches_pattern p (filled p runs) ≡ true → matches_pattern (w ∷ p) (filled (w ∷ p) runs) ≡ true
byte_filled w p runs plain below = rw plain (and_from (w == w) (matches_pattern p (filled p runs)) (eq-eqb w w refl) below)

filled_matches : (p : List ℕ) (runs : List (List ℕ)) → matches_pattern p (filled p runs) ≡ true
filled_matches [] runs = refl
filled_matches (w ∷ p) runs = ⊎_elim
    (λ star. star_filled w p runs star (filled_matches p (drop 1 runs)))
    (λ plain. byte_filled w p runs plain (filled_matches p runs))
    (cases_Bool (w == 42))

pub complete : (p t : List ℕ) → MatchesPattern p t → matches_pattern p t ≡ true
complete p t found = subst (λ s. matches_pattern p s ≡ true) (sym found.1) (filled_matches p found.0)

pub by_test : (b : Bool) (p t : List ℕ) → b ≡ matches_pattern p t → (b ≡ true → MatchesPattern p t) × (MatchesPattern p t → b ≡ true)
by_test b p t same = (λ h. sound p t (sym same ∙ h), λ found. same ∙ complete p t found)
