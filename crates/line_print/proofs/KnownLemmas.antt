-- The indices of the input's documents, one more at a time.
use Rattle.std.proofs.Common.{◌≡◌, ℕ, ◌+◌, ◌<◌, Bool, true, false, cond, ◌||◌, List, [], ◌∷◌, ◌++◌, take, length, get_or, refl, sym, ap, ◌∙◌}
use Rattle.std.specs.Cmp.Lexicographic.{nat_list_eq_equiv}
use Rattle.std.specs.List.{list_any}
use Rattle.std.specs.Str.{bytes_eq}
use Rattle.std.proofs.lemmas.List.{take_more}
use Rattle.std.proofs.lemmas.List.Folds.{list_any-append}
use Rattle.task_ids.specs.declared.corpus.CorpusLine.{CorpusLine}

or_last : (b old : Bool) → cond b true old ≡ old || (b || false)
or_last true true = refl
or_last true false = refl
or_last false true = refl
or_last false false = refl

pub known_more : (lines : List CorpusLine) (i : ℕ) (line : CorpusLine) (index key : List ℕ) (old new : Bool) → i < length lines → line ≡ get_or lines i line → key ≡ line.index
    → new ≡ cond (bytes_eq key index) true old → old ≡ list_any (λ l. bytes_eq index l.index) (take i lines) → new ≡ list_any (λ l. bytes_eq index l.index) (take (i + 1) lines)
known_more lines i line index key old new here is k n o =
    n ∙ ap (λ b. cond b true old) (nat_list_eq_equiv.symm key index ∙ ap (bytes_eq index) k)
    ∙ or_last (bytes_eq index line.index) old
    ∙ ap (λ b. b || (bytes_eq index line.index || false)) o
    ∙ sym (ap (list_any (λ l. bytes_eq index l.index)) (take_more lines i line here ∙ ap (λ x. take i lines ++ x ∷ []) (sym is)) ∙ list_any-append (λ l. bytes_eq index l.index) (take i lines) (line ∷ []))

-- ---- the indices that reindexes write to

pub none_yet : (of_corpus : Bool) → of_corpus ≡ (of_corpus || false)
none_yet true = refl
none_yet false = refl

or_third : (of_corpus b old : Bool) → cond b true (of_corpus || old) ≡ of_corpus || (old || (b || false))
or_third true true old = refl
or_third true false old = refl
or_third false b old = or_last b old

pub dest_more : (dests : List (List ℕ)) (i : ℕ) (dest index key : List ℕ) (of_corpus old new : Bool) → i < length dests → dest ≡ get_or dests i dest → key ≡ dest
    → new ≡ cond (bytes_eq key index) true old → old ≡ (of_corpus || list_any (bytes_eq index) (take i dests)) → new ≡ (of_corpus || list_any (bytes_eq index) (take (i + 1) dests))
dest_more dests i dest index key of_corpus old new here is k n o =
    n ∙ ap (λ b. cond b true old) (nat_list_eq_equiv.symm key index ∙ ap (bytes_eq index) k)
    ∙ ap (cond (bytes_eq index dest) true) o
    ∙ or_third of_corpus (bytes_eq index dest) (list_any (bytes_eq index) (take i dests))
    ∙ sym (ap (λ xs. of_corpus || list_any (bytes_eq index) xs) (take_more dests i dest here ∙ ap (λ x. take i dests ++ x ∷ []) (sym is)) ∙ ap (λ b. of_corpus || b) (list_any-append (bytes_eq index) (take i dests) (dest ∷ [])))
