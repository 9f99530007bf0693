-- The names that were met are those of the documents that were read.
use Rattle.std.proofs.Common.{◌≡◌, ℕ, List, [], ◌∷◌, ◌++◌, Bool, true, false, ◌&&◌, ◌||◌, cond, refl, sym, ap, ◌∙◌, ⊎_elim}
use Rattle.std.proofs.lemmas.Bool.{cases_Bool, and_parts}
use Rattle.std.proofs.lemmas.List.Folds.{list_any-append}
use Rattle.std.proofs.lemmas.Slice.Eq.{bytes_eq-Decides}
use Rattle.std.specs.Str.{bytes_eq}
use Rattle.task_ids.specs.declared.corpus.CorpusLine.{CorpusLine}
use Rattle.shard_docs.specs.Corpus.{is_there}
use Rattle.shard_docs.specs.Seen.{Name, has_name, with_name}

-- the same documents are named
abbrev pub SameNames : List Name → List CorpusLine → Type 0
SameNames names documents = (index id : List ℕ) → has_name index id names ≡ is_there index id documents

-- the name of a document is that of the last one, or its place in the list
abbrev is_of : List ℕ → List ℕ → CorpusLine → Bool
is_of index id line = bytes_eq index line.index && bytes_eq id line.doc.id

-- where a name that was met is looked for, one more document of it changes nothing
known : (names : List Name) (line : CorpusLine) (index id : List ℕ) → has_name line.index line.doc.id names ≡ true → has_name index id names ≡ (has_name index id names || (is_of index id line || false))
known names line index id met =
    ⊎_elim
    (λ same.
    let parts = and_parts (bytes_eq index line.index) (bytes_eq id line.doc.id) same in
    let found : has_name index id names ≡ true =
    ap (λ i. has_name i id names) ((bytes_eq-Decides index line.index).0 parts.0) ∙ ap (λ d. has_name line.index d names) ((bytes_eq-Decides id line.doc.id).0 parts.1) ∙ met in
    found ∙ sym (ap (λ b. b || (is_of index id line || false)) found))
    (λ other. sym (ap (λ b. has_name index id names || (b || false)) other ∙ none (has_name index id names)))
    (cases_Bool (is_of index id line))
  where
    none : (b : Bool) → (b || (false || false)) ≡ b
    none true = refl
    none false = refl

-- one more document
pub names_more : (names : List Name) (documents : List CorpusLine) (line : CorpusLine) → SameNames names documents → SameNames (with_name line.index line.doc.id names) (documents ++ line ∷ [])
names_more names documents line same index id =
    ⊎_elim
    (λ met. ap (λ b. has_name index id (cond b names (names ++ (line.index, line.doc.id) ∷ []))) met ∙ known names line index id met)
    (λ new.
    ap (λ b. has_name index id (cond b names (names ++ (line.index, line.doc.id) ∷ []))) new
    ∙ list_any-append (λ name. bytes_eq index name.0 && bytes_eq id name.1) names ((line.index, line.doc.id) ∷ []))
    (cases_Bool (has_name line.index line.doc.id names))
    ∙ ap (λ b. b || (is_of index id line || false)) (same index id)
    ∙ sym (list_any-append (λ l. bytes_eq index l.index && bytes_eq id l.doc.id) documents (line ∷ []))
