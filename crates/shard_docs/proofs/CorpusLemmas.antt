-- Reading a corpus line by line: what is found in the whole is what is found from here on, after the documents so far.
use Rattle.std.proofs.Common.{◌≡◌, ◌≤◌, ℕ, ◌+◌, ◌-◌, List, [], ◌∷◌, ◌++◌, length, drop, Bool, true, false, cond, eqb, Result, Ok, Err, refl, sym, ap, ◌∙◌, subst, arith}
use Rattle.std.specs.Str.{bytes_eq}
use Rattle.std.specs.Str.Lines.{lines}
use Rattle.task_ids.specs.declared.cause.Cause.TheVariants.{NoSource}
use Rattle.task_ids.specs.declared.corpus.CorpusLine.{CorpusLine}
use Rattle.shard_docs.specs.declared.action.BulkAction.{BulkAction}
use Rattle.shard_docs.specs.declared.fault.CorpusError.{CorpusError}
use Rattle.shard_docs.specs.declared.fault.CorpusError.TheVariants.{Bad, Memory}
use Rattle.shard_docs.specs.BulkAction.{action_of}
use Rattle.shard_docs.specs.Corpus.{Read, dashes, is_there, source_line, document, next_document, documents}
use Rattle.shard_docs.specs.Ends.{IsEndOf}
use Rattle.shard_docs.specs.Fault.{Fault, and_then, on_line, MayRunOut, Tells}
use Rattle.shard_docs.specs.Seen.{Name, has_name}
use Rattle.shard_docs.proofs.FaultLines.{numbered, after_numbered}
use Rattle.shard_docs.proofs.NamesLemmas.{SameNames}
use Rattle.shard_docs.proofs.RunningOut.{runs_then, runs_before}

-- a fault of a first step is one of all of them
first_tells : {A B : Type 0} (found : Result A Fault) (f : A → Result B Fault) (error : CorpusError) → Tells error found → Tells error (and_then found f)
first_tells (Ok x) f (Bad line cause) told = cc
first_tells (Err e) f (Bad line cause) told = let same : ◌≡◌ {A = Fault} e (line, cause) = cc in ap Err same
first_tells found f (Memory line) told = tt

at_empty : (number : ℕ) (before : List CorpusLine) (line : List ℕ) (rest : List (List ℕ)) → eqb (length line) 0 ≡ true → documents number before (line ∷ rest) ≡ documents (number + 1) before rest
unfolding documents
at_empty number before line [] empty = rw empty refl
at_empty number before line (next ∷ rest) empty = rw empty refl

at_dashes : (number : ℕ) (before : List CorpusLine) (line : List ℕ) (rest : List (List ℕ)) → eqb (length line) 0 ≡ false → bytes_eq line dashes ≡ true
    → documents number before (line ∷ rest) ≡ Ok (before, number + 1, rest)
unfolding documents
at_dashes number before line [] some is = rw (some, is) refl
at_dashes number before line (next ∷ rest) some is = rw (some, is) refl

-- the document of an action, and the documents after it
abbrev pub after_action : ℕ → List CorpusLine → List (List ℕ) → BulkAction → Result Read Fault
after_action number before rest action =
    and_then (source_line number rest) (λ source. and_then (document number (is_there action.index action.id before) action source.0) (λ found. documents (number + 2) (before ++ found ∷ []) source.1))

same_then : {A B : Type 0} (found : Result A Fault) (f g : A → Result B Fault) → ((x : A) → f x ≡ g x) → and_then found f ≡ and_then found g
same_then (Ok x) f g same = same x
same_then (Err e) f g same = refl

then_then : {A B C : Type 0} (found : Result A Fault) (f : A → Result B Fault) (g : B → Result C Fault) → and_then (and_then found f) g ≡ and_then found (λ x. and_then (f x) g)
then_then (Ok x) f g = refl
then_then (Err e) f g = refl

-- the documents after the next one
abbrev pub after_document : ℕ → List CorpusLine → CorpusLine × List (List ℕ) → Result Read Fault
after_document number before next = documents (number + 2) (before ++ next.0 ∷ []) next.1

-- the next document, and those after it
next_is : (number : ℕ) (before : List CorpusLine) (line : List ℕ) (rest : List (List ℕ))
    → and_then (next_document number (λ index id. is_there index id before) line rest) (after_document number before) ≡ and_then (on_line number (action_of number line)) (after_action number before rest)
unfolding next_document
next_is number before line rest =
    then_then (on_line number (action_of number line)) _ (after_document number before)
    ∙ same_then (on_line number (action_of number line)) _ _ (λ action.
    then_then (source_line number rest) _ (after_document number before)
    ∙ same_then (source_line number rest) _ _ (λ source. then_then (document number (is_there action.index action.id before) action source.0) _ (after_document number before)))

-- the next document, where the names that were met are those of the documents before
same_next : (number : ℕ) (names : List Name) (before : List CorpusLine) (line : List ℕ) (rest : List (List ℕ)) → SameNames names before
    → next_document number (λ index id. has_name index id names) line rest ≡ next_document number (λ index id. is_there index id before) line rest
unfolding next_document
same_next number names before line rest same =
    same_then (on_line number (action_of number line)) _ _ (λ action.
    same_then (source_line number rest) _ _ (λ source.
    ap (λ (there : Bool). and_then (document number there action source.0) (λ found. Ok (found, source.1))) (same action.index action.id)))

-- what follows the source is what follows its line
rest_is : (missing : Bool) (fault : Fault) (next : List ℕ) (rest : List (List ℕ)) (f : List ℕ → List (List ℕ) → Result Read Fault)
    → let found : Result (List ℕ × List (List ℕ)) Fault = cond missing (Err fault) (Ok (next, rest)) in and_then found (λ source. f source.0 rest) ≡ and_then found (λ source. f source.0 source.1)
rest_is true fault next rest f = refl
rest_is false fault next rest f = refl

at_action : (number : ℕ) (before : List CorpusLine) (line : List ℕ) (rest : List (List ℕ)) → eqb (length line) 0 ≡ false → bytes_eq line dashes ≡ false
    → documents number before (line ∷ rest) ≡ and_then (on_line number (action_of number line)) (after_action number before rest)
unfolding documents
at_action number before line [] some not_dashes = rw (some, not_dashes) refl
at_action number before line (next ∷ rest) some not_dashes =
    rw (some, not_dashes)
    (same_then (on_line number (action_of number line)) _ (after_action number before (next ∷ rest))
    (λ action. rest_is (bytes_eq next dashes) (number, NoSource) next rest
    (λ source more. and_then (document number (is_there action.index action.id before) action source) (λ found. documents (number + 2) (before ++ found ∷ []) more))))

module _ (number : ℕ) (before : List CorpusLine) (here : List (List ℕ)) (whole : Result Read Fault) (so_far : documents number before here ≡ whole) where
  pub found_at_end : here ≡ [] → whole ≡ Ok (before, number, [])
  unfolding documents
  found_at_end none = sym so_far ∙ ap (documents number before) none

  module _ (line : List ℕ) (rest : List (List ℕ)) (split : here ≡ line ∷ rest) where
    from_line : documents number before (line ∷ rest) ≡ whole
    from_line = ap (documents number before) (sym split) ∙ so_far

    pub after_empty : eqb (length line) 0 ≡ true → documents (number + 1) before rest ≡ whole
    after_empty empty = sym (at_empty number before line rest empty) ∙ from_line

    module _ (some : eqb (length line) 0 ≡ false) where
      pub found_at_dashes : bytes_eq line dashes ≡ true → whole ≡ Ok (before, number + 1, rest)
      found_at_dashes is = sym from_line ∙ at_dashes number before line rest some is

      module _ (not_dashes : bytes_eq line dashes ≡ false) where
        from_action : and_then (on_line number (action_of number line)) (after_action number before rest) ≡ whole
        from_action = sym (at_action number before line rest some not_dashes) ∙ from_line

        module _ (names : List Name) (same : SameNames names before) where
          from_next : and_then (next_document number (λ index id. has_name index id names) line rest) (after_document number before) ≡ whole
          from_next = ap (λ next. and_then next (after_document number before)) (same_next number names before line rest same) ∙ next_is number before line rest ∙ from_action

          pub document_fails : (error : CorpusError) → Tells error (next_document number (λ index id. has_name index id names) line rest) → Tells error whole
          document_fails error told =
              subst (Tells error) from_next (first_tells (next_document number (λ index id. has_name index id names) line rest) (after_document number before) error told)

          -- memory may run out here where it may while the next document is read
          pub short_here : (at : ℕ) → at ≤ number + 1 → MayRunOut (next_document number (λ index id. has_name index id names) line rest) at → MayRunOut whole at
          short_here at le runs =
              subst (λ found. MayRunOut found at) from_next
              (runs_then at (next_document number (λ index id. has_name index id names) line rest) (after_document number before) runs
              (λ next. runs_before at (number + 2) (after_document number before next) (omega arith)
              (after_numbered (number + 2) (length next.1) (after_document number before next) (numbered (number + 2) (before ++ next.0 ∷ []) next.1))))

          -- and where it was read
          pub short_after : (next : CorpusLine × List (List ℕ)) → next_document number (λ index id. has_name index id names) line rest ≡ Ok next → MayRunOut whole number
          short_after next is = short_here number (omega arith) (subst (λ found. MayRunOut found number) (sym is) tt)

          pub goes_on : (found : CorpusLine) (more : List (List ℕ)) → next_document number (λ index id. has_name index id names) line rest ≡ Ok (found, more)
              → documents (number + 2) (before ++ found ∷ []) more ≡ whole
          goes_on found more is = sym (ap (λ next. and_then next (after_document number before)) is) ∙ from_next

-- what was read, as a place in the bytes
pub place_is : (bytes after : List ℕ) (found : List CorpusLine) (number : ℕ) → IsEndOf after bytes
    → let at : Read = (found, number, lines (drop (length bytes - length after) bytes)) in let end : Read = (found, number, lines after) in end ≡ at
place_is bytes after found number ends = ap (λ bs. (found, number, lines bs)) ends
