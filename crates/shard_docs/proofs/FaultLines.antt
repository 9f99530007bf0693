-- The numbers of the lines of a corpus: where its script begins, and that no fault is told before the line at which it is read on.
use Rattle.std.proofs.Common.{ℕ, ◌+◌, ◌≤◌, List, [], ◌∷◌, ◌++◌, length, Bool, true, false, cond, eqb, Result, Ok, Err, arith}
use Rattle.std.specs.Bool.{⊤}
use Rattle.std.specs.Str.{bytes_eq}
use Rattle.serde_json.specs.Data.{Data}
use Rattle.task_ids.specs.declared.cause.Cause.{Cause}
use Rattle.task_ids.specs.declared.cause.Cause.TheVariants.{NoSource}
use Rattle.task_ids.specs.declared.corpus.CorpusLine.{CorpusLine}
use Rattle.shard_docs.specs.BulkAction.{action_of}
use Rattle.shard_docs.specs.Corpus.{Read, dashes, is_there, noted, document, documents}
use Rattle.shard_docs.specs.Fault.{Fault, and_then, on_line}
use Rattle.shard_docs.specs.Json.{source_of}

-- what is read from a line on, of which so many are left
abbrev pub Numbered : ℕ → ℕ → Result Read Fault → Type 0
Numbered number count (Ok read) = (number ≤ read.1) × (read.1 + length read.2 ≤ number + count)
Numbered number count (Err fault) = number ≤ fault.0

earlier : (n m count more : ℕ) (found : Result Read Fault) → n ≤ m → m + more ≤ n + count → Numbered m more found → Numbered n count found
earlier n m count more (Ok read) le all h = (omega (arith, h.0), omega (arith, h.1))
earlier n m count more (Err fault) le all h = omega arith

either_way : (n count : ℕ) (b : Bool) (x y : Result Read Fault) → Numbered n count x → Numbered n count y → Numbered n count (cond b x y)
either_way n count true x y p q = p
either_way n count false x y p q = q

at_line : {A : Type 0} (n count : ℕ) (found : Result A Cause) (f : A → Result Read Fault) → ((x : A) → Numbered n count (f x)) → Numbered n count (and_then (on_line n found) f)
at_line n count (Ok x) f h = h x
at_line n count (Err cause) f h = omega arith

at_source : (n count : ℕ) (missing : Bool) (source : List ℕ × List (List ℕ)) (f : List ℕ × List (List ℕ) → Result Read Fault) → ((x : List ℕ × List (List ℕ)) → Numbered n count (f x))
    → Numbered n count (and_then (cond missing (Err (n, NoSource)) (Ok source)) f)
at_source n count true source f h = omega arith
at_source n count false source f h = h source

at_document : (n count : ℕ) (known : Result (Unit {0}) Cause) (found : Result Data Cause) (g : Data → CorpusLine) (f : CorpusLine → Result Read Fault) → ((x : CorpusLine) → Numbered n count (f x))
    → Numbered n count (and_then (and_then (on_line n known) (λ _. and_then (on_line (n + 1) found) (λ x. Ok (g x)))) f)
at_document n count (Ok x) (Ok y) g f h = h (g y)
at_document n count (Ok x) (Err e) g f h = omega arith
at_document n count (Err e) found g f h = omega arith

pub numbered : (n : ℕ) (before : List CorpusLine) (rest : List (List ℕ)) → Numbered n (length rest) (documents n before rest)
unfolding documents document
numbered n before [] = (omega arith, omega arith)
numbered n before (line ∷ []) =
    let at_end : Numbered n 1 (Ok (before, n + 1, [])) = (omega arith, omega arith) in
    either_way n 1 (eqb (length line) 0) _ _ at_end
    (either_way n 1 (bytes_eq line dashes) _ _ at_end (at_line n 1 (action_of n line) _ (λ action. let here : n ≤ n = omega arith in here)))
numbered n before (line ∷ next ∷ rest) =
    let count : ℕ = length (line ∷ next ∷ rest) in
    let after : Numbered n count (Ok (before, n + 1, next ∷ rest)) = (omega arith, omega arith) in
    either_way n count (eqb (length line) 0) _ _ (earlier n (n + 1) count (length (next ∷ rest)) _ (omega arith) (omega arith) (numbered (n + 1) before (next ∷ rest)))
    (either_way n count (bytes_eq line dashes) _ _ after
    (at_line n count (action_of n line) _ (λ action. at_source n count (bytes_eq next dashes) (next, rest) _ (λ source. at_document n count (noted (is_there action.index action.id before) action) (source_of source.0) _ _ (λ found.
    earlier n (n + 2) count (length rest) _ (omega arith) (omega arith) (numbered (n + 2) (before ++ found ∷ []) rest))))))

-- no fault before a line
abbrev pub After : {A : Type 0} → ℕ → Result A Fault → Type 0
After n (Ok x) = ⊤
After n (Err fault) = n ≤ fault.0

pub not_before : {A : Type 0} (n m : ℕ) (found : Result A Fault) → n ≤ m → After m found → After n found
not_before n m (Ok x) le h = tt
not_before n m (Err fault) le h = omega arith

pub after_line : {A B : Type 0} (n : ℕ) (found : Result A Cause) (f : A → Result B Fault) → ((x : A) → After n (f x)) → After n (and_then (on_line n found) f)
after_line n (Ok x) f h = h x
after_line n (Err cause) f h = omega arith

pub either_after : {A : Type 0} (n : ℕ) (b : Bool) (x y : Result A Fault) → After n x → After n y → After n (cond b x y)
either_after n true x y p q = p
either_after n false x y p q = q

pub after_numbered : (n count : ℕ) (found : Result Read Fault) → Numbered n count found → After n found
after_numbered n count (Ok read) h = tt
after_numbered n count (Err fault) h = h
