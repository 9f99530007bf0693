-- The numbers of lines: a script begins at most one line after the last, and a refused line is one that there is.
use Rattle.std.proofs.Common.{◌≡◌, ℕ, ◌+◌, ◌≤◌, List, [], ◌∷◌, length, Bool, true, false, ◌==◌, cond, Result, Ok, Err, subst, arith}
use Rattle.std.specs.List.{slice_split, onto_first}
use Rattle.std.specs.Str.Lines.{lines, lines_of_parts}
use Rattle.shard_docs.specs.declared.corpus.CorpusRead.{CorpusRead}
use Rattle.shard_docs.specs.Corpus.{Read, corpus_of}
use Rattle.shard_docs.specs.CorpusRead.{read_of}
use Rattle.shard_docs.specs.Fault.{Fault, and_then}
use Rattle.shard_docs.proofs.FaultLines.{Numbered, numbered, After, not_before}
use Rattle.script_lang.specs.declared.command.Command.{Command}
use Rattle.script_lang.specs.declared.command.Mode.{Mode}
use Rattle.script_lang.proofs.LaterLines.{commands_after}
use Rattle.top_parts.specs.Reading.{with_script, read_lines}

-- ---- how many lines there are

last_line : (empty : Bool) (line : List ℕ) → length (cond empty [] (line ∷ [])) ≤ 1
last_line true line = omega arith
last_line false line = omega arith

-- a byte before some parts makes at most one line more
one_line : (b : ℕ) (parts : List (List ℕ)) → length (lines_of_parts (onto_first b parts)) ≤ 1 + length (lines_of_parts parts)
one_line b [] = let last = last_line (length (b ∷ []) == 0) (b ∷ []) in omega arith
one_line b (part ∷ []) = let last = last_line (length (b ∷ part) == 0) (b ∷ part) in omega arith
one_line b (part ∷ next ∷ more) = omega arith

newline_more : (parts : List (List ℕ)) → length (lines_of_parts ([] ∷ parts)) ≤ 1 + length (lines_of_parts parts)
newline_more [] = omega arith
newline_more (part ∷ more) = omega arith

more_parts : (newline : Bool) (b : ℕ) (parts : List (List ℕ)) → length (lines_of_parts (cond newline ([] ∷ parts) (onto_first b parts))) ≤ 1 + length (lines_of_parts parts)
more_parts true b parts = newline_more parts
more_parts false b parts = one_line b parts

few_lines : (bytes : List ℕ) → length (lines bytes) ≤ length bytes
few_lines [] = omega arith
few_lines (b ∷ bytes) = let first = more_parts (b == 10) b (slice_split (λ c. c == 10) bytes) in let rest = few_lines bytes in omega arith

-- The script begins at most one line after the last.
pub script_begins : (bytes : List ℕ) (read : CorpusRead) (limit : ℕ) → corpus_of (lines bytes) ≡ Ok (read_of bytes read) → length bytes ≤ limit → read.script_line ≤ limit + 1
script_begins bytes read limit found short =
    let at = subst (Numbered 1 (length (lines bytes))) found (numbered 1 [] (lines bytes)) in
    omega (arith, at.1, few_lines bytes)

-- ---- refusals

module _ (mode : Mode) (nodes : ℕ) where
  whole_script : {A : Type 0} (n : ℕ) (found : Result (List Command) Fault) (f : List Command → A) → After n found → After n (and_then found (λ commands. Ok (f commands)))
  whole_script n (Ok commands) f h = tt
  whole_script n (Err fault) f h = h

  script_after : (count : ℕ) (found : Result Read Fault) → Numbered 1 count found → After 1 (and_then found (with_script mode nodes))
  unfolding with_script
  script_after count (Ok read) h = not_before 1 read.1 _ h.0 (whole_script read.1 _ _ (commands_after mode nodes read.1 [] read.2))
  script_after count (Err fault) h = h

  -- Where lines are refused, it is at one of them.
  pub refused_at : (text : List (List ℕ)) (fault : Fault) → read_lines mode nodes text ≡ Err fault → 1 ≤ fault.0
  unfolding read_lines
  refused_at text fault e = subst (After 1) e (script_after (length text) (corpus_of text) (numbered 1 [] text))
