-- Where memory may run out while a corpus is read.
use Rattle.std.proofs.Common.{◌≡◌, ℕ, ◌+◌, ◌<◌, List, [], ◌∷◌, Bool, true, false, cond, Result, Ok, Err, IsTrue, refl, ap, ◌∙◌, subst, arith}
use Rattle.std.specs.Str.{bytes_eq}
use Rattle.task_ids.specs.declared.cause.Cause.{Cause}
use Rattle.task_ids.specs.declared.cause.Cause.TheVariants.{NoSource}
use Rattle.shard_docs.specs.declared.action.BulkAction.{BulkAction}
use Rattle.shard_docs.specs.BulkAction.{action_of}
use Rattle.shard_docs.specs.Corpus.{dashes, source_line, noted, document, next_document}
use Rattle.shard_docs.specs.declared.fault.CorpusError.{CorpusError}
use Rattle.shard_docs.specs.declared.fault.CorpusError.TheVariants.{Bad, Memory}
use Rattle.shard_docs.specs.declared.fault.LineError.{LineError}
use Rattle.shard_docs.specs.declared.fault.LineError.TheVariants as why
use Rattle.shard_docs.specs.Fault.{Fault, and_then, on_line, read_at, Reads, OnMemory, MayRunOut, WhereShort}
use Rattle.shard_docs.specs.Json.{is_text, source_of}
use Rattle.shard_docs.proofs.FaultLines.{After}
use Rattle.shard_docs.proofs.LateCauses.{NotAtOnce, noted_not_at_once, source_not_at_once, line_not_at_once}

-- ---- at this line

module _ (at : ℕ) where
  pub runs_then : {A B : Type 0} (found : Result A Fault) (f : A → Result B Fault) → MayRunOut found at → ((x : A) → MayRunOut (f x) at) → MayRunOut (and_then found f) at
  runs_then (Ok x) f h g = g x
  runs_then (Err fault) f h g = h

  -- past what was found
  pub runs_past : {A B : Type 0} (found : Result A Fault) (f : A → Result B Fault) (x : A) → found ≡ Ok x → MayRunOut (f x) at → MayRunOut (and_then found f) at
  runs_past (Ok y) f x e h = let same : x ≡ y = cc in subst (λ z. MayRunOut (f z) at) same h
  runs_past (Err fault) f x e h = absurd cc

  -- before what is found later
  pub runs_before : {A : Type 0} (n : ℕ) (found : Result A Fault) → at < n → After n found → MayRunOut found at
  runs_before n (Ok x) lt h = tt
  runs_before n (Err fault) lt h = (omega arith, λ same. absurd (omega arith))

  pub runs_before_line : {A : Type 0} (n : ℕ) (found : Result A Cause) → at < n → MayRunOut (on_line n found) at
  runs_before_line n (Ok x) lt = tt
  runs_before_line n (Err cause) lt = (omega arith, λ same. absurd (omega arith))

  pub runs_here : {A : Type 0} (found : Result A Cause) → NotAtOnce found → MayRunOut (on_line at found) at
  runs_here (Ok x) h = tt
  runs_here (Err cause) h = (omega arith, λ same. h)

-- ---- at the line of an action, or of its source

module _ (number : ℕ) where
  -- while the document of an action is noted
  pub noting_runs_out : (there : Bool) (action : BulkAction) (source : List ℕ) → MayRunOut (document number there action source) number
  unfolding document
  noting_runs_out there action source =
      runs_then number (on_line number (noted there action)) _ (runs_here number (noted there action) (noted_not_at_once there action))
      (λ _. runs_then number (on_line (number + 1) (source_of source)) _ (runs_before_line number (number + 1) (source_of source) (omega arith)) (λ _. tt))

  -- while its source is read
  pub source_runs_out : (there : Bool) (action : BulkAction) (source : List ℕ) (known : Unit {0}) → noted there action ≡ Ok known → IsTrue (is_text source) → MayRunOut (document number there action source) (number + 1)
  unfolding document
  source_runs_out there action source known is text =
      runs_past (number + 1) (on_line number (noted there action)) _ known (ap (on_line number) is)
      (runs_then (number + 1) (on_line (number + 1) (source_of source)) _ (runs_here (number + 1) (source_of source) (source_not_at_once source text)) (λ _. tt))

  after_source : (rest : List (List ℕ)) → MayRunOut (source_line number rest) number
  after_source [] = (omega arith, λ same. refl)
  after_source (line ∷ rest) = missing (bytes_eq line dashes) line rest
    where
      missing : (b : Bool) (line : List ℕ) (rest : List (List ℕ)) → MayRunOut {Y = List ℕ × List (List ℕ)} (cond b (Err (number, NoSource)) (Ok (line, rest))) number
      missing true line rest = (omega arith, λ same. refl)
      missing false line rest = tt

  module _ (there : List ℕ → List ℕ → Bool) (line : List ℕ) (rest : List (List ℕ)) where
    -- while an action is read
    pub action_runs_out : IsTrue (is_text line) → MayRunOut (next_document number there line rest) number
    unfolding next_document
    action_runs_out text =
        runs_then number (on_line number (action_of number line)) _ (runs_here number (action_of number line) (line_not_at_once line text number))
        (λ action. runs_then number (source_line number rest) _ (after_source rest)
        (λ source. runs_then number (document number (there action.index action.id) action source.0) _ (noting_runs_out (there action.index action.id) action source.0) (λ _. tt)))

    -- while its document is made
    pub document_runs_out : (at : ℕ) (action : BulkAction) (source : List ℕ × List (List ℕ)) → action_of number line ≡ Ok action → source_line number rest ≡ Ok source
        → MayRunOut (document number (there action.index action.id) action source.0) at → MayRunOut (next_document number there line rest) at
    unfolding next_document
    document_runs_out at action source read split runs =
        runs_past at (on_line number (action_of number line)) _ action (ap (on_line number) read)
        (runs_past at (source_line number rest) _ source split
        (runs_then at (document number (there action.index action.id) action source.0) _ runs (λ _. tt)))

-- ---- what a reader answers

-- a value that was read at a line
pub ok_at : {X Y : Type 0} (number : ℕ) (view : X → Y) (answer : Result X LineError) (found : Result Y Cause) (x : X) → Ok x ≡ read_at number answer → Reads view answer found → found ≡ Ok (view x)
ok_at number view (Ok y) found x e reads = let same : y ≡ x = cc in reads ∙ ap (λ z. Ok (view z)) same
ok_at number view (Err (why.Refused cause)) found x e reads = absurd cc
ok_at number view (Err why.Memory) found x e reads = absurd cc

-- what is said of want of memory at a line
pub short_at : {X : Type 0} (number : ℕ) (P : Type 0) (Q : ℕ → Type 0) (answer : Result X LineError) (error : CorpusError) → Err error ≡ read_at number answer → OnMemory answer P → (P → Q number) → WhereShort {X = ℕ} (Err error) Q
short_at number P Q (Ok x) error e p then = absurd cc
short_at number P Q (Err (why.Refused cause)) error e p then = let same : Bad number cause ≡ error = cc in subst (λ told. WhereShort {X = ℕ} (Err told) Q) same tt
short_at number P Q (Err why.Memory) error e p then = let same : Memory number ≡ error = cc in subst (λ told. WhereShort {X = ℕ} (Err told) Q) same (then p)

-- and what follows from it
pub short_so : (P Q : ℕ → Type 0) (error : CorpusError) → ((at : ℕ) → P at → Q at) → WhereShort {X = ℕ} (Err error) P → WhereShort {X = ℕ} (Err error) Q
short_so P Q (Bad number cause) f p = tt
short_so P Q (Memory number) f p = f number p
