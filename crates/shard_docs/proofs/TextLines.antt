-- What is read stands on a line that may be read; and what is said of want of memory.
use Rattle.std.proofs.Common.{◌≡◌, ℕ, List, ◌∷◌, length, Bool, true, false, not, cond, eqb, nat_lt, IsTrue, Result, Ok, Err, refl}
use Rattle.std.specs.Option.{ok_or}
use Rattle.std.specs.Str.{is_utf8}
use Rattle.serde_json.specs.Data.{Data}
use Rattle.serde_json.specs.Read.{read}
use Rattle.task_ids.specs.declared.cause.Cause.{Cause}
use Rattle.task_ids.specs.declared.cause.Cause.TheVariants.{LineTooLong, BadUtf8, BadJson}
use Rattle.task_ids.specs.declared.corpus.CorpusLine.{CorpusLine}
use Rattle.shard_docs.specs.declared.action.BulkAction.{BulkAction}
use Rattle.shard_docs.specs.declared.fault.LineError.{LineError}
use Rattle.shard_docs.specs.declared.fault.LineError.TheVariants.{Refused, Memory}
use Rattle.shard_docs.specs.BulkAction.{action_of_value, action_of}
use Rattle.shard_docs.specs.Corpus.{next_document}
use Rattle.shard_docs.specs.Fault.{and_then, on_line, OnMemory}
use Rattle.shard_docs.specs.Json.{is_text, begins_with_text, max_line, json_of, whole_json_of}
use Rattle.shard_docs.proofs.ActionLemmas.{found_on_line}

-- what holds is said of want of memory too
pub said : {X : Type 0} (P : Type 0) (answer : Result X LineError) → P → OnMemory answer P
said P (Ok x) p = tt
said P (Err (Refused cause)) p = tt
said P (Err Memory) p = p

-- both steps were taken
pub through : {A B E P : Type 0} (found : Result A E) (f : A → Result B E) (y : B) → and_then found f ≡ Ok y → ((x : A) → found ≡ Ok x → P) → P
through (Ok x) f y e then = then x refl
through (Err e) f y is then = cc

text_if_read : {A : Type 0} (long utf8 : Bool) (found : Result A Cause) (x : A) → cond long (Err LineTooLong) (cond (not utf8) (Err BadUtf8) found) ≡ Ok x → IsTrue (cond long false utf8)
text_if_read true utf8 found x e = cc
text_if_read false true found x e = refl
text_if_read false false found x e = cc

module _ (line : List ℕ) where
  pub text_of_json : (x : Data) → json_of line ≡ Ok x → IsTrue (is_text line)
  unfolding json_of is_text
  text_of_json x e = text_if_read (nat_lt max_line (length line)) (is_utf8 line) (ok_or (read line) BadJson) x e

  pub text_of_whole : (x : Data) → whole_json_of line ≡ Ok x → IsTrue (is_text line)
  unfolding whole_json_of
  text_of_whole x e = through (json_of line) _ x e text_of_json

  pub text_of_action : (number : ℕ) (x : BulkAction) → action_of number line ≡ Ok x → IsTrue (is_text line)
  unfolding action_of
  text_of_action number x e = through (whole_json_of line) (action_of_value number) x e text_of_whole

  pub text_of_next : (number : ℕ) (there : List ℕ → List ℕ → Bool) (rest : List (List ℕ)) (x : CorpusLine × List (List ℕ)) → next_document number there line rest ≡ Ok x → IsTrue (is_text line)
  unfolding next_document
  text_of_next number there rest x e = through (on_line number (action_of number line)) _ x e (λ action is. text_of_action number action (found_on_line number (action_of number line) action is))

  module _ (here rest : List (List ℕ)) (split : here ≡ line ∷ rest) where
    pub begins_at : eqb (length line) 0 ≡ false → IsTrue (is_text line) → IsTrue (begins_with_text here)
    unfolding begins_with_text
    begins_at some text = rw (split, some) text

    pub begins_after : eqb (length line) 0 ≡ true → IsTrue (begins_with_text rest) → IsTrue (begins_with_text here)
    unfolding begins_with_text
    begins_after empty text = rw (split, empty) text
