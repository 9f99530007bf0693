-- Causes that are not seen at once: none is on a line that may be read.
use Rattle.std.proofs.Common.{◌≡◌, ℕ, List, Bool, true, false, not, is_some, ◌&&◌, cond, codes, nat_lt, length, Option, Some, None, Result, Ok, Err, IsTrue, refl}
use Rattle.std.specs.Option.{ok_or}
use Rattle.std.specs.Str.{is_utf8}
use Rattle.serde_json.specs.Data.{Data}
use Rattle.serde_json.specs.Find.{get, as_object}
use Rattle.serde_json.specs.Read.{read}
use Rattle.serde_json.specs.Written.{has_float}
use Rattle.task_ids.specs.declared.cause.Cause.{Cause}
use Rattle.task_ids.specs.declared.cause.Cause.TheVariants.{LineTooLong, BadUtf8, BadJson, BadAction}
use Rattle.shard_docs.specs.declared.action.BulkAction.{BulkAction}
use Rattle.shard_docs.specs.BulkAction.{has_one_key, chosen, kind_of, index_of, id_or_auto, action_of_value, action_of}
use Rattle.shard_docs.specs.Corpus.{is_create, noted}
use Rattle.shard_docs.specs.Fault.{and_then, is_seen_at_once}
use Rattle.shard_docs.specs.Json.{is_text, max_line, json_of, whole_json_of, source_of}

-- no cause that is seen at once was found
abbrev pub NotAtOnce : {A : Type 0} → Result A Cause → Type 0
NotAtOnce (Ok x) = Unit {0}
NotAtOnce (Err cause) = is_seen_at_once cause ≡ false

pub then_not_at_once : {A B : Type 0} (found : Result A Cause) (f : A → Result B Cause) → NotAtOnce found → ((x : A) → NotAtOnce (f x)) → NotAtOnce (and_then found f)
then_not_at_once (Ok x) f h g = g x
then_not_at_once (Err cause) f h g = h

pub either : {A : Type 0} (b : Bool) (x y : Result A Cause) → NotAtOnce x → NotAtOnce y → NotAtOnce (cond b x y)
either true x y p q = p
either false x y p q = q

pub or_late : {A : Type 0} (found : Option A) (cause : Cause) → is_seen_at_once cause ≡ false → NotAtOnce (ok_or found cause)
or_late (Some x) cause late = tt
or_late None cause late = late

chosen_not_at_once : (first second : Option Data) → NotAtOnce (chosen first second)
chosen_not_at_once (Some d) second = tt
chosen_not_at_once None (Some d) = tt
chosen_not_at_once None None = refl

pub action_not_at_once : (number : ℕ) (value : Data) → NotAtOnce (action_of_value number value)
unfolding action_of_value
action_not_at_once number value =
    then_not_at_once (kind_of value) _ (either (has_one_key value) _ _ (chosen_not_at_once (get (codes "index") value) (get (codes "create") value)) refl)
    (λ choice. then_not_at_once (ok_or (index_of choice.1) BadAction) _ (or_late (index_of choice.1) BadAction refl)
    (λ index. then_not_at_once (ok_or (id_or_auto number (get (codes "_id") choice.1)) BadAction) _ (or_late (id_or_auto number (get (codes "_id") choice.1)) BadAction refl) (λ id. tt)))

pub noted_not_at_once : (there : Bool) (action : BulkAction) → NotAtOnce (noted there action)
unfolding noted
noted_not_at_once there action = either (is_create action.kind && there) _ _ refl tt

json_if : (long utf8 : Bool) (found : Option Data) → IsTrue (cond long false utf8) → NotAtOnce (cond long (Err LineTooLong) (cond (not utf8) (Err BadUtf8) (ok_or found BadJson)))
json_if true utf8 found text = cc
json_if false true (Some x) text = tt
json_if false true None text = refl
json_if false false found text = cc

-- of a line that may be read
module _ (line : List ℕ) (text : IsTrue (is_text line)) where
  json_not_at_once : NotAtOnce (json_of line)
  unfolding json_of is_text
  json_not_at_once = json_if (nat_lt max_line (length line)) (is_utf8 line) (read line) text

  pub whole_not_at_once : NotAtOnce (whole_json_of line)
  unfolding whole_json_of
  whole_not_at_once = then_not_at_once (json_of line) _ json_not_at_once (λ value. either (has_float value) _ _ refl tt)

  pub source_not_at_once : NotAtOnce (source_of line)
  unfolding source_of
  source_not_at_once = then_not_at_once (whole_json_of line) _ whole_not_at_once (λ value. either (is_some (as_object value)) _ _ tt refl)

  pub line_not_at_once : (number : ℕ) → NotAtOnce (action_of number line)
  unfolding action_of
  line_not_at_once number = then_not_at_once (whole_json_of line) _ whole_not_at_once (action_not_at_once number)
