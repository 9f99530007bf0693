-- The steps of reading an action line.
use Rattle.std.proofs.Common.{◌≡◌, ℕ, List, Bool, true, false, cond, codes, Option, Some, None, Result, Ok, Err, refl, sym, ap, ◌∙◌, subst}
use Rattle.std.specs.Option.{ok_or}
use Rattle.serde_json.specs.Data.{Data}
use Rattle.serde_json.specs.Find.{get}
use Rattle.serde_json.specs.Written.{has_float}
use Rattle.task_ids.specs.declared.cause.Cause.{Cause}
use Rattle.task_ids.specs.declared.cause.Cause.TheVariants.{BadAction}
use Rattle.shard_docs.specs.declared.action.BulkKind.{BulkKind}
use Rattle.shard_docs.specs.declared.fault.LineError.{LineError}
use Rattle.shard_docs.specs.declared.fault.LineError.TheVariants.{Refused, Memory}
use Rattle.shard_docs.specs.BulkAction.{has_one_key, chosen, kind_of, index_of, id_or_auto, target_of, action_of_value}
use Rattle.shard_docs.specs.Fault.{and_then, on_line, Says}
use Rattle.shard_docs.proofs.FloatLemmas.{found_whole}

-- what is found at a line was found
pub found_on_line : {A : Type 0} (at : ℕ) (found : Result A Cause) (x : A) → on_line at found ≡ Ok x → found ≡ Ok x
found_on_line at (Ok y) x e = let same : y ≡ x = cc in ap Ok same
found_on_line at (Err cause) x e = cc

-- a cause of a first step is one of both
pub first_says : {A B : Type 0} (found : Result A Cause) (f : A → Result B Cause) (error : LineError) → Says error found → Says error (and_then found f)
first_says (Ok x) f (Refused cause) said = cc
first_says (Err e) f (Refused cause) said = let same : e ≡ cause = cc in ap Err same
first_says found f Memory said = tt

chosen_whole : (one : Bool) (first second : Option Data) (choice : BulkKind × Data) → ((d : Data) → first ≡ Some d → has_float d ≡ false) → ((d : Data) → second ≡ Some d → has_float d ≡ false)
    → cond one (chosen first second) (Err BadAction) ≡ Ok choice → has_float choice.1 ≡ false
chosen_whole false first second choice f s e = cc
chosen_whole true (Some d) second choice f s e = let same : d ≡ choice.1 = cc in subst (λ x. has_float x ≡ false) same (f d refl)
chosen_whole true None (Some d) choice f s e = let same : d ≡ choice.1 = cc in subst (λ x. has_float x ≡ false) same (s d refl)
chosen_whole true None None choice f s e = cc

-- what an action is about has no float where its line has none
pub target_whole : (value : Data) (choice : BulkKind × Data) → has_float value ≡ false → kind_of value ≡ Ok choice → has_float choice.1 ≡ false
target_whole value choice whole e =
    chosen_whole (has_one_key value) (get (codes "index") value) (get (codes "create") value) choice
    (λ d found. found_whole (codes "index") value d whole found) (λ d found. found_whole (codes "create") value d whole found) e

-- a cause of the id is one of the action
pub id_says : (at : ℕ) (value : Data) (choice : BulkKind × Data) (index : List ℕ) (error : LineError) → kind_of value ≡ Ok choice → Some index ≡ index_of choice.1
    → Says error (ok_or (id_or_auto at (get (codes "_id") choice.1)) BadAction) → Says error (action_of_value at value)
unfolding action_of_value
id_says at value choice index error kind named said =
    subst (Says error)
    (sym
    (ap (λ found. and_then found (λ x. target_of at x.0 x.1)) kind
    ∙ ap (λ found. and_then (ok_or found BadAction) (λ i. and_then (ok_or (id_or_auto at (get (codes "_id") choice.1)) BadAction) (λ id. Ok (record { kind = choice.0; index = i; id = id })))) (sym named)))
    (first_says (ok_or (id_or_auto at (get (codes "_id") choice.1)) BadAction) (λ id. Ok (record { kind = choice.0; index = index; id = id })) error said)
