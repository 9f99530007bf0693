-- What stands in a line of whole numbers that nests no deeper than 127 is so too.
use Rattle.std.proofs.Common.{◌≡◌, ℕ, ◌≤◌, List, Bool, true, false, cond, codes, Option, Some, None, is_some, Ok, Err, Ordering, Less, Equal, Greater, nat_cmp, refl, ap, subst, arith}
use Rattle.std.specs.Cmp.Lexicographic.{slice_cmp}
use Rattle.std.specs.Option.{ok_or}
use Rattle.std.specs.Ordering.{match_ordering}
use Rattle.serde_json.specs.Data.{Data, null, boolean, number, string, array, object, Members, no_members, member, depth, members_depth}
use Rattle.serde_json.specs.Find.{as_object, get_member}
use Rattle.serde_json.specs.Read.{max_depth}
use Rattle.serde_json.specs.Written.{has_float}
use Rattle.shard_docs.proofs.FloatLemmas.{found_whole}
use Rattle.shard_docs.specs.Fault.{and_then}
use Rattle.task_ids.specs.Source.{IsSource}
use Rattle.task_ids.specs.declared.cause.Cause.TheVariants.{BadField, UnknownField}
use Rattle.script_lang.specs.declared.command.Command.TheVariants.{Search, Reindex}
use Rattle.script_lang.specs.Fields.{both, are_among, expects, fields_of, text_of, optional_text, flag_or_false, node_or_first, optional_keep_alive, body_in, object_in, slices_or_one, rate_or_none}
use Rattle.script_lang.specs.Commands.{search_fields, search_in, reindex_fields, reindex_in}
use Rattle.script_lang.proofs.FieldLemmas.{both_first, both_second, first_ok}

-- a member nests no deeper than the members
member_depth : (key : List ℕ) (ms : Members) (found : Data) → get_member key ms ≡ Some found → depth found ≤ members_depth ms
member_depth key no_members found e = cc
member_depth key (member k d ms) found e = either (slice_cmp nat_cmp key k) (get_member key ms) e (member_depth key ms found)
  where
    either : (o : Ordering) (rest : Option Data) → match_ordering o rest (Some d) rest ≡ Some found → (rest ≡ Some found → depth found ≤ members_depth ms) → depth found ≤ members_depth (member k d ms)
    either Less rest is later = let below = later is in omega arith
    either Equal rest is later = let same : d ≡ found = cc in subst (λ x. depth x ≤ members_depth (member k d ms)) same (omega arith)
    either Greater rest is later = let below = later is in omega arith

-- an object is that of its members
object_is : (value : Data) (fields : Members) → as_object value ≡ Some fields → value ≡ object fields
object_is null fields e = cc
object_is (boolean b) fields e = cc
object_is (number n) fields e = cc
object_is (string s) fields e = cc
object_is (array ds) fields e = cc
object_is (object ms) fields e = let same : ms ≡ fields = cc in ap object same

named : (known : Members → Bool) (found : Option Members) (fields : Members)
    → and_then (ok_or found BadField) (λ ms. and_then (expects (known ms) UnknownField) (λ _. Ok ms)) ≡ Ok fields → found ≡ Some fields
named known None fields e = cc
named known (Some ms) fields e = chosen (known ms) e
  where
    chosen : (k : Bool) → and_then (expects k UnknownField) (λ _. Ok ms) ≡ Ok fields → Some ms ≡ Some fields
    chosen false e' = cc
    chosen true e' = let same : ms ≡ fields = cc in ap Some same

-- the fields of a command are those of its object
fields_are : (known : List (List ℕ)) (value : Data) (fields : Members) → fields_of known value ≡ Ok fields → value ≡ object fields
unfolding fields_of
fields_are known value fields e = object_is value fields (named (are_among known) (as_object value) fields e)

kept : (b : Bool) (value body : Data) → cond b (Ok value) (Err BadField) ≡ Ok body → (b ≡ true) × (value ≡ body)
kept true value body e = (refl, cc)
kept false value body e = cc

-- what a body is read as is a source
body_found : (field : Option Data) (body : Data) → ((found : Data) → field ≡ Some found → (has_float found ≡ false) × (depth found ≤ max_depth)) → body_in field ≡ Ok body → IsSource body
body_found None body found e =
    let same : object no_members ≡ body = cc in
    subst IsSource same (record { is_object = refl; is_whole = refl; nests = omega arith })
body_found (Some value) body found e =
    let is = kept (is_some (as_object value)) value body e in
    let within = found value refl in
    subst IsSource is.1 (record { is_object = is.0; is_whole = within.0; nests = within.1 })

-- the body of a search is a source, where the search is of whole numbers and nests no deeper than 127
pub body_is_source : (nodes : ℕ) (value : Data) (index : List ℕ) (node : ℕ) (scroll : Option ℕ) (body : Data) (opaque_id : Option (List ℕ)) → has_float value ≡ false → depth value ≤ max_depth
    → search_in nodes value ≡ Ok (Search index node scroll body opaque_id) → IsSource body
unfolding search_in
body_is_source nodes value index node scroll body opaque_id whole nests e =
    let step = first_ok (fields_of search_fields value) _ (Search index node scroll body opaque_id) e in
    let is : value ≡ object step.0 = fields_are search_fields value step.0 step.1 in
    let below : depth (object step.0) ≤ max_depth = subst (λ d. depth d ≤ max_depth) is nests in
    let found = first_ok (both (text_of (get_member (codes "index") step.0)) (both (node_or_first nodes (get_member (codes "node") step.0)) (both (optional_keep_alive (get_member (codes "scroll") step.0)) (both (body_in (get_member (codes "body") step.0)) (optional_text (get_member (codes "opaque_id") step.0)))))) _ (Search index node scroll body opaque_id) step.2 in
    let same : found.0.1.1.1.0 ≡ body = cc (found.2) in
    let at = both_first _ _ found.0.1.1.1 (both_second _ _ found.0.1.1 (both_second _ _ found.0.1 (both_second _ _ found.0 found.1))) in
    subst IsSource same (body_found (get_member (codes "body") step.0) found.0.1.1.1.0 (λ d at.
    let inside = member_depth (codes "body") step.0 d at in
    (found_whole (codes "body") (object step.0) d (subst (λ d. has_float d ≡ false) is whole) at, omega arith)) at)

-- what a body that must be there is read as is a source
object_found : (field : Option Data) (body : Data) → ((found : Data) → field ≡ Some found → (has_float found ≡ false) × (depth found ≤ max_depth)) → object_in field ≡ Ok body → IsSource body
object_found None body found e = cc
object_found (Some value) body found e = body_found (Some value) body found e

-- the body of a reindex is a source, where the reindex is of whole numbers and nests no deeper than 127
pub reindex_body_is_source : (nodes : ℕ) (value : Data) (node : ℕ) (body : Data) (slices : ℕ) (rate : Option ℕ) (opaque_id : Option (List ℕ)) (store : Bool) → has_float value ≡ false → depth value ≤ max_depth
    → reindex_in nodes value ≡ Ok (Reindex node body slices rate opaque_id store) → IsSource body
unfolding reindex_in
reindex_body_is_source nodes value node body slices rate opaque_id store whole nests e =
    let step = first_ok (fields_of reindex_fields value) _ (Reindex node body slices rate opaque_id store) e in
    let is : value ≡ object step.0 = fields_are reindex_fields value step.0 step.1 in
    let below : depth (object step.0) ≤ max_depth = subst (λ d. depth d ≤ max_depth) is nests in
    let found = first_ok (both (node_or_first nodes (get_member (codes "node") step.0)) (both (object_in (get_member (codes "body") step.0)) (both (slices_or_one (get_member (codes "slices") step.0)) (both (rate_or_none (get_member (codes "requests_per_second") step.0)) (both (optional_text (get_member (codes "opaque_id") step.0)) (flag_or_false (get_member (codes "store") step.0))))))) _ (Reindex node body slices rate opaque_id store) step.2 in
    let same : found.0.1.0 ≡ body = cc (found.2) in
    let at = both_first _ _ found.0.1 (both_second _ _ found.0 found.1) in
    subst IsSource same (object_found (get_member (codes "body") step.0) found.0.1.0 (λ d at.
    let inside = member_depth (codes "body") step.0 d at in
    (found_whole (codes "body") (object step.0) d (subst (λ d. has_float d ≡ false) is whole) at, omega arith)) at)
