-- No command is refused by a cause that is seen at once, before its line is read.
use Rattle.std.proofs.Common.{◌≡◌, ℕ, suc, List, ◌&&◌, Bool, true, false, cond, codes, nat_le, nat_lt, Option, Some, None, option_and_then, Result, Ok, Err, IsTrue, refl, length}
use Rattle.std.specs.Option.{ok_or}
use Rattle.std.specs.Prelude.{ℤ, pos, negsuc, zero, is_some}
use Rattle.std.specs.Str.{bytes_eq}
use Rattle.serde_json.specs.Data.{Data, Members}
use Rattle.serde_json.specs.Find.{get_member, as_object, as_str, as_bool, as_number, as_u64, as_i64}
use Rattle.task_ids.specs.declared.cause.Cause.{Cause}
use Rattle.task_ids.specs.declared.cause.Cause.TheVariants.{UnknownNode, UnknownField, BadField, BadTaskId, BadReference, NotObject}
use Rattle.shard_docs.specs.Json.{is_text, whole_json_of}
use Rattle.shard_docs.proofs.LateCauses.{NotAtOnce, then_not_at_once, either, or_late, whole_not_at_once}
use Rattle.script_lang.specs.declared.command.Command.{Command}
use Rattle.script_lang.specs.declared.command.Mode.{Mode}
use Rattle.script_lang.specs.declared.kind.Kind.{Kind}
use Rattle.script_lang.specs.declared.kind.Kind.TheVariants as kinds
use Rattle.script_lang.specs.declared.targets.NamedFor.TheVariants as uses
use Rattle.script_lang.specs.Commands.{search_fields, search_in, scroll_fields, scroll_in, clear_fields, clear_in, reindex_fields, reindex_in, cancel_fields, cancel_in, list_fields, list_in, get_fields, get_in, forget_fields, forget_in, no_fields, results_in, list_step_fields, list_step_in, shuffle_fields, shuffle_in, wait_fields, wait_in, command_of_kind, only_member, is_run, is_for_sim, command_in}
use Rattle.script_lang.specs.Fields.{place_of, both, expects, are_among, fields_of, text_of, text_or, optional_text, node_in, node_or_first, task_in, optional_task, group_or_nodes, flag_or_false, body_in, object_in, number_in, from_1_to, max_slices, slices_or_one, max_rate, rate_of, rate_or_none, max_moves, needed_number, moves_in, optional_keep_alive, time_in, truth_of, truth_in}
use Rattle.script_lang.specs.Filters.{has_filter, filter_in}
use Rattle.script_lang.specs.KeepAlives.{keep_alive_of, day_ms}
use Rattle.script_lang.specs.Kinds.{kind_named}
use Rattle.script_lang.specs.Names.{task_id_of, node_of, group_named}
use Rattle.script_lang.specs.Script.{max_commands, command_of}
use Rattle.script_lang.specs.Targets.{starts_task, opens_context, can_be_awaited, allows, is_at, number_at, reference_in, target_of, target_in, context_of, context_in, one_task_of, one_task_in, awaited_in}

-- ---- fields

both_late : {A B : Type 0} (first : Result A Cause) (second : Result B Cause) → NotAtOnce first → NotAtOnce second → NotAtOnce (both first second)
both_late (Ok x) (Ok y) p q = tt
both_late (Ok x) (Err b) p q = q
both_late (Err a) (Ok y) p q = p
both_late (Err a) (Err b) p q = one_of (nat_lt (place_of b) (place_of a))
  where
    one_of : (c : Bool) → NotAtOnce {A = Unit {0}} (Err (cond c b a))
    one_of true = q
    one_of false = p

expects_late : (b : Bool) → NotAtOnce (expects b UnknownField)
expects_late true = tt
expects_late false = refl

fields_late : (known : List (List ℕ)) (value : Data) → NotAtOnce (fields_of known value)
unfolding fields_of
fields_late known value = then_not_at_once (ok_or (as_object value) BadField) _ (or_late (as_object value) BadField refl) (λ fields. then_not_at_once (expects (are_among known fields) UnknownField) _ (expects_late (are_among known fields)) (λ _. tt))

text_late : (field : Option Data) → NotAtOnce (text_of field)
text_late field = or_late (option_and_then as_str field) BadField refl

text_or_late : (default : List ℕ) (field : Option Data) → NotAtOnce (text_or default field)
text_or_late default None = tt
text_or_late default (Some value) = text_late (Some value)

optional_text_late : (field : Option Data) → NotAtOnce (optional_text field)
optional_text_late None = tt
optional_text_late (Some value) = then_not_at_once (text_of (Some value)) _ (text_late (Some value)) (λ text. tt)

node_late : (nodes : ℕ) (field : Option Data) → NotAtOnce (node_in nodes field)
unfolding node_in
node_late nodes field = then_not_at_once (text_of field) _ (text_late field) (λ name. or_late (node_of nodes name) UnknownNode refl)

node_or_first_late : (nodes : ℕ) (field : Option Data) → NotAtOnce (node_or_first nodes field)
node_or_first_late nodes None = tt
node_or_first_late nodes (Some value) = node_late nodes (Some value)

task_late : (field : Option Data) → NotAtOnce (task_in field)
unfolding task_in
task_late field = then_not_at_once (text_of field) _ (text_late field) (λ text. or_late (task_id_of text) BadTaskId refl)

optional_task_late : (field : Option Data) → NotAtOnce (optional_task field)
optional_task_late None = tt
optional_task_late (Some value) = then_not_at_once (task_in (Some value)) _ (task_late (Some value)) (λ task. tt)

group_late : (field : Option Data) → NotAtOnce (group_or_nodes field)
group_late None = tt
group_late (Some value) = then_not_at_once (text_of (Some value)) _ (text_late (Some value)) (λ name. or_late (group_named name) BadField refl)

flag_late : (field : Option Data) → NotAtOnce (flag_or_false field)
flag_late None = tt
flag_late (Some value) = or_late (as_bool value) BadField refl

body_late : (field : Option Data) → NotAtOnce (body_in field)
body_late None = tt
body_late (Some value) = either (is_some (as_object value)) _ _ tt refl

object_late : (field : Option Data) → NotAtOnce (object_in field)
object_late None = refl
object_late (Some value) = either (is_some (as_object value)) _ _ tt refl

number_late : (value : Data) → NotAtOnce (number_in value)
number_late value = or_late (option_and_then as_u64 (as_number value)) BadField refl

slices_late : (field : Option Data) → NotAtOnce (slices_or_one field)
slices_late None = tt
slices_late (Some value) = then_not_at_once (number_in value) _ (number_late value) (λ n. either (from_1_to max_slices n) _ _ tt refl)

rate_of_late : (z : ℤ) → NotAtOnce (rate_of z)
rate_of_late (pos n) = either (from_1_to max_rate n) _ _ tt refl
rate_of_late (negsuc zero) = tt
rate_of_late (negsuc (suc n)) = refl

rate_late : (field : Option Data) → NotAtOnce (rate_or_none field)
rate_late None = tt
rate_late (Some value) = then_not_at_once (ok_or (option_and_then as_i64 (as_number value)) BadField) rate_of (or_late (option_and_then as_i64 (as_number value)) BadField refl) rate_of_late

needed_late : (field : Option Data) → NotAtOnce (needed_number field)
needed_late None = refl
needed_late (Some value) = number_late value

moves_late : (field : Option Data) → NotAtOnce (moves_in field)
moves_late field = then_not_at_once (needed_number field) _ (needed_late field) (λ n. either (nat_le n max_moves) _ _ tt refl)

keep_alive_late : (field : Option Data) → NotAtOnce (optional_keep_alive field)
keep_alive_late None = tt
keep_alive_late (Some value) =
    then_not_at_once (text_of (Some value)) _ (text_late (Some value)) (λ text. then_not_at_once (ok_or (keep_alive_of text) BadField) _ (or_late (keep_alive_of text) BadField refl) (λ ms. tt))

time_late : (value : Data) → NotAtOnce (time_in value)
time_late value = then_not_at_once (number_in value) _ (number_late value) (λ ms. either (nat_le ms day_ms) _ _ tt refl)

truth_of_late : (found : Option Bool) → NotAtOnce (truth_of found)
truth_of_late (Some true) = tt
truth_of_late (Some false) = refl
truth_of_late None = refl

-- ---- what is named

filter_late : (fields : Members) → NotAtOnce (filter_in fields)
unfolding filter_in
filter_late fields =
    then_not_at_once (both (optional_text (get_member (codes "actions") fields)) (both (optional_text (get_member (codes "nodes") fields)) (optional_task (get_member (codes "parent_task_id") fields)))) _
    (both_late _ _ (optional_text_late (get_member (codes "actions") fields)) (both_late _ _ (optional_text_late (get_member (codes "nodes") fields)) (optional_task_late (get_member (codes "parent_task_id") fields)))) (λ found. tt)

reference_late : (test : Command → Bool) (before : List Command) (value : Data) → NotAtOnce (reference_in test before value)
unfolding reference_in
reference_late test before value =
    then_not_at_once (ok_or (as_number value) BadField) _ (or_late (as_number value) BadField refl) (λ number. or_late (option_and_then (number_at test before) (as_u64 number)) BadReference refl)

target_of_late : (before : List Command) (fields : Members) (task command : Option Data) → NotAtOnce (target_of before fields task command)
target_of_late before fields None None = then_not_at_once (filter_in fields) _ (filter_late fields) (λ filter. tt)
target_of_late before fields (Some task) None = either (has_filter fields) _ _ refl (then_not_at_once (task_in (Some task)) _ (task_late (Some task)) (λ id. tt))
target_of_late before fields None (Some command) = either (has_filter fields) _ _ refl (then_not_at_once (reference_in starts_task before command) _ (reference_late starts_task before command) (λ number. tt))
target_of_late before fields (Some task) (Some command) = refl

target_late : (before : List Command) (fields : Members) → NotAtOnce (target_in before fields)
unfolding target_in
target_late before fields = target_of_late before fields (get_member (codes "task_id") fields) (get_member (codes "command") fields)

context_of_late : (before : List Command) (id command : Option Data) → NotAtOnce (context_of before id command)
context_of_late before None None = refl
context_of_late before (Some id) None = then_not_at_once (task_in (Some id)) _ (task_late (Some id)) (λ id. tt)
context_of_late before None (Some command) = then_not_at_once (reference_in opens_context before command) _ (reference_late opens_context before command) (λ number. tt)
context_of_late before (Some id) (Some command) = refl

context_late : (before : List Command) (fields : Members) → NotAtOnce (context_in before fields)
unfolding context_in
context_late before fields = context_of_late before (get_member (codes "scroll_id") fields) (get_member (codes "command") fields)

one_task_of_late : (before : List Command) (id command : Option Data) → NotAtOnce (one_task_of before id command)
one_task_of_late before None None = refl
one_task_of_late before (Some id) None = then_not_at_once (task_in (Some id)) _ (task_late (Some id)) (λ id. tt)
one_task_of_late before None (Some command) = then_not_at_once (reference_in starts_task before command) _ (reference_late starts_task before command) (λ number. tt)
one_task_of_late before (Some id) (Some command) = refl

one_task_late : (before : List Command) (fields : Members) → NotAtOnce (one_task_in before fields)
unfolding one_task_in
one_task_late before fields = one_task_of_late before (get_member (codes "task_id") fields) (get_member (codes "command") fields)

awaited_late : (before : List Command) (field : Option Data) → NotAtOnce (awaited_in before field)
unfolding awaited_in
awaited_late before None = refl
awaited_late before (Some value) =
    then_not_at_once (reference_in (allows uses.Anything) before value) _ (reference_late (allows uses.Anything) before value) (λ number. either (is_at can_be_awaited before number) _ _ tt refl)

-- ---- commands

kind_late : (name : List ℕ) → NotAtOnce (kind_named name)
kind_late name =
    either (bytes_eq name (codes "search")) _ _ tt
    (either (bytes_eq name (codes "scroll")) _ _ tt
    (either (bytes_eq name (codes "clear_scroll")) _ _ tt
    (either (bytes_eq name (codes "reindex")) _ _ tt
    (either (bytes_eq name (codes "cancel")) _ _ tt
    (either (bytes_eq name (codes "list")) _ _ tt
    (either (bytes_eq name (codes "get_task")) _ _ tt
    (either (bytes_eq name (codes "forget_task")) _ _ tt
    (either (bytes_eq name (codes "list_results")) _ _ tt
    (either (bytes_eq name (codes "tick")) _ _ tt
    (either (bytes_eq name (codes "deliver")) _ _ tt
    (either (bytes_eq name (codes "step")) _ _ tt
    (either (bytes_eq name (codes "list_step")) _ _ tt
    (either (bytes_eq name (codes "settle")) _ _ tt
    (either (bytes_eq name (codes "shuffle")) _ _ tt
    (either (bytes_eq name (codes "wait_for")) _ _ tt
    (either (bytes_eq name (codes "history")) _ _ tt
    (either (bytes_eq name (codes "summary")) _ _ tt refl)))))))))))))))))

module _ (nodes : ℕ) (before : List Command) where
  of_kind_late : (kind : Kind) (value : Data) → NotAtOnce (command_of_kind nodes before kind value)
  unfolding search_in scroll_in clear_in reindex_in cancel_in list_in get_in forget_in results_in list_step_in shuffle_in wait_in
  of_kind_late kinds.Search value =
      then_not_at_once (fields_of search_fields value) _ (fields_late search_fields value) (λ fields. then_not_at_once _ _
      (both_late _ _ (text_late (get_member (codes "index") fields)) (both_late _ _ (node_or_first_late nodes (get_member (codes "node") fields)) (both_late _ _ (keep_alive_late (get_member (codes "scroll") fields)) (both_late _ _ (body_late (get_member (codes "body") fields)) (optional_text_late (get_member (codes "opaque_id") fields)))))) (λ found. tt))
  of_kind_late kinds.Scroll value =
      then_not_at_once (fields_of scroll_fields value) _ (fields_late scroll_fields value) (λ fields. then_not_at_once _ _
      (both_late _ _ (context_late before fields) (both_late _ _ (keep_alive_late (get_member (codes "scroll") fields)) (optional_text_late (get_member (codes "opaque_id") fields)))) (λ found. tt))
  of_kind_late kinds.ClearScroll value =
      then_not_at_once (fields_of clear_fields value) _ (fields_late clear_fields value) (λ fields. then_not_at_once _ _ (context_late before fields) (λ found. tt))
  of_kind_late kinds.Reindex value =
      then_not_at_once (fields_of reindex_fields value) _ (fields_late reindex_fields value) (λ fields. then_not_at_once _ _
      (both_late _ _ (node_or_first_late nodes (get_member (codes "node") fields)) (both_late _ _ (object_late (get_member (codes "body") fields)) (both_late _ _ (slices_late (get_member (codes "slices") fields)) (both_late _ _ (rate_late (get_member (codes "requests_per_second") fields)) (both_late _ _ (optional_text_late (get_member (codes "opaque_id") fields)) (flag_late (get_member (codes "store") fields))))))) (λ found. tt))
  of_kind_late kinds.Cancel value =
      then_not_at_once (fields_of cancel_fields value) _ (fields_late cancel_fields value) (λ fields. then_not_at_once _ _
      (both_late _ _ (target_late before fields) (both_late _ _ (text_or_late (codes "by user request") (get_member (codes "reason") fields)) (flag_late (get_member (codes "wait_for_completion") fields)))) (λ found. tt))
  of_kind_late kinds.ListTasks value =
      then_not_at_once (fields_of list_fields value) _ (fields_late list_fields value) (λ fields. then_not_at_once _ _
      (both_late _ _ (filter_late fields) (both_late _ _ (group_late (get_member (codes "group_by") fields)) (flag_late (get_member (codes "detailed") fields)))) (λ found. tt))
  of_kind_late kinds.GetTask value =
      then_not_at_once (fields_of get_fields value) _ (fields_late get_fields value) (λ fields. then_not_at_once _ _
      (both_late _ _ (one_task_late before fields) (flag_late (get_member (codes "wait_for_completion") fields))) (λ found. tt))
  of_kind_late kinds.ForgetTask value =
      then_not_at_once (fields_of forget_fields value) _ (fields_late forget_fields value) (λ fields. then_not_at_once _ _ (one_task_late before fields) (λ found. tt))
  of_kind_late kinds.ListResults value = then_not_at_once (fields_of no_fields value) _ (fields_late no_fields value) (λ fields. tt)
  of_kind_late kinds.Tick value = then_not_at_once (time_in value) _ (time_late value) (λ ms. tt)
  of_kind_late kinds.Deliver value = then_not_at_once (number_in value) _ (number_late value) (λ nth. tt)
  of_kind_late kinds.Step value = then_not_at_once (task_in (Some value)) _ (task_late (Some value)) (λ task. tt)
  of_kind_late kinds.ListStep value =
      then_not_at_once (fields_of list_step_fields value) _ (fields_late list_step_fields value) (λ fields. then_not_at_once _ _
      (both_late _ _ (node_late nodes (get_member (codes "node") fields)) (task_late (get_member (codes "parent") fields))) (λ found. tt))
  of_kind_late kinds.Settle value = then_not_at_once (truth_in value) _ (truth_of_late (as_bool value)) (λ _. tt)
  of_kind_late kinds.Shuffle value =
      then_not_at_once (fields_of shuffle_fields value) _ (fields_late shuffle_fields value) (λ fields. then_not_at_once _ _
      (both_late _ _ (needed_late (get_member (codes "seed") fields)) (moves_late (get_member (codes "moves") fields))) (λ found. tt))
  of_kind_late kinds.WaitFor value =
      then_not_at_once (fields_of wait_fields value) _ (fields_late wait_fields value) (λ fields. then_not_at_once _ _ (awaited_late before (get_member (codes "command") fields)) (λ found. tt))
  of_kind_late kinds.History value = then_not_at_once (truth_in value) _ (truth_of_late (as_bool value)) (λ _. tt)
  of_kind_late kinds.Summary value = then_not_at_once (truth_in value) _ (truth_of_late (as_bool value)) (λ _. tt)

  command_late : (mode : Mode) (value : Data) → NotAtOnce (command_in mode nodes before value)
  unfolding command_in
  command_late mode value =
      then_not_at_once (ok_or (only_member value) NotObject) _ (or_late (only_member value) NotObject refl)
      (λ entry. then_not_at_once (kind_named entry.0) _ (kind_late entry.0) (λ kind. either (is_run mode && is_for_sim kind entry.1) _ _ refl (of_kind_late kind entry.1)))

  -- Where there is room for one more command and its line may be read, a cause is found only once it is.
  pub command_not_at_once : (mode : Mode) (line : List ℕ) → nat_le max_commands (length before) ≡ false → IsTrue (is_text line) → NotAtOnce (command_of mode nodes before line)
  unfolding command_of
  command_not_at_once mode line few text = rw few (then_not_at_once (whole_json_of line) _ (whole_not_at_once line text) (command_late mode))
