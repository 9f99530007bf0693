-- The commands of a script that is read fit a cluster and one another, and are not too many.
use Rattle.std.proofs.Common.{◌≡◌, ℕ, suc, ◌+◌, ◌≤◌, ◌<◌, List, [], ◌∷◌, ◌++◌, length, take, length-take, Bool, true, false, ◌&&◌, cond, eqb, codes, Option, Some, None, option_map, option_and_then, Result, Ok, Err, refl, sym, ap, ◌∙◌, subst, append_assoc, arith}
use Rattle.std.proofs.lemmas.List.{append-nil, length-append}
use Rattle.std.specs.List.{position_from}
use Rattle.std.specs.Option.{ok_or}
use Rattle.std.specs.Prelude.{nat_le, ℤ, pos, negsuc, zero}
use Rattle.std.specs.Str.{bytes_eq}
use Rattle.serde_json.specs.Data.{Data, Members}
use Rattle.serde_json.specs.Find.{get_member, as_number, as_u64, as_i64}
use Rattle.shard_docs.specs.Fault.{and_then, on_line}
use Rattle.shard_docs.specs.Json.{whole_json_of}
use Rattle.shard_docs.proofs.ActionLemmas.{found_on_line}
use Rattle.task_ids.specs.declared.cause.Cause.{Cause}
use Rattle.task_ids.specs.declared.cause.Cause.TheVariants.{TooManyLines, UnknownNode, BadField, BadReference, NotWaitable, NotObject, ScheduleLineInRun}
use Rattle.script_lang.specs.declared.command.CancelTarget.{CancelTarget}
use Rattle.script_lang.specs.declared.command.CancelTarget.TheVariants as targets
use Rattle.script_lang.specs.declared.command.Command.{Command}
use Rattle.script_lang.specs.declared.command.Command.TheVariants.{Search, Scroll, ClearScroll, Reindex, Cancel, ListTasks, GetTask, ForgetTask, ListResults, Tick, Deliver, Step, ListStep, Settle, Shuffle, WaitFor, History, Summary}
use Rattle.script_lang.specs.declared.command.ContextTarget.{ContextTarget}
use Rattle.script_lang.specs.declared.command.ContextTarget.TheVariants as contexts
use Rattle.script_lang.specs.declared.command.Mode.{Mode}
use Rattle.script_lang.specs.declared.command.TaskTarget.{TaskTarget}
use Rattle.script_lang.specs.declared.command.TaskTarget.TheVariants as tasks
use Rattle.script_lang.specs.declared.kind.Kind.{Kind}
use Rattle.script_lang.specs.declared.kind.Kind.TheVariants as kinds
use Rattle.script_lang.specs.declared.targets.NamedFor.TheVariants as uses
use Rattle.script_lang.specs.Commands.{search_fields, search_in, scroll_fields, scroll_in, clear_fields, clear_in, reindex_fields, reindex_in, cancel_fields, cancel_in, list_fields, list_in, get_fields, get_in, forget_fields, forget_in, no_fields, results_in, list_step_fields, list_step_in, shuffle_fields, shuffle_in, wait_fields, wait_in, command_of_kind, only_member, is_run, is_for_sim, command_in}
use Rattle.script_lang.specs.Fields.{both, fields_of, text_of, text_or, optional_text, node_in, node_or_first, task_in, group_or_nodes, flag_or_false, body_in, object_in, number_in, from_1_to, max_slices, slices_or_one, max_rate, rate_of, rate_or_none, max_moves, needed_number, moves_in, optional_keep_alive, time_in, truth_in}
use Rattle.script_lang.specs.Filters.{has_filter, filter_in}
use Rattle.script_lang.specs.Fits.{IsNodeOf, IsSliceCount, IsRate, NamesStart, NamesContext, NamesTask, Fits, AllFit}
use Rattle.script_lang.specs.KeepAlives.{day_ms}
use Rattle.script_lang.specs.Kinds.{kind_named}
use Rattle.script_lang.specs.Names.{node_names, node_of}
use Rattle.script_lang.specs.Script.{max_commands, command_of, commands_of}
use Rattle.script_lang.specs.Targets.{starts_task, opens_context, can_be_awaited, allows, is_at, number_at, reference_in, target_of, target_in, context_of, context_in, one_task_of, one_task_in, awaited_in}
use Rattle.script_lang.proofs.FieldLemmas.{both_first, both_second, first_ok}
use Rattle.script_lang.proofs.Ranges.{in_range}

-- ---- nodes

found_within : (test : List ℕ → Bool) (place : ℕ) (names : List (List ℕ)) (at : ℕ) → position_from test place names ≡ Some at → at < place + length names
found_within test place [] at e = cc
found_within test place (name ∷ names) at e = here (test name) (found_within test (place + 1) names at) e
  where
    here : (b : Bool) → (position_from test (place + 1) names ≡ Some at → at < place + 1 + length names) → cond b (Some place) (position_from test (place + 1) names) ≡ Some at
        → at < place + suc (length names)
    here true later e' = let same : place ≡ at = cc in omega arith
    here false later e' = let within = later e' in omega arith

some_suc : (found : Option ℕ) (node : ℕ) → option_map suc found ≡ Some node → (at : ℕ) × (found ≡ Some at) × (node ≡ suc at)
some_suc None node e = cc
some_suc (Some at) node e = let same : suc at ≡ node = cc in (at, refl, sym same)

some_of_ok : {A : Type 0} (found : Option A) (cause : Cause) (x : A) → ok_or found cause ≡ Ok x → found ≡ Some x
some_of_ok None cause x e = cc
some_of_ok (Some y) cause x e = let same : y ≡ x = cc in ap Some same

node_of_fits : (nodes : ℕ) (text : List ℕ) (node : ℕ) → node_of nodes text ≡ Some node → IsNodeOf nodes node
unfolding node_of
node_of_fits nodes text node e =
    let found = some_suc _ node e in
    let within = found_within (bytes_eq text) 0 (take nodes node_names) found.0 found.1 in
    (omega (arith, found.2), omega (arith, within, found.2, length-take nodes node_names))

node_in_fits : (nodes : ℕ) (field : Option Data) (node : ℕ) → node_in nodes field ≡ Ok node → IsNodeOf nodes node
unfolding node_in
node_in_fits nodes field node e =
    let name = first_ok (text_of field) _ node e in
    node_of_fits nodes name.0 node (some_of_ok (node_of nodes name.0) UnknownNode node name.2)

node_or_first_fits : (nodes : ℕ) (field : Option Data) (node : ℕ) → 1 ≤ nodes → node_or_first nodes field ≡ Ok node → IsNodeOf nodes node
node_or_first_fits nodes None node some e = let same : 1 ≡ node = cc in (omega arith, omega arith)
node_or_first_fits nodes (Some value) node some e = node_in_fits nodes (Some value) node e

-- ---- what is named

passes_at : (test : Command → Bool) (before : List Command) (number n : ℕ) → number_at test before number ≡ Some n → is_at test before n ≡ true
passes_at test before number n e = is (is_at test before number) refl e
  where
    is : (b : Bool) → is_at test before number ≡ b → cond b (Some number) None ≡ Some n → is_at test before n ≡ true
    is true s e' = let same : number ≡ n = cc in subst (λ k. is_at test before k ≡ true) same s
    is false s e' = cc

and_some : (found : Option ℕ) (f : ℕ → Option ℕ) (n : ℕ) → option_and_then f found ≡ Some n → (k : ℕ) × (f k ≡ Some n)
and_some None f n e = cc
and_some (Some k) f n e = (k, e)

reference_fits : (test : Command → Bool) (before : List Command) (value : Data) (n : ℕ) → reference_in test before value ≡ Ok n → is_at test before n ≡ true
unfolding reference_in
reference_fits test before value n e =
    let read = first_ok (ok_or (as_number value) BadField) _ n e in
    let at = and_some (as_u64 read.0) (number_at test before) n (some_of_ok _ BadReference n read.2) in
    passes_at test before at.0 n at.1

is_alone : {A : Type 0} (beside : Bool) (found : Result A Cause) (x : A) → cond beside (Err BadField) found ≡ Ok x → found ≡ Ok x
is_alone true found x e = cc
is_alone false found x e = e

target_of_fits : (before : List Command) (fields : Members) (task command : Option Data) (target : CancelTarget) → target_of before fields task command ≡ Ok target → NamesStart before target
target_of_fits before fields None None target e =
    let filter = first_ok (filter_in fields) _ target e in
    let same : targets.Matching filter.0 ≡ target = cc (filter.2) in
    subst (NamesStart before) same tt
target_of_fits before fields (Some task) None target e =
    let id = first_ok (task_in (Some task)) _ target (is_alone (has_filter fields) _ target e) in
    let same : targets.Task id.0 ≡ target = cc (id.2) in
    subst (NamesStart before) same tt
target_of_fits before fields None (Some command) target e =
    let number = first_ok (reference_in starts_task before command) _ target (is_alone (has_filter fields) _ target e) in
    let same : targets.Command number.0 ≡ target = cc (number.2) in
    subst (NamesStart before) same (reference_fits starts_task before command number.0 number.1)
target_of_fits before fields (Some task) (Some command) target e = cc

target_fits : (before : List Command) (fields : Members) (target : CancelTarget) → target_in before fields ≡ Ok target → NamesStart before target
unfolding target_in
target_fits before fields target e = target_of_fits before fields _ _ target e

context_of_fits : (before : List Command) (id command : Option Data) (context : ContextTarget) → context_of before id command ≡ Ok context → NamesContext before context
context_of_fits before None None context e = cc
context_of_fits before (Some id) None context e =
    let read = first_ok (task_in (Some id)) _ context e in
    let same : contexts.Id read.0 ≡ context = cc (read.2) in
    subst (NamesContext before) same tt
context_of_fits before None (Some command) context e =
    let number = first_ok (reference_in opens_context before command) _ context e in
    let same : contexts.Command number.0 ≡ context = cc (number.2) in
    subst (NamesContext before) same (reference_fits opens_context before command number.0 number.1)
context_of_fits before (Some id) (Some command) context e = cc

context_fits : (before : List Command) (fields : Members) (context : ContextTarget) → context_in before fields ≡ Ok context → NamesContext before context
unfolding context_in
context_fits before fields context e = context_of_fits before _ _ context e

one_task_of_fits : (before : List Command) (id command : Option Data) (task : TaskTarget) → one_task_of before id command ≡ Ok task → NamesTask before task
one_task_of_fits before None None task e = cc
one_task_of_fits before (Some id) None task e =
    let read = first_ok (task_in (Some id)) _ task e in
    let same : tasks.Id read.0 ≡ task = cc (read.2) in
    subst (NamesTask before) same tt
one_task_of_fits before None (Some command) task e =
    let number = first_ok (reference_in starts_task before command) _ task e in
    let same : tasks.Command number.0 ≡ task = cc (number.2) in
    subst (NamesTask before) same (reference_fits starts_task before command number.0 number.1)
one_task_of_fits before (Some id) (Some command) task e = cc

one_task_fits : (before : List Command) (fields : Members) (task : TaskTarget) → one_task_in before fields ≡ Ok task → NamesTask before task
unfolding one_task_in
one_task_fits before fields task e = one_task_of_fits before _ _ task e

awaited_fits : (before : List Command) (field : Option Data) (number : ℕ) → awaited_in before field ≡ Ok number → is_at can_be_awaited before number ≡ true
unfolding awaited_in
awaited_fits before None number e = cc
awaited_fits before (Some value) number e =
    let named = first_ok (reference_in (allows uses.Anything) before value) _ number e in
    kept named.0 (is_at can_be_awaited before named.0) refl named.2
  where
    kept : (n : ℕ) (b : Bool) → is_at can_be_awaited before n ≡ b → cond b (Ok n) (Err NotWaitable) ≡ Ok number → is_at can_be_awaited before number ≡ true
    kept n true is e' = let same : n ≡ number = cc in subst (λ k. is_at can_be_awaited before k ≡ true) same is
    kept n false is e' = cc

-- ---- times

time_fits : (value : Data) (ms : ℕ) → time_in value ≡ Ok ms → ms ≤ day_ms
time_fits value ms e =
    let read = first_ok (number_in value) _ ms e in
    within read.0 (nat_le read.0 day_ms) refl read.2
  where
    within : (n : ℕ) (b : Bool) → nat_le n day_ms ≡ b → cond b (Ok n) (Err BadField) ≡ Ok ms → ms ≤ day_ms
    within n true is e' = let same : n ≡ ms = cc in grind (arith, is)
    within n false is e' = cc

-- ---- moves

moves_fit : (field : Option Data) (moves : ℕ) → moves_in field ≡ Ok moves → moves ≤ max_moves
moves_fit field moves e =
    let read = first_ok (needed_number field) _ moves e in
    within read.0 (nat_le read.0 max_moves) refl read.2
  where
    within : (n : ℕ) (b : Bool) → nat_le n max_moves ≡ b → cond b (Ok n) (Err BadField) ≡ Ok moves → moves ≤ max_moves
    within n true is e' = let same : n ≡ moves = cc in grind (arith, is)
    within n false is e' = cc

-- ---- slices and rates

slices_fit : (field : Option Data) (slices : ℕ) → slices_or_one field ≡ Ok slices → IsSliceCount slices
slices_fit None slices e = let same : 1 ≡ slices = cc in (omega arith, omega arith)
slices_fit (Some value) slices e =
    let read = first_ok (number_in value) _ slices e in
    kept read.0 (from_1_to max_slices read.0) refl read.2
  where
    kept : (n : ℕ) (b : Bool) → from_1_to max_slices n ≡ b → cond b (Ok n) (Err BadField) ≡ Ok slices → IsSliceCount slices
    kept n true is e' = let same : n ≡ slices = cc in subst IsSliceCount same (in_range max_slices n is)
    kept n false is e' = cc

none_fits : IsRate None
none_fits = λ r some. cc

rate_of_fits : (z : ℤ) (rate : Option ℕ) → rate_of z ≡ Ok rate → IsRate rate
rate_of_fits (pos n) rate e = kept (from_1_to max_rate n) refl e
  where
    kept : (b : Bool) → from_1_to max_rate n ≡ b → cond b (Ok (Some n)) (Err BadField) ≡ Ok rate → IsRate rate
    kept true is e' = let same : Some n ≡ rate = cc in subst IsRate same (λ r some. let here : n ≡ r = cc in subst (λ k. (1 ≤ k) × (k ≤ max_rate)) here (in_range max_rate n is))
    kept false is e' = cc
rate_of_fits (negsuc zero) rate e = let same : None ≡ rate = cc in subst IsRate same none_fits
rate_of_fits (negsuc (suc n)) rate e = cc

rate_fits : (field : Option Data) (rate : Option ℕ) → rate_or_none field ≡ Ok rate → IsRate rate
rate_fits None rate e = let same : None ≡ rate = cc in subst IsRate same none_fits
rate_fits (Some value) rate e =
    let read = first_ok (ok_or (option_and_then as_i64 (as_number value)) BadField) rate_of rate e in
    rate_of_fits read.0 rate read.2

-- ---- commands

module _ (nodes : ℕ) (some : 1 ≤ nodes) (before : List Command) where
  with_node : (index : List ℕ) (node : ℕ) (scroll : Option ℕ) (body : Data) (opaque_id : Option (List ℕ)) (command : Command) → Search index node scroll body opaque_id ≡ command → IsNodeOf nodes node → Fits nodes before command
  with_node index node scroll body opaque_id command same fits = subst (Fits nodes before) same fits

  search_fits : (value : Data) (command : Command) → search_in nodes value ≡ Ok command → Fits nodes before command
  unfolding search_in
  search_fits value command e =
      let parts = first_ok (fields_of search_fields value) _ command e in
      let found = first_ok (both (text_of (get_member (codes "index") parts.0)) (both (node_or_first nodes (get_member (codes "node") parts.0)) (both (optional_keep_alive (get_member (codes "scroll") parts.0)) (both (body_in (get_member (codes "body") parts.0)) (optional_text (get_member (codes "opaque_id") parts.0)))))) _ command parts.2 in
      let same : Search found.0.0 found.0.1.0 found.0.1.1.0 found.0.1.1.1.0 found.0.1.1.1.1 ≡ command = cc (found.2) in
      let node = both_first _ _ found.0.1 (both_second _ _ found.0 found.1) in
      with_node found.0.0 found.0.1.0 found.0.1.1.0 found.0.1.1.1.0 found.0.1.1.1.1 command same (node_or_first_fits nodes (get_member (codes "node") parts.0) found.0.1.0 some node)

  scroll_fits : (value : Data) (command : Command) → scroll_in before value ≡ Ok command → Fits nodes before command
  unfolding scroll_in
  scroll_fits value command e =
      let parts = first_ok (fields_of scroll_fields value) _ command e in
      let found = first_ok (both (context_in before parts.0) (both (optional_keep_alive (get_member (codes "scroll") parts.0)) (optional_text (get_member (codes "opaque_id") parts.0)))) _ command parts.2 in
      let same : Scroll found.0.0 found.0.1.0 found.0.1.1 ≡ command = cc (found.2) in
      let context = both_first _ _ found.0 found.1 in
      subst (Fits nodes before) same (context_fits before parts.0 found.0.0 context)

  clear_fits : (value : Data) (command : Command) → clear_in before value ≡ Ok command → Fits nodes before command
  unfolding clear_in
  clear_fits value command e =
      let parts = first_ok (fields_of clear_fields value) _ command e in
      let found = first_ok (context_in before parts.0) _ command parts.2 in
      let same : ClearScroll found.0 ≡ command = cc (found.2) in
      subst (Fits nodes before) same (context_fits before parts.0 found.0 found.1)

  with_numbers : (node : ℕ) (body : Data) (slices : ℕ) (rate : Option ℕ) (opaque_id : Option (List ℕ)) (store : Bool) (command : Command) → Reindex node body slices rate opaque_id store ≡ command → IsNodeOf nodes node → IsSliceCount slices → IsRate rate → Fits nodes before command
  with_numbers node body slices rate opaque_id store command same its_node its_slices its_rate = subst (Fits nodes before) same (its_node, its_slices, its_rate)

  reindex_fits : (value : Data) (command : Command) → reindex_in nodes value ≡ Ok command → Fits nodes before command
  unfolding reindex_in
  reindex_fits value command e =
      let parts = first_ok (fields_of reindex_fields value) _ command e in
      let found = first_ok (both (node_or_first nodes (get_member (codes "node") parts.0)) (both (object_in (get_member (codes "body") parts.0)) (both (slices_or_one (get_member (codes "slices") parts.0)) (both (rate_or_none (get_member (codes "requests_per_second") parts.0)) (both (optional_text (get_member (codes "opaque_id") parts.0)) (flag_or_false (get_member (codes "store") parts.0))))))) _ command parts.2 in
      let same : Reindex found.0.0 found.0.1.0 found.0.1.1.0 found.0.1.1.1.0 found.0.1.1.1.1.0 found.0.1.1.1.1.1 ≡ command = cc (found.2) in
      let node = both_first _ _ found.0 found.1 in
      let rest = both_second _ _ found.0.1 (both_second _ _ found.0 found.1) in
      let slices = both_first _ _ found.0.1.1 rest in
      let rate = both_first _ _ found.0.1.1.1 (both_second _ _ found.0.1.1 rest) in
      with_numbers found.0.0 found.0.1.0 found.0.1.1.0 found.0.1.1.1.0 found.0.1.1.1.1.0 found.0.1.1.1.1.1 command same (node_or_first_fits nodes (get_member (codes "node") parts.0) found.0.0 some node)
      (slices_fit (get_member (codes "slices") parts.0) found.0.1.1.0 slices) (rate_fits (get_member (codes "requests_per_second") parts.0) found.0.1.1.1.0 rate)

  cancel_fits : (value : Data) (command : Command) → cancel_in before value ≡ Ok command → Fits nodes before command
  unfolding cancel_in
  cancel_fits value command e =
      let parts = first_ok (fields_of cancel_fields value) _ command e in
      let found = first_ok (both (target_in before parts.0) (both (text_or (codes "by user request") (get_member (codes "reason") parts.0)) (flag_or_false (get_member (codes "wait_for_completion") parts.0)))) _ command parts.2 in
      let same : Cancel found.0.0 found.0.1.0 found.0.1.1 ≡ command = cc (found.2) in
      let target = both_first _ _ found.0 found.1 in
      subst (Fits nodes before) same (target_fits before parts.0 found.0.0 target)

  list_fits : (value : Data) (command : Command) → list_in value ≡ Ok command → Fits nodes before command
  unfolding list_in
  list_fits value command e =
      let parts = first_ok (fields_of list_fields value) _ command e in
      let found = first_ok (both (filter_in parts.0) (both (group_or_nodes (get_member (codes "group_by") parts.0)) (flag_or_false (get_member (codes "detailed") parts.0)))) _ command parts.2 in
      let same : ListTasks found.0.0 found.0.1.0 found.0.1.1 ≡ command = cc (found.2) in
      subst (Fits nodes before) same tt

  get_fits : (value : Data) (command : Command) → get_in before value ≡ Ok command → Fits nodes before command
  unfolding get_in
  get_fits value command e =
      let parts = first_ok (fields_of get_fields value) _ command e in
      let found = first_ok (both (one_task_in before parts.0) (flag_or_false (get_member (codes "wait_for_completion") parts.0))) _ command parts.2 in
      let same : GetTask found.0.0 found.0.1 ≡ command = cc (found.2) in
      let task = both_first _ _ found.0 found.1 in
      subst (Fits nodes before) same (one_task_fits before parts.0 found.0.0 task)

  forget_fits : (value : Data) (command : Command) → forget_in before value ≡ Ok command → Fits nodes before command
  unfolding forget_in
  forget_fits value command e =
      let parts = first_ok (fields_of forget_fields value) _ command e in
      let found = first_ok (one_task_in before parts.0) _ command parts.2 in
      let same : ForgetTask found.0 ≡ command = cc (found.2) in
      subst (Fits nodes before) same (one_task_fits before parts.0 found.0 found.1)

  results_fits : (value : Data) (command : Command) → results_in value ≡ Ok command → Fits nodes before command
  unfolding results_in
  results_fits value command e =
      let parts = first_ok (fields_of no_fields value) _ command e in
      let same : ListResults ≡ command = cc (parts.2) in
      subst (Fits nodes before) same tt

  list_step_fits : (value : Data) (command : Command) → list_step_in nodes value ≡ Ok command → Fits nodes before command
  unfolding list_step_in
  list_step_fits value command e =
      let parts = first_ok (fields_of list_step_fields value) _ command e in
      let found = first_ok (both (node_in nodes (get_member (codes "node") parts.0)) (task_in (get_member (codes "parent") parts.0))) _ command parts.2 in
      let same : ListStep found.0.0 found.0.1 ≡ command = cc (found.2) in
      let node = both_first _ _ found.0 found.1 in
      subst (Fits nodes before) same (node_in_fits nodes (get_member (codes "node") parts.0) found.0.0 node)

  shuffle_fits : (value : Data) (command : Command) → shuffle_in value ≡ Ok command → Fits nodes before command
  unfolding shuffle_in
  shuffle_fits value command e =
      let parts = first_ok (fields_of shuffle_fields value) _ command e in
      let found = first_ok (both (needed_number (get_member (codes "seed") parts.0)) (moves_in (get_member (codes "moves") parts.0))) _ command parts.2 in
      let same : Shuffle found.0.0 found.0.1 ≡ command = cc (found.2) in
      let moves = both_second _ _ found.0 found.1 in
      subst (Fits nodes before) same (moves_fit (get_member (codes "moves") parts.0) found.0.1 moves)

  wait_fits : (value : Data) (command : Command) → wait_in before value ≡ Ok command → Fits nodes before command
  unfolding wait_in
  wait_fits value command e =
      let parts = first_ok (fields_of wait_fields value) _ command e in
      let found = first_ok (awaited_in before (get_member (codes "command") parts.0)) _ command parts.2 in
      let same : WaitFor found.0 ≡ command = cc (found.2) in
      subst (Fits nodes before) same (awaited_fits before (get_member (codes "command") parts.0) found.0 found.1)

  of_kind_fits : (kind : Kind) (value : Data) (command : Command) → command_of_kind nodes before kind value ≡ Ok command → Fits nodes before command
  of_kind_fits kinds.Search value command e = search_fits value command e
  of_kind_fits kinds.Scroll value command e = scroll_fits value command e
  of_kind_fits kinds.ClearScroll value command e = clear_fits value command e
  of_kind_fits kinds.Tick value command e =
      let found = first_ok (time_in value) _ command e in
      let same : Tick found.0 ≡ command = cc (found.2) in subst (Fits nodes before) same (time_fits value found.0 found.1)
  of_kind_fits kinds.Reindex value command e = reindex_fits value command e
  of_kind_fits kinds.Cancel value command e = cancel_fits value command e
  of_kind_fits kinds.ListTasks value command e = list_fits value command e
  of_kind_fits kinds.GetTask value command e = get_fits value command e
  of_kind_fits kinds.ForgetTask value command e = forget_fits value command e
  of_kind_fits kinds.ListResults value command e = results_fits value command e
  of_kind_fits kinds.ListStep value command e = list_step_fits value command e
  of_kind_fits kinds.Deliver value command e =
      let found = first_ok (number_in value) _ command e in
      let same : Deliver found.0 ≡ command = cc (found.2) in subst (Fits nodes before) same tt
  of_kind_fits kinds.Step value command e =
      let found = first_ok (task_in (Some value)) _ command e in
      let same : Step found.0 ≡ command = cc (found.2) in subst (Fits nodes before) same tt
  of_kind_fits kinds.Settle value command e =
      let found = first_ok (truth_in value) _ command e in
      let same : Settle ≡ command = cc (found.2) in subst (Fits nodes before) same tt
  of_kind_fits kinds.Shuffle value command e = shuffle_fits value command e
  of_kind_fits kinds.WaitFor value command e = wait_fits value command e
  of_kind_fits kinds.History value command e =
      let found = first_ok (truth_in value) _ command e in
      let same : History ≡ command = cc (found.2) in subst (Fits nodes before) same tt
  of_kind_fits kinds.Summary value command e =
      let found = first_ok (truth_in value) _ command e in
      let same : Summary ≡ command = cc (found.2) in subst (Fits nodes before) same tt

  command_fits : (mode : Mode) (value : Data) (command : Command) → command_in mode nodes before value ≡ Ok command → Fits nodes before command
  unfolding command_in
  command_fits mode value command e =
      let entry = first_ok (ok_or (only_member value) NotObject) _ command e in
      let kind = first_ok (kind_named entry.0.0) _ command entry.2 in
      allowed (is_run mode && is_for_sim kind.0 entry.0.1) kind.0 entry.0.1 kind.2
    where
      allowed : (schedules : Bool) (kind : Kind) (inner : Data) → cond schedules (Err ScheduleLineInRun) (command_of_kind nodes before kind inner) ≡ Ok command → Fits nodes before command
      allowed true kind inner e' = cc
      allowed false kind inner e' = of_kind_fits kind inner command e'

  line_fits : (mode : Mode) (line : List ℕ) (command : Command) → command_of mode nodes before line ≡ Ok command → Fits nodes before command × (length before < max_commands)
  unfolding command_of
  line_fits mode line command e = room (nat_le max_commands (length before)) refl e
    where
      room : (full : Bool) → nat_le max_commands (length before) ≡ full → cond full (Err TooManyLines) (and_then (whole_json_of line) (command_in mode nodes before)) ≡ Ok command → Fits nodes before command × (length before < max_commands)
      room true is e' = cc
      room false is e' =
          let value = first_ok (whole_json_of line) _ command e' in
          (command_fits mode value.0 command value.2, grind (arith, is))

-- ---- scripts

-- what is read of lines after some commands are these and others that fit
abbrev Continues : ℕ → List Command → List Command → Type 0
Continues nodes before commands = (rest : List Command) × (commands ≡ before ++ rest) × AllFit nodes before rest × (length commands ≤ max_commands)

lines_fit : (mode : Mode) (nodes number : ℕ) (before : List Command) (lines : List (List ℕ)) (commands : List Command) → 1 ≤ nodes → length before ≤ max_commands → commands_of mode nodes number before lines ≡ Ok commands
    → Continues nodes before commands
unfolding commands_of
lines_fit mode nodes number before [] commands some few e =
    let same : before ≡ commands = cc in
    ([], sym same ∙ sym (append-nil before), tt, subst (λ cs. length cs ≤ max_commands) same few)
lines_fit mode nodes number before (line ∷ lines) commands some few e =
    from_line (eqb (length line) 0) (lines_fit mode nodes (number + 1) before lines commands some few)
    (λ command. lines_fit mode nodes (number + 1) (before ++ command ∷ []) lines commands some) e
  where
    from_line : (empty : Bool) → (commands_of mode nodes (number + 1) before lines ≡ Ok commands → Continues nodes before commands)
        → ((command : Command) → length (before ++ command ∷ []) ≤ max_commands → commands_of mode nodes (number + 1) (before ++ command ∷ []) lines ≡ Ok commands → Continues nodes (before ++ command ∷ []) commands)
        → cond empty (commands_of mode nodes (number + 1) before lines) (and_then (on_line number (command_of mode nodes before line)) (λ command. commands_of mode nodes (number + 1) (before ++ command ∷ []) lines)) ≡ Ok commands
        → Continues nodes before commands
    from_line true passed_over more e' = passed_over e'
    from_line false passed_over more e' =
        let command = first_ok (on_line number (command_of mode nodes before line)) _ commands e' in
        let fits = line_fits nodes some before mode line command.0 (found_on_line number (command_of mode nodes before line) command.0 command.1) in
        let one_more : length (before ++ command.0 ∷ []) ≤ max_commands = omega (arith, fits.1, length-append before (command.0 ∷ [])) in
        let rest = more command.0 one_more command.2 in
        (command.0 ∷ rest.0, rest.1 ∙ append_assoc before (command.0 ∷ []) rest.0, (fits.0, rest.2), rest.3)

-- a script's commands fit, each those before it, and are not too many
pub script_fits : (mode : Mode) (nodes number : ℕ) (lines : List (List ℕ)) (commands : List Command) → 1 ≤ nodes → commands_of mode nodes number [] lines ≡ Ok commands → AllFit nodes [] commands × (length commands ≤ max_commands)
script_fits mode nodes number lines commands some e =
    let found = lines_fit mode nodes number [] lines commands some (omega arith) e in
    (subst (AllFit nodes []) (sym found.1) found.2, found.3)
