-- Why commands come to an early end, and what they can do.
use Rattle.std.proofs.Common.{◌≡◌, ◌⊎◌, ◌≤◌, ◌<◌, ◌+◌, ◌*◌, ◌^◌, ◌-◌, ℕ, zero, suc, Bool, true, false, List, [], ◌∷◌, ◌++◌, length, get_or, Option, Some, None, refl, sym, ap, subst, inl, inr, ◌∙◌, arith}
use Rattle.std.specs.Option.{option_map_or}
use Rattle.std.specs.Prelude.{slice_get, is_some, is_ok, option_map, option_and_then, ◌&&◌, Result, Ok, Err}
use Rattle.std.specs.Result.{result_ok}
use Rattle.serde_json.specs.Data.{Data}
use Rattle.query_match.specs.declared.body.SearchBody.{SearchBody}
use Rattle.query_parse.specs.declared.reindex_body.ReindexBody.{ReindexBody}
use Rattle.query_parse.specs.Bodies.{body_at}
use Rattle.query_parse.specs.Reindexes.{reindex_at}
use Rattle.search_phase.proofs.Requests.{slice_get_none}
use Rattle.task_events.specs.declared.context.Context.{Context}
use Rattle.scroll_table.specs.declared.context.PageError.{PageError}
use Rattle.task_ids.specs.declared.cluster.Cluster.{Cluster}
use Rattle.task_ids.specs.declared.corpus.Corpus.{Corpus}
use Rattle.std.proofs.lemmas.List.{length-append}
use Rattle.task_ids.specs.declared.task_id.TaskId.{TaskId}
use Rattle.task_events.specs.declared.event.Event.{Event}
use Rattle.task_events.specs.declared.event.Event.TheVariants.{Begin}
use Rattle.task_events.specs.declared.request.Request.TheVariants as asks
use Rattle.script_lang.specs.declared.command.ContextTarget.{ContextTarget}
use Rattle.script_lang.specs.declared.command.Command.{Command}
use Rattle.script_lang.specs.declared.command.Command.TheVariants.{Search, Scroll, ClearScroll, Reindex, Cancel, ListTasks, GetTask, ForgetTask, ListResults, Tick, Deliver, Step, ListStep, Settle, Shuffle, WaitFor, History, Summary}
use Rattle.script_lang.specs.declared.command.Script.{Script}
use Rattle.script_lang.specs.KeepAlives.{day_ms}
use Rattle.world_moves.specs.Moves.{Delivers, IsPartly, Starts}
use Rattle.world_moves.specs.declared.state.State.{State}
use Rattle.world_moves.specs.Describing.{longest_tick}
use Rattle.corpus_shards.specs.Stored.{was_there}
use Rattle.command_roots.specs.Known.{is_known}
use Rattle.command_roots.specs.Roots.{body_or_none, command_at, context_named, least_size, request_in, root_request}
use Rattle.world_moves.specs.Ties.{IsTied, Keeps}
use Rattle.world_steps.specs.Runs.{AnswersStep, FirstMoves, Steps}
use Rattle.world_steps.specs.declared.acting.Stepped.{Stepped}
use Rattle.world_steps.specs.declared.acting.Stepped.TheVariants.{Done}
use Rattle.node_parts.specs.declared.listing.Listing.{Listing}
use Rattle.world_moves.specs.Listings.{ListSteps}
use Rattle.world_steps.specs.Shuffling.{PartlyShuffles}
use Rattle.world_steps.specs.Scripts.{CanDo, CanRun, can_copy, can_start, closing, error_in, DeliversWhere, ListsWhere, StartsWhere, PartlyDoes, PartlyCommands, PartlyDrains}

-- a part of a delivery is one of a delivery where there is a message
pub partly_where : (cluster : Cluster) (nth : ℕ) (h new : List Event) → IsPartly (λ g made. Delivers cluster g nth made) h new → IsPartly (DeliversWhere cluster nth) h new
partly_where cluster nth h new (inl same) = inl same
partly_where cluster nth h new (inr made) = inr (made.0, inl made.1, made.2)

-- a part of a listing's step is one of a step where it is open, and likewise for a task
pub partly_lists : (l : Listing) (h new : List Event) → IsPartly (ListSteps l) h new → IsPartly (ListsWhere l) h new
partly_lists l h new (inl same) = inl same
partly_lists l h new (inr made) = inr (made.0, inl made.1, made.2)

pub partly_steps : (cluster : Cluster) (corpus : Corpus) (script : Script) (t : TaskId) (h new : List Event)
    → IsPartly (Steps cluster corpus script t) h new → IsPartly (λ x y. (stepped : Stepped) × AnswersStep cluster corpus script t x stepped y) h new
partly_steps cluster corpus script t h new (inl same) = inl same
partly_steps cluster corpus script t h new (inr made) = inr (made.0, (Done, made.1), made.2)

-- a part of the delivery of the oldest message is one of a first move
pub partly_first : (cluster : Cluster) (corpus : Corpus) (script : Script) (h new : List Event) → IsPartly (λ g made. Delivers cluster g 0 made) h new → IsPartly (FirstMoves cluster corpus script) h new
partly_first cluster corpus script h new (inl same) = inl same
partly_first cluster corpus script h new (inr made) = inr (made.0, inl made.1, made.2)

-- each command of a script that can run can be done
pub can_do : (nodes : ℕ) (commands : List Command) → CanRun nodes commands → (place : ℕ) (command : Command) → slice_get commands place ≡ Some command → CanDo nodes command
can_do nodes [] all place command at = absurd (cc)
can_do nodes (first ∷ more) all zero command at = let same : first ≡ command = cc in subst (CanDo nodes) same all.0
can_do nodes (first ∷ more) all (suc place) command at = can_do nodes more all.1 place command at

-- a shuffle that has made no move yet has made a part
none_shuffled : (cluster : Cluster) (corpus : Corpus) (script : Script) (seed moves : ℕ) (h new : List Event) → new ≡ h → PartlyShuffles cluster corpus script seed moves h new
none_shuffled cluster corpus script seed zero h new same = same
none_shuffled cluster corpus script seed (suc more) h new same = inl (inl same)

-- a command that has done nothing yet has done a part
pub nothing_done : (cluster : Cluster) (corpus : Corpus) (script : Script) (k : ℕ) (command : Command) (h new : List Event) → new ≡ h → PartlyDoes cluster corpus script k command h new
nothing_done cluster corpus script k (Search index node scroll body opaque_id) h new same = inl same
nothing_done cluster corpus script k (Scroll target keep opaque_id) h new same = inl same
nothing_done cluster corpus script k (ClearScroll target) h new same = inl same
nothing_done cluster corpus script k (Reindex node body slices rate opaque_id store) h new same = inl same
nothing_done cluster corpus script k (Tick ms) h new same = inl same
nothing_done cluster corpus script k (Cancel target reason wait) h new same = inl same
nothing_done cluster corpus script k (ListTasks wanted group detailed) h new same = inl same
nothing_done cluster corpus script k (GetTask task wait) h new same = inl same
nothing_done cluster corpus script k (ForgetTask task) h new same = inl same
nothing_done cluster corpus script k ListResults h new same = inl same
nothing_done cluster corpus script k (Deliver nth) h new same = inl same
nothing_done cluster corpus script k (Step task) h new same = inl same
nothing_done cluster corpus script k (ListStep node parent) h new same = inl same
nothing_done cluster corpus script k Settle h new same = ([], h, refl, inl same)
nothing_done cluster corpus script k (Shuffle seed moves) h new same = none_shuffled cluster corpus script seed moves h new same
nothing_done cluster corpus script k (WaitFor command) h new same = ([], h, refl, inl same)
nothing_done cluster corpus script k History h new same = inl same
nothing_done cluster corpus script k Summary h new same = inl same

-- the command of a number
pub at_number : (script : Script) (k : ℕ) (command : Command) → 1 ≤ k → slice_get script.commands (k - 1) ≡ Some command → command_at script k ≡ Some command
at_number script zero command low at = absurd (omega arith)
at_number script (suc n) command low at = let same : suc n - 1 ≡ n = omega arith in rw same at at

-- a number that is not above the number of commands has one
pub command_there : (script : Script) (k : ℕ) → 1 ≤ k → k ≤ length script.commands → (command : Command) × (command_at script k ≡ Some command)
command_there script zero low high = absurd (omega arith)
command_there script (suc n) low high = by_place (slice_get script.commands n) refl
  where
    by_place : (o : Option Command) → slice_get script.commands n ≡ o → (command : Command) × (slice_get script.commands n ≡ Some command)
    by_place (Some command) at = (command, at)
    by_place None at = absurd (let past = slice_get_none script.commands n at in omega arith)

-- what a command has done so far
pub partly_begun : (cluster : Cluster) (corpus : Corpus) (script : Script) (k : ℕ) → 1 ≤ k → k ≤ length script.commands
    → (h new : List Event) → (new ≡ h) ⊎ (new ≡ Begin k ∷ h) → PartlyCommands cluster corpus script k h new
partly_begun cluster corpus script k low high h new (inl same) = inl same
partly_begun cluster corpus script k low high h new (inr begun) =
    let there = command_there script k low high in
    inr (there.0, there.1, nothing_done cluster corpus script k there.0 (Begin k ∷ h) new begun)

-- a first part of one event is nothing or that event
pub nothing_or : (e : Event) (h new later earlier : List Event) → e ∷ h ≡ later ++ new → new ≡ earlier ++ h → (new ≡ h) ⊎ (new ≡ e ∷ h)
nothing_or e h new [] earlier whole part = inr (sym whole)
nothing_or e h new (x ∷ later) [] whole part = inl part
nothing_or e h new (x ∷ later) (y ∷ earlier) whole part = absurd (let longer = ap length (whole ∙ ap (λ n. x ∷ later ++ n) part) in omega (arith, longer, length-append later (y ∷ earlier ++ h), length-append earlier h))

pub part_of_begin : (k : ℕ) (h new : List Event) → IsPartly (λ x y. y ≡ Begin k ∷ x) h new → (new ≡ h) ⊎ (new ≡ Begin k ∷ h)
part_of_begin k h new (inl same) = inl same
part_of_begin k h new (inr (whole, begun, (later, earlier, is_whole, is_new))) = nothing_or (Begin k) h new later earlier (sym begun ∙ is_whole) is_new

pub part_of_drain : (cluster : Cluster) (corpus : Corpus) (script : Script) (h new : List Event) → IsPartly (λ x y. y ≡ Begin (closing script) ∷ x) h new → PartlyDrains cluster corpus script h new
part_of_drain cluster corpus script h new part = begun (part_of_begin (closing script) h new part)
  where
    begun : (new ≡ h) ⊎ (new ≡ Begin (closing script) ∷ h) → PartlyDrains cluster corpus script h new
    begun (inl same) = inl same
    begun (inr same) = inr ([], Begin (closing script) ∷ h, refl, ([], Begin (closing script) ∷ h, refl, inl same))

-- ---- a root that comes where it can

module _ (cluster : Cluster) (can : Bool) (k node : ℕ) where
  pub stays_where : can ≡ false → (h : List Event) → StartsWhere cluster can k node h h
  stays_where cannot h = rw cannot refl

  pub comes_where : can ≡ true → (h new : List Event) → (started : Bool) → Starts cluster h k node started new → StartsWhere cluster can k node h new
  comes_where can h new started s = rw can (started, s)

  pub partly_comes_where : can ≡ true → (h new : List Event) → IsPartly (λ x y. (started : Bool) × Starts cluster x k node started y) h new → IsPartly (StartsWhere cluster can k node) h new
  partly_comes_where can h new (inl same) = inl same
  partly_comes_where can h new (inr (whole, (started, s), part)) = inr (whole, comes_where can h whole started s, part)

-- ---- a search

false_and : (a b : Bool) → b ≡ false → (a && b) ≡ false
false_and true b e = e
false_and false b e = refl

both_hold : {found : SearchBody} {o : Option SearchBody} {b : Bool} → o ≡ Some found → b ≡ true → (is_some o && b) ≡ true
both_hold good known = rw (good, known) refl

module _ (cluster : Cluster) (corpus : Corpus) (commands : List Command) (index : List ℕ) (scroll : Option ℕ) (body : Data) (k node : ℕ) where
  abbrev body_of : Option SearchBody
  body_of = body_or_none (body_at (is_some scroll) (least_size scroll) body)

  abbrev pub Where : List Event → List Event → Type 0
  Where h new = StartsWhere cluster (can_start corpus commands index scroll body) k node h new

  pub unknown_index : (h : List Event) → is_known corpus commands index ≡ false → Where h h
  unknown_index h unknown = stays_where cluster (can_start corpus commands index scroll body) k node (false_and (is_some body_of) (is_known corpus commands index) unknown) h

  pub can_come : (found : SearchBody) → body_of ≡ Some found → is_known corpus commands index ≡ true → can_start corpus commands index scroll body ≡ true
  can_come found good known = both_hold good known

  pub comes : (found : SearchBody) (h new : List Event) → body_of ≡ Some found → is_known corpus commands index ≡ true → (started : Bool) → Starts cluster h k node started new → Where h new
  comes found h new good known started s = comes_where cluster (can_start corpus commands index scroll body) k node (can_come found good known) h new started s

  pub partly_comes : (found : SearchBody) (h new : List Event) → body_of ≡ Some found → is_known corpus commands index ≡ true
      → IsPartly (λ x y. (started : Bool) × Starts cluster x k node started y) h new → IsPartly Where h new
  partly_comes found h new good known part = partly_comes_where cluster (can_start corpus commands index scroll body) k node (can_come found good known) h new part

-- the shards tell whether an index is known
pub index_known : (s : State) → IsTied s → (index name : List ℕ) (found : Bool) → name ≡ index → found ≡ was_there s.shards name → is_known s.corpus.now s.script.now.commands index ≡ found
index_known s tied index name found same is = sym (tied.shards.from_start index) ∙ sym (ap (was_there s.shards) same) ∙ sym is

-- ---- a reindex

-- one whose body has no fault can copy where its source is known
pub copy_known : (s : State) → IsTied s → (body : Data) (read : ReindexBody) (name : List ℕ) (found : Bool) → result_ok (reindex_at body) ≡ Some read → name ≡ read.source → found ≡ was_there s.shards name
    → can_copy s.corpus.now s.script.now.commands body ≡ found
copy_known s tied body read name found good same is =
    ap (λ (o : Option ReindexBody). option_map_or (λ r. is_known s.corpus.now s.script.now.commands r.source) o false) good ∙ index_known s tied read.source name found same is

-- ---- a page

-- there is a page or a reason why there is none
pub has_page : (r : Result Context PageError) → is_some (error_in r) ≡ false → is_ok r ≡ true
has_page (Ok c) e = refl
has_page (Err error) e = absurd (cc)

pub has_no_page : (r : Result Context PageError) → is_some (error_in r) ≡ true → is_ok r ≡ false
has_no_page (Ok c) e = absurd (cc)
has_no_page (Err error) e = refl

-- a scroll asks for a page of the context that it is about
pub asks_page : (script : Script) (k : ℕ) (h : List Event) (target : ContextTarget) (keep : Option ℕ) (opaque_id : Option (List ℕ)) → command_at script k ≡ Some (Scroll target keep opaque_id)
    → (id : TaskId) → context_named target h ≡ Some id → root_request script k h ≡ Some (asks.Scroll (record { id = id; keep = keep; owner = None }))
asks_page script k h target keep opaque_id there id named = ap (option_and_then (λ command. request_in command h)) there ∙ ap (option_map (λ u. asks.Scroll (record { id = u; keep = keep; owner = None }))) named

-- ---- the clock

-- one command more leaves room for a day more
pub day_more : (n k now : ℕ) → n + 1 ≡ k → now ≤ n * day_ms → now + day_ms ≤ k * day_ms
day_more n k now next low = omega (arith, next, low)

-- a day is not too long for a tick
pub day_ticks : (ms : ℕ) → ms ≤ day_ms → ms ≤ longest_tick
unfolding longest_tick
day_ticks ms low = omega (arith, low)

-- so far it has gone no further than a script has commands
pub clock_low : (n now : ℕ) → n ≤ 65536 → now ≤ n * day_ms → now < 2 ^ 43
clock_low n now few low = omega (arith, few, low)

-- ---- what stays as a command begins

pub from_get_or : (commands : List Command) (place : ℕ) (command : Command) → place < length commands → ((other : Command) → command ≡ get_or commands place other) → slice_get commands place ≡ Some command
from_get_or [] place command low e = absurd (omega arith)
from_get_or (first ∷ more) zero command low e = ap Some (sym (e first))
from_get_or (first ∷ more) (suc place) command low e = from_get_or more place command (omega arith) e

pub carried : (P : Cluster → Corpus → Script → List Event → Type 0) (c d : Cluster) (x y : Corpus) (s t : Script) (h g : List Event) → c ≡ d → x ≡ y → s ≡ t → h ≡ g → P c x s h → P d y t g
carried P c d x y s t h g cs xs ss hs p = subst (λ a. P a y t g) cs (subst (λ a. P c a t g) xs (subst (λ a. P c x a g) ss (subst (λ a. P c x s a) hs p)))

-- what two parts of a command keep, one after the other
pub keeps_on : {old now new : State} → Keeps old now → Keeps now new → Keeps old new
keeps_on first then = record {
  cluster = then.cluster ∙ first.cluster;
  corpus = then.corpus ∙ first.corpus;
  script = then.script ∙ first.script;
}
