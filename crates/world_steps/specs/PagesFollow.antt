-- The pages of one context, as cuts of one list.
use Rattle.std.specs.Prelude.{ℕ, zero, suc, List, [], ◌∷◌, ◌++◌, Bool, true, false, not, ◌&&◌, Option, Some, None, take, drop, map, filter_map, if◌then◌else◌}
use Rattle.std.specs.List.{list_all, flat_map}
use Rattle.std.specs.Option.{option_or}
use Rattle.task_ids.specs.declared.doc.Doc.{Doc}
use Rattle.task_ids.specs.declared.task_id.TaskId.{TaskId}
use Rattle.task_events.specs.declared.context.Context.{Context}
use Rattle.task_events.specs.declared.event.Event.{Event}
use Rattle.task_events.specs.declared.event.Event.TheVariants.{End}
use Rattle.task_events.specs.declared.reply.Hit.{Hit}
use Rattle.task_events.specs.declared.reply.Reply.{Reply}
use Rattle.task_events.specs.declared.reply.Reply.TheVariants.{Search}
use Rattle.task_events.specs.declared.reply.ShardCount.{ShardCount}
use Rattle.task_events.specs.declared.request.Request.{Request}
use Rattle.task_events.specs.declared.request.Request.TheVariants as asks
use Rattle.task_events.specs.Answers.{hit_of, found_keys, has_failed, read_at}
use Rattle.task_events.specs.Clock.{clock}
use Rattle.task_events.specs.Contexts.{after_end}
use Rattle.task_events.specs.Requests.{Scripted, request_of}
use Rattle.task_events.specs.Same.{same_task}

-- ---- the list

-- All rows that match in the shards of a context, at the versions that it keeps: one list in hit order.
abbrev pub listed : (ℕ → List Doc) → Context → List Hit
listed writes c =
    let versions = map read_at c.shards in
    filter_map (hit_of c.ask.index writes versions) (found_keys c.ask writes versions)

-- The first so many cuts of a list, one after the other: each is of this size, up to the end of the list.
abbrev pub cuts : {X : Type 0} → ℕ → ℕ → List X → List (List X)
cuts size zero xs = []
cuts size (suc n) xs = take size xs ∷ cuts size n (drop size xs)

-- a page is empty
abbrev pub shows_none : {X : Type 0} → List X → Bool
shows_none [] = true
shows_none (x ∷ xs) = false

-- pages as one list
abbrev pub joined : {X : Type 0} → List (List X) → List X
joined lists = flat_map (λ list. list) lists

-- ---- what was shown

-- the task is the search that opens the context of this id, or shows a page of it
abbrev pub is_of_context : TaskId → TaskId → Option Request → Bool
is_of_context id t (Some (asks.Search ask)) = same_task t id
is_of_context id t (Some (asks.Scroll ask)) = same_task ask.id id
is_of_context id t _ = false

-- the page that a reply shows; a cancelled one and one of which all shards failed show none
abbrev pub shown_by : Reply → List (List Hit)
shown_by (Search found) = found.hits ∷ []
shown_by _ = []

-- The pages of the context of an id, in order: the first is that of its search.
abbrev pub pages : Scripted → TaskId → List Event → List (List Hit)
pages script id [] = []
pages script id (End t reply ∷ h) = pages script id h ++ (if is_of_context id t (request_of script t h) then shown_by reply else [])
pages script id (_ ∷ h) = pages script id h

-- no shard that is kept has failed in a reply that shows a page
abbrev pub gave_all : List ShardCount → Reply → Bool
gave_all kept (Search found) = list_all (λ n. not (has_failed found.failed n.shard)) kept
gave_all kept _ = true

-- nor in any of those that show the pages of the context of an id
abbrev pub all_given : List ShardCount → Scripted → TaskId → List Event → Bool
all_given kept script id [] = true
all_given kept script id (End t reply ∷ h) = all_given kept script id h && (if is_of_context id t (request_of script t h) then gave_all kept reply else true)
all_given kept script id (_ ∷ h) = all_given kept script id h

-- the context of an id as its search opened it
abbrev pub first_context : Scripted → TaskId → List Event → Option Context
first_context script id [] = None
first_context script id (End t reply ∷ h) = option_or (after_end (clock h) t (request_of script t h) reply id None) (first_context script id h)
first_context script id (_ ∷ h) = first_context script id h
