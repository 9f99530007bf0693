-- Which tasks ask for which, and which of them write.
use Rattle.std.specs.Prelude.{◌≡◌, List, [], ◌∷◌, Bool, true, false, ◌||◌, option_and_then, ⊤}
use Rattle.std.specs.Option.{option_map_or}
use Rattle.task_events.specs.declared.event.Event.{Event}
use Rattle.task_events.specs.declared.event.Event.TheVariants.{Ask, Write}
use Rattle.task_events.specs.declared.request.Request.{Request}
use Rattle.task_events.specs.declared.request.Request.TheVariants.{Search, Query, Fetch, Scroll, Reindex, Slice, Bulk, BulkShard}
use Rattle.task_events.specs.Cancels.{turn_of}
use Rattle.task_events.specs.Requests.{Scripted, request_of}

-- the query or the fetch of a shard
abbrev pub reads_shard : Request → Bool
reads_shard (Query ask) = true
reads_shard (Fetch ask) = true
reads_shard _ = false

-- what a slice asks for by turns: a page, or a bulk of its documents
abbrev pub is_step_of_slice : Request → Bool
is_step_of_slice (Search ask) = true
is_step_of_slice (Scroll ask) = true
is_step_of_slice (Bulk ask) = true
is_step_of_slice _ = false

abbrev pub is_slice : Request → Bool
is_slice (Slice ask) = true
is_slice _ = false

-- the part of a bulk in a shard
abbrev pub is_part : Request → Bool
is_part (BulkShard ask) = true
is_part _ = false

-- what the task of a request may ask for
abbrev pub may_ask : Request → Request → Bool
may_ask (Search ask) child = reads_shard child
may_ask (Scroll ask) child = reads_shard child
may_ask (Reindex ask) child = is_slice child || is_step_of_slice child
may_ask (Slice ask) child = is_step_of_slice child
may_ask (Bulk ask) child = is_part child
may_ask _ child = false

-- A task asks for what tasks of its kind ask for, and a document is written in a turn of a part of a bulk.
abbrev pub KeepsToKind : Scripted → Event → List Event → Type 0
KeepsToKind script (Ask p k n child) h = option_map_or (λ request. may_ask request child) (request_of script p h) false ≡ true
KeepsToKind script (Write index shard outcome id) h = option_map_or is_part (option_and_then (λ t. request_of script t h) (turn_of h)) false ≡ true
KeepsToKind script _ h = ⊤

abbrev pub KeepsToKinds : Scripted → List Event → Type 0
KeepsToKinds script [] = ⊤
KeepsToKinds script (e ∷ h) = KeepsToKind script e h × KeepsToKinds script h
