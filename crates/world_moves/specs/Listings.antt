-- Open listings, and their steps.
use Rattle.std.specs.Prelude.{◌≡◌, ℕ, true, false, Bool, ◌&&◌, not, List, ◌∷◌, Option, Some, None, count_by, filter, map, option_and_then, if◌then◌else◌}
use Rattle.std.specs.List.{list_any}
use Rattle.std.specs.Ordering.{nat_cmp, ordering_then, is_le}
use Rattle.std.specs.declared.cmp.Ordering.{Ordering}
use Rattle.task_ids.specs.declared.task_id.TaskId.{TaskId}
use Rattle.task_ids.specs.declared.task_info.TaskInfo.{TaskInfo}
use Rattle.task_ids.specs.TaskIdOrder.{task_id_cmp}
use Rattle.tasks_api.specs.Filters.{is_child_of}
use Rattle.task_events.specs.declared.event.Event.{Event}
use Rattle.task_events.specs.declared.event.Event.TheVariants.{Mark, Listed}
use Rattle.task_events.specs.Same.{same_task}
use Rattle.task_events.specs.Tasks.{is_live, parent_of}
use Rattle.task_events.specs.Bans.{mark_of, standing_ban, listing_is_open, listed_children, is_stopped}
use Rattle.task_events.specs.Allowed.{HasAllMarked, IsLowest}
use Rattle.node_parts.specs.declared.listing.Listing.{Listing}
use Rattle.world_moves.specs.declared.listings.ListStep.{ListStep}
use Rattle.world_moves.specs.declared.listings.ListStep.TheVariants.{Done, NoListing}

-- ---- open listings

-- by node, and then by the task whose children are listed
abbrev pub listing_cmp : Listing → Listing → Ordering
listing_cmp a b = ordering_then (nat_cmp a.node b.node) (task_id_cmp a.parent b.parent)

abbrev pub is_open : Listing → List Event → Bool
is_open l h = listing_is_open l.node l.parent h

-- of some rows, the tasks whose parent this is
abbrev pub children_among : TaskId → List TaskInfo → List TaskId
children_among p rows = map (λ row. row.id) (filter (λ row. is_child_of p row.parent) rows)

-- the lowest of the live children there that have no mark
pub record IsNextChild (l : Listing) (t : TaskId) (h : List Event) : Type 0 where
  pub child : parent_of t h ≡ Some l.parent
  pub there : t.node ≡ l.node
  pub live : is_live t h ≡ true
  pub unmarked : mark_of t h ≡ None
  pub lowest : IsLowest t h

-- the event of a step: the next child is marked with the ban's number, and where there is none the listing ends
abbrev pub IsListStep : Listing → List Event → Event → Type 0
IsListStep l h (Mark t c) = IsNextChild l t h × (standing_ban l.node l.parent h ≡ Some c)
IsListStep l h (Listed n p) = (n ≡ l.node) × (p ≡ l.parent) × HasAllMarked l.node l.parent h
IsListStep l h _ = ⊥

-- the past after a step of an open listing
abbrev pub ListSteps : Listing → List Event → List Event → Type 0
ListSteps l h new = (e : Event) × (is_open l h ≡ true) × IsListStep l h e × (new ≡ e ∷ h)

-- the lowest of the open listings
abbrev pub IsFirstListing : Listing → List Event → Type 0
IsFirstListing l h = (is_open l h ≡ true) × ((m : Listing) → is_open m h ≡ true → is_le (listing_cmp l m) ≡ true)

-- what a step of a listing answers, and the past after it
abbrev pub AnswersListing : Listing → List Event → ListStep → List Event → Type 0
AnswersListing l h Done new = ListSteps l h new
AnswersListing l h NoListing new = (is_open l h ≡ false) × (new ≡ h)

-- ---- listings that have ended, and wait for the children that they found

-- for how many of the children on n the listing for p waits: those that it found and that have not stopped
abbrev pub unstopped : ℕ → TaskId → List Event → ℕ
unstopped n p h = count_by (λ t. not (is_stopped t h)) (listed_children n p h)

-- the listing for p waits for the task
abbrev pub is_awaited : TaskId → TaskId → List Event → Bool
is_awaited t p h = list_any (same_task t) (listed_children t.node p h) && not (is_stopped t h)

-- the parent whose listing waits for the task, if one does
abbrev pub listing_over : TaskId → List Event → Option TaskId
listing_over t h = option_and_then (λ p. if is_awaited t p h then Some p else None) (parent_of t h)
