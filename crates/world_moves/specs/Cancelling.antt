-- What the world's tables of bans and cancellations say of the past.
use Rattle.std.specs.Prelude.{◌≡◌, ℕ, ◌+◌, ◌≤◌, true, false, Bool, ◌&&◌, not, nat_lt, List, [], ◌∷◌, Option, Some, None, is_some, option_map, map, filter, slice_get, All, ⊤, if◌then◌else◌}
use Rattle.std.specs.BTreeSet.{BTreeSet, contains}
use Rattle.std.specs.FinMap.{FinMap, get}
use Rattle.task_ids.specs.declared.task_id.TaskId.{TaskId}
use Rattle.task_ids.specs.declared.cluster.Cluster.{Cluster}
use Rattle.task_ids.specs.declared.task_info.TaskInfo.{TaskInfo}
use Rattle.task_ids.specs.TaskIdOrder.{task_id_cmp}
use Rattle.task_table.specs.Table.{Table}
use Rattle.cancel_core.specs.declared.act.Waiter.{Waiter}
use Rattle.cancel_core.specs.Cancellation.{Cancellation}
use Rattle.cancel_core.specs.Cancellations.{Cancellations}
use Rattle.task_events.specs.declared.event.Event.{Event}
use Rattle.task_events.specs.Same.{same_task}
use Rattle.task_events.specs.Tasks.{has_ended, parent_of}
use Rattle.task_events.specs.Bans.{mark_of, banned_nodes, is_acked, bans_are_placed, standing_ban, unbans_are_sent}
use Rattle.node_parts.specs.declared.listing.Listing.{Listing}
use Rattle.command_roots.specs.Roots.{root_of}
use Rattle.world_moves.specs.Cancels.{waiting_for, waits_for_end}
use Rattle.world_moves.specs.Listings.{listing_cmp, is_open, unstopped, listing_over}

-- a row tells the parent of its task, and its mark
abbrev pub IsRowOf : List Event → TaskInfo → Type 0
IsRowOf h row = (row.parent ≡ parent_of row.id h) × (row.cancelled ≡ mark_of row.id h)

abbrev pub HasRows : List Event → Option Table → Type 0
HasRows h None = ⊤
HasRows h (Some table) = All (IsRowOf h) table.live

-- there is a ban table for each node of the cluster, from the first on, with the bans that stand there
abbrev pub HasBansAt : Cluster → ℕ → List Event → Option (FinMap task_id_cmp ℕ) → Type 0
HasBansAt cluster place h None = cluster.nodes ≤ place
HasBansAt cluster place h (Some bans) = (p : TaskId) → get bans p ≡ standing_ban (place + 1) p h

-- The cancellation of a task is under way from its mark until it has ended and its bans are placed.
abbrev pub is_under_way : TaskId → List Event → Bool
is_under_way t h = is_some (mark_of t h) && not (unbans_are_sent t h)

-- a cancel that waits, as a core knows it
abbrev pub waiter_of : List Event → ℕ → Waiter
waiter_of h c = record { cancel = c; wait = waits_for_end c h }

-- What the past says of the cancellation of one task, for which these cancels wait.
pub record CancelFacts : Type 0 where
  pub mark : Option ℕ
  pub banned : List ℕ
  -- the banned nodes that have not acknowledged
  pub awaited : List ℕ
  pub placed : Bool
  pub ended : Bool
  pub waiting : List ℕ
  pub waiters : List Waiter

abbrev pub cancel_facts : List ℕ → TaskId → List Event → CancelFacts
cancel_facts waiting t h = record {
  mark = mark_of t h;
  banned = banned_nodes t h;
  awaited = filter (λ n. not (is_acked n t h)) (banned_nodes t h);
  placed = bans_are_placed t h;
  ended = has_ended t h;
  waiting = waiting;
  waiters = map (waiter_of h) waiting;
}

-- a core knows of a cancellation what the past says
abbrev pub KnowsFacts : CancelFacts → Cancellation → Type 0
KnowsFacts facts c = (facts.mark ≡ Some c.cancel) × (c.banned ≡ facts.banned) × (c.awaited ≡ facts.awaited) × (c.waiters ≡ facts.waiters) × (is_some c.receipt ≡ facts.ended)

-- it knows the cancellations that are under way, and nobody waits for another
abbrev pub IsEntryBy : CancelFacts → Option Cancellation → Type 0
IsEntryBy facts None = ((is_some facts.mark && not (facts.ended && facts.placed)) ≡ false) × (facts.waiting ≡ [])
IsEntryBy facts (Some c) = ((is_some facts.mark && not (facts.ended && facts.placed)) ≡ true) × KnowsFacts facts c

abbrev pub IsCancellationOf : List ℕ → TaskId → List Event → Cancellation → Type 0
IsCancellationOf waiting t h c = KnowsFacts (cancel_facts waiting t h) c

abbrev pub IsEntryOf : List ℕ → TaskId → List Event → Option Cancellation → Type 0
IsEntryOf waiting t h o = IsEntryBy (cancel_facts waiting t h) o

-- there is a core for each node of the cluster, from the first on
abbrev pub HasCoreAt : Cluster → (TaskId → List ℕ) → ℕ → List Event → Option Cancellations → Type 0
HasCoreAt cluster waiting place h None = cluster.nodes ≤ place
HasCoreAt cluster waiting place h (Some core) = (t : TaskId) → t.node ≡ place + 1 → IsEntryOf (waiting t) t h (get core.entries t)

-- a number, and none for 0
abbrev pub if_any : ℕ → Option ℕ
if_any n = if nat_lt 0 n then Some n else None

-- A core knows for which tasks of its node a listing waits, and for how many each listing there does.
pub record KnowsListings (node : ℕ) (h : List Event) (core : Cancellations) : Type 0 where
  pub waits : (t : TaskId) → t.node ≡ node → get core.waits t ≡ listing_over t h
  pub numbers : (p : TaskId) → get core.listings p ≡ if_any (unstopped node p h)

abbrev pub HasListingsAt : ℕ → List Event → Option Cancellations → Type 0
HasListingsAt place h None = ⊤
HasListingsAt place h (Some core) = KnowsListings (place + 1) h core

-- The tables, where these cancels wait for the cancellation of each task.
pub record Cancelling (cluster : Cluster) (waiting : TaskId → List ℕ) (h : List Event) (tables : List Table) (roots : ℕ → Option TaskId) (bans : List (FinMap task_id_cmp ℕ)) (cores : List Cancellations) (listings : BTreeSet Listing) : Type 0 where
  pub rows_are : (place : ℕ) → HasRows h (slice_get tables place)
  pub roots_are : (k : ℕ) → roots k ≡ root_of k h
  pub bans_are : (place : ℕ) → HasBansAt cluster place h (slice_get bans place)
  pub cores_are : (place : ℕ) → HasCoreAt cluster waiting place h (slice_get cores place)
  pub waits_are : (place : ℕ) → HasListingsAt place h (slice_get cores place)
  pub listings_are : (l : Listing) → contains listing_cmp listings l ≡ is_open l h

-- those that wait for a task, and none for one that is to be left out
abbrev pub waiting_but : TaskId → List Event → TaskId → List ℕ
waiting_but t h u = if same_task t u then [] else waiting_for u h

-- the cancel that waits, if one does
abbrev pub cancels_of : Option Waiter → List ℕ
cancels_of None = []
cancels_of (Some w) = w.cancel ∷ []

abbrev pub naming_of : Option Waiter → Option ℕ
naming_of waiter = option_map (λ w. w.cancel) waiter
