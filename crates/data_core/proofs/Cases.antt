-- What follows where something is there, where a cancellation was told, and where a letter was admitted.
use Rattle.std.proofs.Common.{◌≡◌, ℕ, Bool, true, false, cond, not, ◌||◌, Option, Some, None, refl, sym, ap, ◌∙◌}
use Rattle.std.specs.Prelude.{IfSome, IsSome, is_some, option_map, nat_le, Result, Ok, Err, OnErr}
use Rattle.task_ids.specs.declared.task_id.TaskId.{TaskId}
use Rattle.child_track.specs.Token.{Token}
use Rattle.task_events.specs.Answered.{as_answered}
use Rattle.task_events.specs.declared.request.Request.{Request}
use Rattle.task_events.specs.declared.request.Request.TheVariants as asks
use Rattle.task_events.specs.declared.stop.Stop.{Stop}
use Rattle.task_work.specs.Works.{is_page}
use Rattle.node_link.specs.Lawful.{IsCancelOfRun}
use Rattle.node_link.specs.Lawful as lawful
use Rattle.node_link.specs.declared.page.Page.{Page}
use Rattle.node_link.specs.declared.body.Place.{Place}
use Rattle.run_facts.specs.Cancels.{cancels_of}
use Rattle.live_tasks.specs.declared.entry.Entry.{Entry}
use Rattle.live_tasks.specs.declared.live.LiveTasks.{LiveTasks}
use Rattle.live_tasks.specs.declared.registering.Registered.{Registered}
use Rattle.live_tasks.specs.declared.registering.Registered.TheVariants as outcomes
use Rattle.live_tasks.specs.Live.{entry_at, number_at, count, ChangesAt, SameTasks, HasId}
use Rattle.data_parts.specs.Slices.{Contexts, context_for}
use Rattle.entry_facts.specs.Entries.{EachLive}
use Rattle.entry_facts.proofs.Live.{changed_each, same_each}
use Rattle.data_core.specs.declared.state.DataCore.{DataCore}
use Rattle.data_core.specs.declared.requests.Admission.{Admission}
use Rattle.data_core.specs.declared.requests.Admission.TheVariants.{PassedOver, Rejected, Taken}
use Rattle.data_core.specs.Admitting.{admission_of, has_shard, may_use}
use Rattle.data_core.specs.Letters.{registered_id, page_at}

pub some_there : {X : Type 0} (o : Option X) → IsSome o → (x : X) × (o ≡ Some x)
some_there None is = absurd (let f : false ≡ true = is in cc)
some_there (Some x) is = (x, refl)

pub id_there : (t : TaskId) (o : Option Entry) → HasId t o → (e : Entry) × (o ≡ Some e) × (e.running.ticket.id ≡ t)
id_there t None is = absurd is
id_there t (Some e) is = (e, refl, is)

-- ---- cancellations

pub of_run : (cancels : ℕ → Type 0) (c : ℕ) → cancels_of cancels c → IsCancelOfRun (cancels_of cancels) c
of_run cancels c is = (is.0, is)

pub told_of_run : (cancels : ℕ → Type 0) (o : Option ℕ) → IfSome o (cancels_of cancels) → IfSome o (IsCancelOfRun (cancels_of cancels))
told_of_run cancels None is = tt
told_of_run cancels (Some c) is = (is.0, is)

-- ---- what was admitted

is_taken : Admission → Bool
is_taken Taken = true
is_taken Rejected = false
is_taken PassedOver = false

module _ (core : DataCore) (place : Place) (request : Request) where
  -- its place is free, and its shard is here
  pub taken_free : admission_of core place request ≡ Taken → (is_some (number_at core.live place) ≡ false) × (has_shard core.shards request ≡ true)
  unfolding is_taken
  taken_free e = by (is_some (number_at core.live place)) (has_shard core.shards request) (nat_le core.live.quota (count core.live)) (ap is_taken e)
    where
      by : (a b full : Bool) → is_taken (cond (a || not b) PassedOver (cond full Rejected Taken)) ≡ true → (a ≡ false) × (b ≡ true)
      by false true full f = (refl, refl)
      by true b full f = absurd (let g : false ≡ true = f in cc)
      by false false full f = absurd (let g : false ≡ true = f in cc)

-- where a page may use its context there is one, and only a page has one
pub context_there : (contexts : Contexts) (request : Request) (now : ℕ) → may_use contexts request now ≡ true → is_some (context_for contexts request now) ≡ is_page request
context_there contexts (asks.Scroll ask) now may = may
context_there contexts (asks.Search ask) now may = refl
context_there contexts (asks.Query ask) now may = refl
context_there contexts (asks.Fetch ask) now may = refl
context_there contexts (asks.Reindex ask) now may = refl
context_there contexts (asks.Slice ask) now may = refl
context_there contexts (asks.Bulk ask) now may = refl
context_there contexts (asks.BulkShard ask) now may = refl

-- ---- what a registration leaves

module _ (P : Entry → Type 0) (old new : LiveTasks) (New : TaskId → Entry → Type 0) (Back : Option Token → Type 0) where
  pub registered_each : (r : Result Registered Stop) → EachLive P old → ((id : TaskId) (e : Entry) → New id e → P e)
      → ((id : TaskId) → r ≡ Ok (outcomes.Task id) → (e : Entry) × New id e × ChangesAt (entry_at old) (entry_at new) id.number (Some e))
      → ((t : Option Token) → r ≡ Ok (outcomes.Full t) → Back t × SameTasks old new) → OnErr r (SameTasks old new) → EachLive P new
  registered_each (Ok (outcomes.Task id)) before each task full err = let made = task id refl in changed_each P old new before id.number (Some made.0) made.2 (each id made.0 made.1)
  registered_each (Ok (outcomes.Full t)) before each task full err = same_each P old new before (full t refl).1.0
  registered_each (Err e) before each task full err = same_each P old new before err.0

pub registered_some : (w : Registered) (id : TaskId) → registered_id w ≡ Some id → w ≡ outcomes.Task id
registered_some (outcomes.Task t) id e = let f : Some t ≡ Some id = e in cc
registered_some (outcomes.Full t) id e = absurd (let f : false ≡ true = ap is_some e in cc)

-- ---- pages

-- an answer is to a scroll exactly where its request is one
pub answered_page : (request : Request) → lawful.is_page (as_answered request) ≡ is_page request
answered_page (asks.Scroll ask) = refl
answered_page (asks.Search ask) = refl
answered_page (asks.Query ask) = refl
answered_page (asks.Fetch ask) = refl
answered_page (asks.Reindex ask) = refl
answered_page (asks.Slice ask) = refl
answered_page (asks.Bulk ask) = refl
answered_page (asks.BulkShard ask) = refl

mapped_some : {X Y : Type 0} (f : X → Y) (o : Option X) → is_some (option_map f o) ≡ is_some o
mapped_some f None = refl
mapped_some f (Some x) = refl

-- a child that shows a page has one that begins where its context stands, and no other has one
pub page_there : (contexts : Contexts) (request : Request) (now : ℕ) (page : Option Page) → may_use contexts request now ≡ true → page ≡ option_map page_at (context_for contexts request now) → is_some page ≡ lawful.is_page (as_answered request)
page_there contexts request now page may is = ap is_some is ∙ mapped_some page_at (context_for contexts request now) ∙ context_there contexts request now may ∙ sym (answered_page request)
