-- A task that was registered for what a letter of the run asks is one of the run.
use Rattle.std.proofs.Common.{◌≡◌, ℕ, true, Option, Some, None, refl, sym, ap, ◌∙◌, subst}
use Rattle.std.specs.Prelude.{IfSome, option_copied, option_map, Result, Ok, OnErr}
use Rattle.task_ids.specs.declared.task_id.TaskId.{TaskId}
use Rattle.child_track.specs.Token.{Token}
use Rattle.task_events.specs.Answered.{as_answered}
use Rattle.task_events.specs.Kinds.{kind_of}
use Rattle.task_events.specs.declared.context.Context.{Context}
use Rattle.task_events.specs.declared.request.Request.{Request}
use Rattle.task_events.specs.declared.request.Request.TheVariants as asks
use Rattle.task_events.specs.declared.stop.Stop.{Stop}
use Rattle.node_link.specs.Lawful.{is_page}
use Rattle.node_link.specs.declared.body.Place.{Place}
use Rattle.node_link.specs.declared.body.Start.{Start}
use Rattle.node_link.specs.declared.page.Page.{Page}
use Rattle.held_shards.proofs.Rows.{both_true}
use Rattle.held_shards.specs.Held.{holds}
use Rattle.held_shards.specs.declared.HeldShards.{HeldShards}
use Rattle.live_tasks.specs.Live.{entry_at, ChangesAt, SameTasks}
use Rattle.live_tasks.specs.Registers.{IsNewEntry}
use Rattle.live_tasks.specs.declared.entry.Entry.{Entry}
use Rattle.live_tasks.specs.declared.live.LiveTasks.{LiveTasks}
use Rattle.live_tasks.specs.declared.registering.Registered.{Registered}
use Rattle.live_tasks.specs.declared.registering.Registered.TheVariants as outcomes
use Rattle.live_tasks.specs.declared.wanted.Wanted.{Wanted}
use Rattle.data_parts.specs.Slices.{Contexts, context_for}
use Rattle.reply_facts.specs.Letters.{IsPageAt, IsPageFor, IsRequestAt, IsStartOf, context_of_start}
use Rattle.reply_facts.specs.Settings.{Setting, sought_at}
use Rattle.work_facts.proofs.New.{IsOver}
use Rattle.entry_facts.specs.Entries.{IsCoreOfRun, IsEntryOfRun}
use Rattle.entry_facts.proofs.Entries.{new_of_run}
use Rattle.data_core.specs.Admitting.{has_shard}
use Rattle.data_core.specs.Letters.{page_at}
use Rattle.data_core.proofs.Cases.{registered_each}

-- the shard on which a request is worked is held
on_held : (held : HeldShards) (request : Request) → has_shard held request ≡ true → IfSome (kind_of request).place (λ p. holds held p.1 ≡ true)
on_held held (asks.Query ask) has = (both_true (holds held ask.shard) _ has).0
on_held held (asks.Fetch ask) has = (both_true (holds held ask.shard) _ has).0
on_held held (asks.BulkShard ask) has = has
on_held held (asks.Search ask) has = tt
on_held held (asks.Scroll ask) has = tt
on_held held (asks.Reindex ask) has = tt
on_held held (asks.Slice ask) has = tt
on_held held (asks.Bulk ask) has = tt

always : {X P : Type 0} (o : Option X) → P → IfSome o (λ x. P)
always None p = tt
always (Some x) p = p

-- ---- over what it is worked

module _ (run : Setting) (place : Place) (page : Option Page) (context : Option Context) where
  -- it shows no page
  shows_none : (request : Request) → page ≡ None → context ≡ context_of_start request page → IsOver run place request page context
  shows_none request none is = record { shown = subst (λ o. IfSome o (IsPageAt run place)) (sym none) tt; told = always (sought_at run place) is }

  any_page : sought_at run place ≡ None → (o : Option Page) → IfSome o (IsPageAt run place)
  any_page none None = tt
  any_page none (Some p) = subst (λ s. IfSome s (λ q. IsPageFor run q p)) (sym none) tt

  -- a child is worked over the context that it asks for: only where nothing is known of its search it asks for one
  pub child_over : (contexts : Contexts) (request : Request) (now : ℕ) → (is_page (as_answered request) ≡ true → sought_at run place ≡ None) → context ≡ context_for contexts request now → page ≡ option_map page_at (context_for contexts request now)
      → IsOver run place request page context
  child_over contexts (asks.Scroll ask) now pages is shows = record { shown = any_page (pages refl) page; told = subst (λ s. IfSome s (λ q. context ≡ context_of_start (asks.Scroll ask) page)) (sym (pages refl)) tt }
  child_over contexts (asks.Search ask) now pages is shows = shows_none (asks.Search ask) shows is
  child_over contexts (asks.Query ask) now pages is shows = shows_none (asks.Query ask) shows is
  child_over contexts (asks.Fetch ask) now pages is shows = shows_none (asks.Fetch ask) shows is
  child_over contexts (asks.Reindex ask) now pages is shows = shows_none (asks.Reindex ask) shows is
  child_over contexts (asks.Slice ask) now pages is shows = shows_none (asks.Slice ask) shows is
  child_over contexts (asks.Bulk ask) now pages is shows = shows_none (asks.Bulk ask) shows is
  child_over contexts (asks.BulkShard ask) now pages is shows = shows_none (asks.BulkShard ask) shows is

-- a root is worked over the page in its letter
pub root_over : (run : Setting) (start : Start) (page : Option Page) (context : Option Context) → IsStartOf run start → page ≡ start.page → context ≡ context_of_start start.request start.page → IsOver run start.place start.request page context
root_over run start page context tells shows is = record {
  shown = subst (λ o. IfSome o (IsPageAt run start.place)) (sym shows) tells.page;
  told = always (sought_at run start.place) (is ∙ ap (context_of_start start.request) (sym shows));
}

-- ---- what a registration leaves

module _ (run : Setting) (shards : ℕ) (held : HeldShards) (old live : LiveTasks) (token : Option Token) (wanted : Wanted) (now : ℕ) (r : Result Registered Stop) where
  pub registered_of_run : IsCoreOfRun run shards held old
      → ((id : TaskId) → r ≡ Ok (outcomes.Task id) → (e : Entry) × IsNewEntry id token wanted shards now e × ChangesAt (entry_at old) (entry_at live) id.number (Some e))
      → ((t : Option Token) → r ≡ Ok (outcomes.Full t) → (t ≡ token) × SameTasks old live) → OnErr r (SameTasks old live)
      → IsRequestAt run wanted.place (as_answered wanted.request.now) → IsOver run wanted.place wanted.request.now (option_copied wanted.page) (option_copied wanted.context)
      → has_shard held wanted.request.now ≡ true → IsCoreOfRun run shards held live
  registered_of_run h entry full err asked over has = record {
    tasks = registered_each (IsEntryOfRun run held) old live (λ id e. IsNewEntry id token wanted shards now e) (λ t. t ≡ token) r h.tasks
        (λ id e new. new_of_run run held id token wanted now e (subst (λ n. IsNewEntry id token wanted n now e) h.as_many new) asked over (on_held held wanted.request.now has))
        entry full err;
    steady = h.steady;
    as_many = h.as_many;
  }
