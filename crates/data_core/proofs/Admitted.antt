-- A letter that was admitted: a task is live for it, or it comes again.
use Rattle.std.proofs.Common.{◌≡◌, ℕ, inl, List, [], ◌∷◌, Option, Some, None, refl, ap, ◌∙◌, subst}
use Rattle.std.specs.Prelude.{Result, Ok, Err, IfOk, option_map, option_copied, true}
use Rattle.child_track.specs.Token.{Token, token_parent}
use Rattle.task_ids.specs.declared.task_info.Headers.{Headers}
use Rattle.task_events.specs.declared.context.Context.{Context}
use Rattle.task_events.specs.declared.request.Request.{Request}
use Rattle.node_link.specs.declared.body.Place.{Place}
use Rattle.node_link.specs.declared.page.Page.{Page}
use Rattle.live_tasks.specs.declared.entry.Entry.{Entry}
use Rattle.live_tasks.specs.declared.live.LiveTasks.{LiveTasks}
use Rattle.live_tasks.specs.declared.wanted.Wanted.{Wanted}
use Rattle.live_tasks.specs.Chains.{Chain}
use Rattle.live_tasks.specs.Live.{entry_at, number_at, ChangesAt}
use Rattle.live_tasks.specs.Registers.{IsNewEntry, registering}
use Rattle.task_ids.specs.declared.task_id.TaskId.{TaskId}
use Rattle.task_events.specs.declared.stop.Stop.{Stop}
use Rattle.node_boards.specs.Calls.{DataCall}
use Rattle.node_link.specs.declared.body.Asked.{Asked}
use Rattle.node_link.specs.declared.body.Body.TheVariants as says
use Rattle.node_link.specs.declared.body.Start.{Start}
use Rattle.run_facts.specs.declared.To.TheVariants as to
use Rattle.data_parts.specs.Slices.{Contexts, context_for, with_use_by}
use Rattle.reply_facts.specs.Letters.{context_of_start}
use Rattle.data_core.specs.declared.state.DataCore.{DataCore}
use Rattle.data_core.specs.Letters.{page_at}
use Rattle.data_core.specs.Turns.{Posts, post, OnlyTasks, Registers, Started, Requested}

-- what was wanted is registered
module _ {B : Type 0} (rests : B → B → DataCall → Type 0) (b : B) (old : DataCore) (live : LiveTasks) (c : B) (id : TaskId) (token : Option Token) (place : Place) (request : Request) (headers : Headers) (page : Option Page) (context : Option Context) where
  pub registers_so : (wanted : Wanted) (now : ℕ) → now ≡ old.clock.ms
      → ((e : Entry) × IsNewEntry id token wanted old.cluster.shards now e × ChangesAt (entry_at old.live) (entry_at live) id.number (Some e))
      → ((wanted.place ≡ place) × (wanted.request.now ≡ request) × (wanted.headers.now ≡ headers) × (option_copied wanted.page ≡ page) × (option_copied wanted.context ≡ context))
      → ChangesAt (number_at old.live) (number_at live) place (Some id.number) → live.drawn ≡ None → Chain rests b (registering old.live.drawn id.number (token_parent token) true) c
      → Registers rests token place request headers page context id b old live c
  registers_so wanted now same made wants placed used calls = record {
    wanted = wanted;
    entry = made.0;
    wants = wants;
    new = subst (λ n. IsNewEntry id token wanted old.cluster.shards n made.0) same made.1;
    kept = made.2;
    placed = placed;
    used = used;
    calls = calls;
  }

module _ {B : Type 0} (rests : B → B → DataCall → Type 0) {P : Type 0} (items : P → Posts) (r : Result P Stop) where
  pub started_so : (start : Start) (id : TaskId) (b : B) (old new : DataCore) (c : B) → IfOk r (λ p. items p ≡ post to.Driver (says.Root start.place.command id))
      → Registers rests None start.place start.request start.headers start.page (context_of_start start.request start.page) id b old new.live c → OnlyTasks old new → IfOk r (λ p. Started rests start b old (items p) new c)
  started_so start id b old new c sent registers rest = by r sent
    where
      by : (q : Result P Stop) → IfOk q (λ p. items p ≡ post to.Driver (says.Root start.place.command id)) → IfOk q (λ p. Started rests start b old (items p) new c)
      by (Ok p) told = inl (id, told, registers, rest)
      by (Err e) told = tt

-- a child is live, which took the context of its page with it
pub requested_so : {B : Type 0} (rests : B → B → DataCall → Type 0) (asked : Asked) (id : TaskId) (b : B) (old mid : DataCore) (contexts : Contexts) (c : B)
    → Registers rests (Some asked.token) asked.place asked.request asked.headers (option_map page_at (context_for old.contexts asked.request old.clock.ms)) (context_for old.contexts asked.request old.clock.ms) id b old mid.live c
    → OnlyTasks old mid → contexts ≡ with_use_by mid.contexts id asked.request old.clock.ms → Requested rests asked b old [] (record mid { contexts = contexts }) c
requested_so rests asked id b old mid contexts c registers rest used =
    inl (
      id,
      refl,
      registers,
      ap (λ (m : DataCore). record m { contexts = contexts }) rest
          ∙ ap (λ (x : Contexts). record old { live = mid.live; contexts = x }) (used ∙ ap (λ (m : DataCore). with_use_by m.contexts id asked.request old.clock.ms) rest),
    )

-- ---- what is sent

-- one letter is sent, which is this one
pub sent_one : {P X : Type 0} (items : P → List X) (r : Result P Stop) (x y : X) → IfOk r (λ p. items p ≡ x ∷ []) → x ≡ y → IfOk r (λ p. items p ≡ y ∷ [])
sent_one items (Ok p) x y sent same = sent ∙ ap (λ z. z ∷ []) same
sent_one items (Err e) x y sent same = tt
