-- What a core keeps of a task that has just been registered.
use Rattle.std.proofs.Common.{◌≡◌, ℕ, true, false, List, length, Option, Some, None, refl, sym, ap, ◌∙◌, subst, arith}
use Rattle.std.specs.Prelude.{is_some, option_copied, ◌≤◌, Result, Ok, OnErr}
use Rattle.std.proofs.lemmas.Bool.Decides.{nat_tests}
use Rattle.task_ids.specs.declared.task_id.TaskId.{TaskId}
use Rattle.child_track.specs.Token.{Token}
use Rattle.task_events.specs.Answered.{as_answered}
use Rattle.task_events.specs.Kinds.{kind_of}
use Rattle.task_events.specs.declared.request.Request.{Request}
use Rattle.task_events.specs.declared.request.Request.TheVariants as asks
use Rattle.node_link.specs.Lawful.{IsPlace, is_page}
use Rattle.node_parts.specs.Running.{next_number}
use Rattle.task_work.specs.Works.{place_of}
use Rattle.held_shards.specs.declared.HeldShards.{HeldShards}
use Rattle.held_shards.specs.Held.{holds, shard_at}
use Rattle.live_tasks.specs.declared.entry.Entry.{Entry}
use Rattle.live_tasks.specs.declared.wanted.Wanted.{Wanted}
use Rattle.live_tasks.specs.Registers.{IsNewEntry, new_entry}
use Rattle.live_tasks.specs.Live.{entry_at, ChangesAt, SameTasks}
use Rattle.live_tasks.specs.declared.live.LiveTasks.{LiveTasks}
use Rattle.live_tasks.specs.declared.registering.Registered.{Registered}
use Rattle.live_tasks.specs.declared.registering.Registered.TheVariants as outcomes
use Rattle.task_events.specs.declared.stop.Stop.{Stop}
use Rattle.data_parts.specs.Steps.{HasCome, ReadsHeld}
use Rattle.data_parts.proofs.Moves.{new_replies, new_below}
use Rattle.data_parts.proofs.Grown.{new_place, new_within}
use Rattle.entry_facts.specs.Entries.{writes_for}
use Rattle.data_core.specs.Cores.{IsGoodEntry, AreGood}
use Rattle.data_core.proofs.Cases.{registered_each}
use Rattle.data_core.specs.Admitting.{has_shard, has_version}
use Rattle.held_shards.proofs.Rows.{both_true}

version_within : (held : HeldShards) (index : List ℕ) (shard : ℕ) (o : Option ℕ) → has_version held index shard o ≡ true → (version : ℕ) → o ≡ Some version → version ≤ length (shard_at held index shard).writes
version_within held index shard None has version e = absurd (let f : false ≡ true = ap is_some e in cc)
version_within held index shard (Some v) has version e =
    let same : v ≡ version = cc in
    let low : v ≤ length (shard_at held index shard).writes = grind (arith, nat_tests, has) in
    subst (λ x. x ≤ length (shard_at held index shard).writes) same low

-- where the shard is here at the version that a request reads, its writes have that version
pub reads_held : (held : HeldShards) (request : Request) → has_shard held request ≡ true → ReadsHeld (writes_for held (kind_of request).place) request
reads_held held (asks.Query ask) has = version_within held ask.index ask.shard ask.version (both_true (holds held ask.shard) _ has).1
reads_held held (asks.Fetch ask) has = version_within held ask.index ask.shard (Some ask.version) (both_true (holds held ask.shard) _ has).1 ask.version refl
reads_held held (asks.Search ask) has = tt
reads_held held (asks.Scroll ask) has = tt
reads_held held (asks.Reindex ask) has = tt
reads_held held (asks.Slice ask) has = tt
reads_held held (asks.Bulk ask) has = tt
reads_held held (asks.BulkShard ask) has = tt

module _ (allowed : ℕ → Type 0) (held : HeldShards) (id : TaskId) (token : Option Token) (wanted : Wanted) (shards now : ℕ) (e : Entry) where
  pub new_good : IsNewEntry id token wanted shards now e → IsPlace wanted.place → is_some (option_copied wanted.page) ≡ is_page (as_answered wanted.request.now) → has_shard held wanted.request.now ≡ true → IsGoodEntry allowed held e
  new_good new place page has =
      let request = wanted.request.now in
      let made = new.made in
      let w = new.parts.work in
      let first = new_entry (record { id = id; token = token }) new.parts in
      let context = option_copied wanted.context in
      let at : place_of w ≡ (kind_of request).place = new_place id request shards context w made.work.new in
      let writes = writes_for held (kind_of request).place in
      let within = new_within id request shards context w writes made.work.new (reads_held held request has) in
      let good : IsGoodEntry allowed held first = record {
        place = subst IsPlace (sym made.place) place;
        mark = tt;
        page = ap is_some made.page ∙ page ∙ sym (ap is_page made.request);
        replies = new_replies allowed id request shards context w made.work.new;
        asks = new_below (next_number first.running) id request shards context w made.work.new;
        come = subst (λ p. HasCome w (writes_for held p)) (sym at) (made.work.on writes, within);
      } in
      subst (IsGoodEntry allowed held) (sym new.is) good

-- what a registration leaves
module _ (allowed : ℕ → Type 0) (held : HeldShards) (old live : LiveTasks) (token : Option Token) (wanted : Wanted) (shards now : ℕ) (r : Result Registered Stop) where
  pub tasks_good : AreGood allowed held old
      → ((id : TaskId) → r ≡ Ok (outcomes.Task id) → (e : Entry) × IsNewEntry id token wanted shards now e × ChangesAt (entry_at old) (entry_at live) id.number (Some e))
      → ((t : Option Token) → r ≡ Ok (outcomes.Full t) → (t ≡ token) × SameTasks old live) → OnErr r (SameTasks old live)
      → IsPlace wanted.place → is_some (option_copied wanted.page) ≡ is_page (as_answered wanted.request.now) → has_shard held wanted.request.now ≡ true → AreGood allowed held live
  tasks_good good entry full err place page has =
      registered_each (IsGoodEntry allowed held) old live (λ id e. IsNewEntry id token wanted shards now e) (λ t. t ≡ token) r good
      (λ id e new. new_good allowed held id token wanted shards now e new place page has)
      entry full err
