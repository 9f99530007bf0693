-- While no task is live, the tables fit the past with shards that forgot what no context keeps.
use Rattle.std.proofs.Common.{◌≡◌, ℕ, zero, suc, ◌+◌, ◌<◌, ◌≤◌, Bool, true, false, cond, ◌&&◌, List, [], ◌∷◌, ◌++◌, length, take, get_or, Some, None, refl, sym, ap, subst, ◌∙◌, arith, true≢false}
use Rattle.std.specs.Prelude.{IfSome, ◌==◌, slice_get}
use Rattle.std.specs.BTreeMap.{BTreeMap, btree_map_len, is_at}
use Rattle.std.specs.Map.{lookup}
use Rattle.std.specs.Str.{bytes_eq}
use Rattle.std.specs.Cmp.{eq_by_cmp_equiv}
use Rattle.std.specs.FinMap.{FinMap}
use Rattle.std.proofs.Math.Nat.{max-le}
use Rattle.std.proofs.lemmas.Bool.Decides.{nat_tests}
use Rattle.std.proofs.lemmas.List.{take_all, take_more}
use Rattle.std.proofs.lemmas.Option.{get_or_from_slice_get}
use Rattle.std.proofs.lemmas.Slice.Eq.{bytes_eq-Decides}
use Rattle.task_ids.specs.declared.task_id.TaskId.{TaskId}
use Rattle.task_ids.specs.TaskIdOrder.{task_id_cmp}
use Rattle.task_ids.proofs.TaskIdKeys.{ids_total}
use Rattle.task_events.specs.declared.context.Context.{Context}
use Rattle.task_events.specs.declared.reply.ShardCount.{ShardCount}
use Rattle.task_events.specs.Contexts.{context_at, version_kept}
use Rattle.task_events.specs.Counts.{version_in}
use Rattle.task_events.specs.Tasks.{is_live}
use Rattle.shard_docs.specs.ShardView.{has_dead}
use Rattle.corpus_shards.specs.declared.Shards.{Shards}
use Rattle.corpus_shards.specs.declared.Stale.{Stale}
use Rattle.corpus_shards.specs.Stored.{HasWritten, AllNoted, HasForgotten, Forgets, bound_of, is_among, raised, shard_in, was_there}
use Rattle.corpus_shards.proofs.Notes.{flipped, not_pushed, none_left, has_forgotten}
use Rattle.node_parts.specs.declared.running.Running.{Running}
use Rattle.command_roots.specs.Roots.{scripted}
use Rattle.world_moves.specs.declared.state.State.{State}
use Rattle.world_moves.specs.Facts.{facts_of}
use Rattle.world_moves.specs.Good.{so_far}
use Rattle.world_moves.specs.Purging.{oldest_in, bound_in, AllForgotten, NoneLost}
use Rattle.world_moves.specs.Reads.{KeepsFrom}
use Rattle.world_moves.specs.Ties.{IsKept, IsTied, HasReads, task_at}
use Rattle.world_moves.proofs.KeptAbove.{keeps_own, kept_above}

-- no task is kept in an empty table
pub none_kept : (tasks : BTreeMap TaskId Running) → btree_map_len tasks ≡ 0 → (t : TaskId) → task_at tasks t ≡ None
none_kept tasks empty t = none_of tasks.entries empty
  where
    none_of : (es : List (TaskId × Running)) → length es ≡ 0 → lookup (is_at (task_id_cmp t)) es ≡ None
    none_of [] e = refl
    none_of (entry ∷ es) e = absurd (omega arith)

-- where none is kept none is live
pub none_live : (s : State) → IsTied s → ((t : TaskId) → task_at s.tasks t ≡ None) → (t : TaskId) → is_live t s.history ≡ false
none_live s tied none t = subst (IsKept s.cluster (so_far s.corpus.now s.script.now) s.history t (facts_of (scripted s.script.now) t s.history)) (none t) (tied.ties.kept t)

-- a task is live where one is kept
pub one_live : (s : State) → IsTied s → ((task : TaskId) → is_live task s.history ≡ false) → btree_map_len s.tasks ≡ 0
one_live s tied none = by s.tasks.entries refl
  where
    by : (es : List (TaskId × Running)) → s.tasks.entries ≡ es → length s.tasks.entries ≡ 0
    by [] is = ap length is
    by ((t, running) ∷ es) is =
        let found : task_at s.tasks t ≡ Some running = ap (lookup (is_at (task_id_cmp t))) is ∙ ap (λ b. cond b (Some running) (lookup (is_at (task_id_cmp t)) es)) ((eq_by_cmp_equiv ids_total).refl t) in
        let runs = subst (IsKept s.cluster (so_far s.corpus.now s.script.now) s.history t (facts_of (scripted s.script.now) t s.history)) found (tied.ties.kept t) in
        absurd (true≢false (sym runs.live ∙ none t))

module _ (s : State) (tied : IsTied s) (none : (t : TaskId) → is_live t s.history ≡ false) (index : List ℕ) (shard from : ℕ) (low : IfSome (oldest_in index shard s.contexts.items) (λ least. from ≤ least)) (shards : Shards)
    (has : HasWritten (so_far s.corpus.now s.script.now s.history) s.cluster.shards (raised index shard from tied.oldest) shards) (from_start : (q : List ℕ) → was_there shards q ≡ was_there s.shards q) (noted : AllNoted shards) where
  -- what a context keeps of that shard
  kept_here : (id : TaskId) (c : Context) (i : ℕ) (n : ShardCount) → context_at (scripted s.script.now) id s.history ≡ Some c → slice_get c.shards i ≡ Some n → index ≡ c.ask.index → shard ≡ n.shard → from ≤ n.version
  kept_here id c i n stands at one number =
      let above = kept_above from index shard s.contexts.items low id c (tied.pages.stand id ∙ stands) in
      let same : bytes_eq c.ask.index index ≡ true = subst (λ q. bytes_eq c.ask.index q ≡ true) (sym one) ((bytes_eq-Decides c.ask.index c.ask.index).1 refl) in
      let own : version_kept index shard c ≡ Some n.version =
      ap (λ b. cond b (version_in shard c.shards) None) same ∙ ap (λ k. version_in k c.shards) number ∙ keeps_own c i n (tied.pages.counts id c stands).ascend at in
      subst (λ o. IfSome o (λ version. from ≤ version)) own above

  keeps : (id : TaskId) (c : Context) → context_at (scripted s.script.now) id s.history ≡ Some c → KeepsFrom (raised index shard from tied.oldest) c
  keeps id c stands i n at = by_place (bytes_eq index c.ask.index) refl (shard == n.shard) refl
    where
      old : tied.oldest c.ask.index n.shard ≤ n.version
      old = tied.reads.contexts id c stands i n at

      by_place : (b : Bool) → bytes_eq index c.ask.index ≡ b → (d : Bool) → (shard == n.shard) ≡ d → raised index shard from tied.oldest c.ask.index n.shard ≤ n.version
      by_place true e true f =
          let number : shard ≡ n.shard = grind (arith, nat_tests) in
          rw (e, f) (max-le old (kept_here id c i n stands at ((bytes_eq-Decides index c.ask.index).0 e) number))
      by_place true e false f = rw (e, f) old
      by_place false e d f = rw e old

  reads : HasReads (raised index shard from tied.oldest) s
  reads = record {
    low = has.low;
    begun = λ t ask past live. absurd (true≢false (sym live ∙ none t));
    tops = λ t k ask top live. absurd (true≢false (sym live ∙ none t));
    contexts = keeps;
    pages = λ t c live. absurd (true≢false (sym live ∙ none t));
  }

  pub forgotten : IsTied (record s { shards = shards })
  forgotten = record {
    ties = tied.ties;
    cancels = tied.cancels;
    counts = tied.counts;
    tells = tied.tells;
    pages = tied.pages;
    oldest = raised index shard from tied.oldest;
    reads = reads;
    shards = record { has = has; from_start = λ q. from_start q ∙ tied.shards.from_start q; noted = noted };
    awaits = tied.awaits;
  }

-- no shard has forgotten what a context keeps
pub none_lost : (s : State) → IsTied s → NoneLost s.contexts.items s.shards
none_lost s tied id c place n stands at =
    let kept : tied.oldest c.ask.index n.shard ≤ n.version = tied.reads.contexts id c (sym (tied.pages.stand id) ∙ stands) place n at in
    let own : (shard_in s.shards c.ask.index n.shard).oldest ≡ tied.oldest c.ask.index n.shard = tied.shards.has.own c.ask.index n.shard in
    omega (arith, kept, own)

-- ---- one noted shard after the other

-- those that are not noted any more, among so many notes, have forgotten what is dead
abbrev pub HasForgottenBut : ℕ → List (FinMap task_id_cmp Context) → Shards → Type 0
HasForgottenBut left tables shards = (index : List ℕ) (shard : ℕ) → is_among (take left shards.stale.items) index shard ≡ false → HasForgotten (bound_in tables shards index shard) (shard_in shards index shard)

-- at first those have that have no dead row
pub none_noted : (tables : List (FinMap task_id_cmp Context)) (shards : Shards) (left : ℕ) → length shards.stale.items ≤ left → AllNoted shards → HasForgottenBut left tables shards
none_noted tables shards left all noted index shard other = by (has_dead (shard_in shards index shard)) refl
  where
    by : (b : Bool) → has_dead (shard_in shards index shard) ≡ b → HasForgotten (bound_in tables shards index shard) (shard_in shards index shard)
    by true dead = absurd (true≢false (sym (ap (λ notes. is_among notes index shard) (take_all left shards.stale.items all) ∙ noted index shard dead) ∙ other))
    by false none = none_left (oldest_in index shard tables) (shard_in shards index shard) none

pub note_there : (notes : List Stale) (place : ℕ) → place < length notes → (note : Stale) × (slice_get notes place ≡ Some note)
note_there [] place within = absurd (omega arith)
note_there (note ∷ notes) zero within = (note, refl)
note_there (note ∷ notes) (suc place) within = note_there notes place (omega arith)

-- then one more has
pub one_more_forgot : (tables : List (FinMap task_id_cmp Context)) (s t : Shards) (left : ℕ) (note : Stale) → left < length s.stale.items → slice_get s.stale.items left ≡ Some note → Forgets note.index note.shard (bound_in tables s note.index note.shard) s t
    → take left t.stale.items ≡ take left s.stale.items → HasForgottenBut (left + 1) tables s → HasForgottenBut left tables t
one_more_forgot tables s t left note within at forgets before had index shard other = by (bytes_eq note.index index) refl (note.shard == shard) refl
  where
    -- it is not among one more either
    among : (bytes_eq index note.index && (shard == note.shard)) ≡ false → is_among (take (left + 1) s.stale.items) index shard ≡ false
    among off =
        let is : get_or s.stale.items left note ≡ note = get_or_from_slice_get s.stale.items left note note at in
        let more : take (left + 1) s.stale.items ≡ take left s.stale.items ++ note ∷ [] = take_more s.stale.items left note within ∙ ap (λ n. take left s.stale.items ++ n ∷ []) is in
        ap (λ notes. is_among notes index shard) more ∙ not_pushed (take left s.stale.items) note index shard (sym (ap (λ notes. is_among notes index shard) before) ∙ other) off

    elsewhere : (bytes_eq note.index index && (note.shard == shard)) ≡ false → HasForgotten (bound_in tables t index shard) (shard_in t index shard)
    elsewhere off = subst (λ v. HasForgotten (bound_of (oldest_in index shard tables) v) v) (sym (forgets.elsewhere index shard off)) (had index shard (among (flipped index note.index shard note.shard ∙ off)))

    by : (b : Bool) → bytes_eq note.index index ≡ b → (d : Bool) → (note.shard == shard) ≡ d → HasForgotten (bound_in tables t index shard) (shard_in t index shard)
    by true e true f =
        let name : note.index ≡ index = (bytes_eq-Decides note.index index).0 e in
        let number : note.shard ≡ shard = grind (arith, nat_tests) in
        subst (λ i. HasForgotten (bound_in tables t i shard) (shard_in t i shard)) name
        (subst (λ n. HasForgotten (bound_in tables t note.index n) (shard_in t note.index n)) number
        (has_forgotten (oldest_in note.index note.shard tables) (shard_in s note.index note.shard) (shard_in t note.index note.shard) forgets.as_many forgets.here))
    by true e false f = elsewhere (ap (λ b. b && (note.shard == shard)) e ∙ f)
    by false e d f = elsewhere (ap (λ b. b && (note.shard == shard)) e)

-- and at last all have
pub all_forgot : (tables : List (FinMap task_id_cmp Context)) (shards : Shards) → HasForgottenBut 0 tables shards → AllForgotten tables shards
all_forgot tables shards had index shard = had index shard refl
