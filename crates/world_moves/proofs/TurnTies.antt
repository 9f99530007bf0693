-- All tables of the world fit the past after a turn of work, with what it has written.
use Rattle.std.proofs.Common.{◌≡◌, ◌<◌, ◌≤◌, ◌^◌, ◌&&◌, ℕ, true, false, cond, List, [], ◌∷◌, ◌++◌, length, Option, Some, None, refl, sym, ap, subst, ◌∙◌, arith}
use Rattle.std.specs.Prelude.{IfSome, ◌==◌}
use Rattle.std.specs.List.{AllByRecursion}
use Rattle.std.specs.Str.{bytes_eq}
use Rattle.std.proofs.lemmas.Bool.Decides.{nat_tests}
use Rattle.std.proofs.lemmas.List.{length-append}
use Rattle.std.proofs.lemmas.Slice.Eq.{bytes_eq-Decides}
use Rattle.std.specs.BTreeMap.{BTreeMap, get}
use Rattle.std.specs.Ordering.{nat_cmp}
use Rattle.std.specs.HashMap.{get_by_text}
use Rattle.std.specs.Global.{Vec}
use Rattle.task_ids.specs.declared.task_id.TaskId.{TaskId}
use Rattle.task_ids.specs.declared.doc.Doc.{Doc}
use Rattle.task_ids.specs.Placing.{shard_of}
use Rattle.task_events.specs.declared.event.Event.TheVariants.{Work as worked, Write}
use Rattle.task_events.specs.declared.request.WriteNote.{WriteNote}
use Rattle.task_events.specs.declared.step.Do.TheVariants.{Turn}
use Rattle.task_events.specs.Bans.{mark_of}
use Rattle.task_events.specs.Documents.{writes_of}
use Rattle.task_events.specs.Lawful.{AwaitsNoMark}
use Rattle.task_events.specs.Requests.{request_of}
use Rattle.task_events.specs.Same.{same_task}
use Rattle.task_events.specs.Tasks.{is_live, is_new}
use Rattle.task_events.specs.Written.{with_notes}
use Rattle.shard_docs.specs.ShardView.{ShardView}
use Rattle.shard_docs.specs.Shown.{ShowsFrom}
use Rattle.shard_docs.proofs.ShownMore.{shows_more}
use Rattle.task_work.specs.declared.work.Work.{Work}
use Rattle.task_work.specs.Reads.{WorkReadsFrom}
use Rattle.task_work.specs.Works.{IsWorkOn, next_of, place_of, docs_next, with_turn, work_notes}
use Rattle.task_work.proofs.Shown.{works_on_shown, notes_shown, turn_shown}
use Rattle.command_roots.specs.Roots.{scripted}
use Rattle.corpus_shards.specs.declared.Shards.{Shards}
use Rattle.corpus_shards.specs.Stored.{HasWritten, IsNotedAs, AllNoted, Replaces, shard_in, was_there, writes_in, lines_of}
use Rattle.corpus_shards.proofs.Appended.{appended, writes_append, writes_of_one}
use Rattle.node_parts.specs.declared.running.Running.{Running}
use Rattle.node_parts.specs.Running.{DoesNext}
use Rattle.world_moves.specs.declared.state.State.{State}
use Rattle.world_moves.specs.Cancelling.{Cancelling}
use Rattle.world_moves.specs.Cancels.{waiting_for}
use Rattle.world_moves.specs.Describing.{Describing}
use Rattle.world_moves.specs.Good.{own_writes, so_far}
use Rattle.world_moves.specs.Left.{HasLeft, left_in}
use Rattle.world_moves.specs.Paging.{Paging}
use Rattle.world_moves.specs.Ties.{IsTied, task_at, turned_in}
use Rattle.world_moves.proofs.KindLaws.{is_on}
use Rattle.world_moves.proofs.CancelsUntouched.{noted}
use Rattle.world_moves.proofs.DescriptionsAfter.{quiet}
use Rattle.world_moves.proofs.PagesAfter.{quiet_pages}
use Rattle.world_moves.proofs.QuietCounts.{still_counts}
use Rattle.world_moves.proofs.ReadsAfter.{notes_reads, reads_after}
use Rattle.world_moves.proofs.ReadsAbove.{work_reads}
use Rattle.world_moves.proofs.TurnsAfter as turns
use Rattle.world_moves.proofs.WritesAfter.{notes_keep}

module _ (s : State) (tied : IsTied s) (t : TaskId) (r : Running) (live : is_live t s.history ≡ true) (passed : is_new t s.history ≡ false) (unmarked : mark_of t s.history ≡ None) (here : task_at s.tasks t ≡ Some r)
    (does : DoesNext (task_at s.tasks t) s.clock Turn) where
  -- what its shard has before it
  abbrev own : List Doc
  own = turns.own s.cluster s.corpus.now s.script.now s.history (task_at s.tasks) s.tables.items s.flight tied.ties t s.clock r live passed unmarked here

  pub next : next_of r.work own s.clock ≡ Turn
  next = let laws = turns.laws s.cluster s.corpus.now s.script.now s.history (task_at s.tasks) s.tables.items s.flight tied.ties t s.clock r live passed unmarked here in subst (λ o. DoesNext o s.clock Turn) here does own (is_on laws)

  pub placed : place_of r.work ≡ None → ⊥
  placed none = turns.has_place s.cluster s.corpus.now s.script.now s.history (task_at s.tasks) s.tables.items s.flight tied.ties t s.clock r live passed unmarked here next none

  pub past_is : turned_in s t ≡ with_notes (work_notes r.work own) (worked t ∷ s.history)
  past_is = turns.past_is s.cluster s.corpus.now s.script.now s.history (task_at s.tasks) s.tables.items s.flight tied.ties t s.clock r live passed unmarked here

  -- it is the turn over a shard, as it was found: from where the task reads it, it shows what was written
  module _ (index : List ℕ) (number : ℕ) (place : place_of r.work ≡ Some (index, number)) (old new : Shards) (has : HasWritten (so_far s.corpus.now s.script.now s.history) s.cluster.shards tied.oldest old) where
    pub shard_there : IfSome (get_by_text old.by_index index) (λ list. number < length list.items)
    shard_there = of_list (get_by_text old.by_index index) (has.as_many index)
      where
        low : number < s.cluster.shards
        low = turns.shard_there s.cluster s.corpus.now s.script.now s.history (task_at s.tasks) s.tables.items s.flight tied.ties t s.clock r live passed unmarked here index number place

        of_list : (o : Option (Vec ShardView)) → IfSome o (λ list. length list.items ≡ s.cluster.shards) → IfSome o (λ list. number < length list.items)
        of_list None many = tt
        of_list (Some list) many = subst (λ n. number < n) (sym many) low

    abbrev from : ℕ
    from = tied.oldest index number

    own_is : own ≡ writes_of (so_far s.corpus.now s.script.now s.history) s.cluster.shards index number
    own_is = turns.own_at s.cluster s.corpus.now s.script.now s.history (task_at s.tasks) s.tables.items s.flight tied.ties t s.clock r live passed unmarked here index number place

    was_written : from ≤ length own
    was_written = subst (λ those. from ≤ length those) (sym own_is) (has.low index number)

    reads : WorkReadsFrom from r.work
    reads = work_reads s tied t live passed r here index number place

    module _ (found : List Doc) (there : found ≡ writes_in old index number) where
      shows : ShowsFrom from own found
      shows = subst (λ those. ShowsFrom from those found) (sym own_is) (subst (ShowsFrom from (writes_of (so_far s.corpus.now s.script.now s.history) s.cluster.shards index number)) (sym there) (has.each index number))

      pub works_on : IsWorkOn r.work found
      works_on = let laws = turns.laws s.cluster s.corpus.now s.script.now s.history (task_at s.tasks) s.tables.items s.flight tied.ties t s.clock r live passed unmarked here in works_on_shown from own found shows was_written r.work reads (is_on laws)

      -- it takes a turn over it
      pub turns_over : (now : ℕ) × (next_of r.work found now ≡ Turn)
      turns_over = (s.clock, subst (λ o. DoesNext o s.clock Turn) here does found works_on)

      pub noted_is : (notes : List WriteNote) → notes ≡ work_notes r.work found → turned_in s t ≡ with_notes notes (worked t ∷ s.history)
      noted_is notes are = past_is ∙ ap (λ those. with_notes those (worked t ∷ s.history)) (sym (are ∙ notes_shown from own found shows was_written r.work))

      module _ (w : Work) (left : ShardView) (turned : w ≡ with_turn r.work found) (written : left.writes ≡ found ++ docs_next r.work) (kept : left.oldest ≡ (shard_in old index number).oldest) (few : length left.writes < 2 ^ 32)
          (replaces : Replaces index number left old new) (from_start : (q : List ℕ) → was_there old q ≡ was_there s.shards q) (marked : Shards) (as_new : IsNotedAs new marked) (all_noted : AllNoted marked)
          (after : BTreeMap TaskId Running) (now_here : task_at after t ≡ Some (record r { work = w })) (others : (q : TaskId) → same_task t q ≡ false → task_at after q ≡ task_at s.tasks q) where
        in_shard : AllByRecursion (λ doc. shard_of doc.id s.cluster.shards ≡ number) (docs_next r.work)
        in_shard = turns.in_its_shard s.cluster s.corpus.now s.script.now s.history (task_at s.tasks) s.tables.items s.flight tied.ties t s.clock r live passed unmarked here index number place

        has_later : HasWritten (so_far s.corpus.now s.script.now (with_notes (work_notes r.work own) (worked t ∷ s.history))) s.cluster.shards tied.oldest marked
        has_later = as_new.written _ s.cluster.shards tied.oldest
            (subst (λ now. HasWritten now s.cluster.shards tied.oldest new) (sym (turns.later_is s.cluster s.corpus.now s.script.now s.history (task_at s.tasks) s.tables.items s.flight tied.ties t s.clock r live passed unmarked here index number place))
            (appended (so_far s.corpus.now s.script.now s.history) s.cluster.shards tied.oldest old new index number (docs_next r.work) has left replaces
            (written ∙ ap (λ those. those ++ docs_next r.work) there)
            kept
            in_shard
            (subst (λ (v : ShardView). length v.writes < 2 ^ 32) (sym replaces.here) few)))

        turned_own : w ≡ with_turn r.work own
        turned_own = turned ∙ turn_shown from own found shows was_written r.work reads

        -- what lies in its shard then
        shard_later : own_writes s.cluster (so_far s.corpus.now s.script.now (with_notes (work_notes r.work own) (worked t ∷ s.history))) (request_of (scripted s.script.now) t s.history) ≡ own ++ docs_next r.work
        shard_later =
            let here_too : (bytes_eq index index && (number == number)) ≡ true = rw ((bytes_eq-Decides index index).1 refl) (grind (arith, nat_tests)) in
            turns.own_later s.cluster s.corpus.now s.script.now s.history (task_at s.tasks) s.tables.items s.flight tied.ties t s.clock r live passed unmarked here index number place
            ∙ ap (λ now. writes_of now s.cluster.shards index number) (turns.later_is s.cluster s.corpus.now s.script.now s.history (task_at s.tasks) s.tables.items s.flight tied.ties t s.clock r live passed unmarked here index number place)
            ∙ writes_append (so_far s.corpus.now s.script.now s.history).lines (lines_of index (docs_next r.work)) s.cluster.shards index number
            ∙ ap (λ those. those ++ writes_of (record { lines = lines_of index (docs_next r.work) }) s.cluster.shards index number) (sym own_is)
            ∙ ap (λ those. own ++ those) (writes_of_one index (docs_next r.work) s.cluster.shards number index number in_shard ∙ ap (λ b. cond b (docs_next r.work) []) here_too)

        tied_so : IsTied (record s { shards = marked; history = with_notes (work_notes r.work own) (worked t ∷ s.history); tasks = after })
        tied_so = record {
          ties = turns.after_work s.cluster s.corpus.now s.script.now s.history (task_at s.tasks) s.tables.items s.flight tied.ties t s.clock r live passed unmarked here
              (turns.grows_so s.cluster s.corpus.now s.script.now s.history (task_at s.tasks) s.tables.items s.flight tied.ties t s.clock r live passed unmarked here index number place)
              w next turned_own shard_later
              tied.awaits (task_at after) now_here others;
          cancels = notes_keep (λ g. Cancelling s.cluster (λ u. waiting_for u g) g s.tables.items (get nat_cmp s.roots) s.bans.items s.cores.items s.listings)
              (λ i k outcome id g known. noted s.cluster (λ u. waiting_for u g) g _ _ _ _ _ known (Write i k outcome id) refl refl) (work_notes r.work own) (worked t ∷ s.history)
              (noted s.cluster (λ u. waiting_for u s.history) s.history _ _ _ _ _ tied.cancels (worked t) refl refl);
          counts = notes_keep (λ g. HasLeft None g (left_in s.left)) (λ i k outcome id g counts. still_counts None (Write i k outcome id) g _ refl counts) (work_notes r.work own) (worked t ∷ s.history)
              (still_counts None (worked t) s.history _ refl tied.counts);
          tells = notes_keep (λ g. Describing s.script.now g s.tables.items s.flight s.clock) (λ i k outcome id g tells. quiet s.script.now g _ _ _ (Write i k outcome id) refl tells) (work_notes r.work own) (worked t ∷ s.history)
              (quiet s.script.now s.history _ _ _ (worked t) refl tied.tells);
          pages = notes_keep (λ g. Paging s.cluster s.corpus.now s.script.now g s.contexts.items)
              (λ i k outcome id g pages. quiet_pages s.cluster s.corpus.now s.script.now g s.contexts.items pages (Write i k outcome id) refl) (work_notes r.work own) (worked t ∷ s.history)
              (quiet_pages s.cluster s.corpus.now s.script.now s.history s.contexts.items tied.pages (worked t) refl);
          shards = record { has = has_later; from_start = λ q. as_new.from_start q ∙ replaces.from_start q ∙ from_start q ∙ tied.shards.from_start q; noted = all_noted };
          awaits = notes_keep AwaitsNoMark (λ i k outcome id g awaits. tt) (work_notes r.work own) (worked t ∷ s.history) tt;
          oldest = tied.oldest;
          reads = notes_reads tied.oldest s.cluster s.corpus.now s.script.now (work_notes r.work own) (worked t ∷ s.history) (reads_after tied.oldest s.cluster s.corpus.now s.script.now s.history tied.reads tied.ties.lawful (worked t) tt);
        }

        pub turn_tied : IsTied (record s { shards = marked; history = turned_in s t; tasks = after })
        turn_tied = subst (λ past. IsTied (record s { shards = marked; history = past; tasks = after })) (sym past_is) tied_so
