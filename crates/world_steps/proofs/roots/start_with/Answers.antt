use Rattle.std.proofs.Common.{◌≡◌, ◌∙◌, ◌∷◌, ℕ, Option, Some, None, Err, refl, ap, sym, subst, cond, false, rules, length, Bool, true, arith}
use Rattle.std.specs.Prelude.{is_some}
use Rattle.std.specs.BTreeMap.{is_at, get}
use Rattle.std.specs.Ordering.{nat_cmp}
use Rattle.task_ids.specs.declared.task_id.TaskId.{TaskId}
use Rattle.task_ids.specs.TaskIdOrder.{task_id_cmp}
use Rattle.task_table.specs.declared.ended.PutError.TheVariants.{Full, NumbersSpent}
use Rattle.child_track.specs.Token.{Token}
use Rattle.task_events.specs.declared.event.Event.TheVariants.{Root, RootRejected}
use Rattle.task_events.specs.declared.stop.Stop.TheVariants as Stop
use Rattle.node_parts.specs.declared.running.Running.{Running}
use Rattle.task_events.specs.Lawful.{AwaitsNoMark}
use Rattle.world_moves.specs.Cancels.{waiting_for}
use Rattle.world_moves.specs.Ties.{task_at}
use Rattle.world_moves.proofs.KeptTasks.{at_changed, off_changed}
use Rattle.world_steps.proofs.RootsAfter.{starts_root, after_taking, after_root_rejected}
use Rattle.world_moves.proofs.SameTies.{same_ties, same_cancels}
use Rattle.world_moves.proofs.FirstRuns.{first}
use Rattle.world_moves.proofs.CancelsAfterStart.{noted_root}
use Rattle.world_moves.proofs.Tables.{IsPutOn, node_has_table, no_slot, no_number}
use Rattle.world_moves.proofs.CancelsUntouched.{noted}
use Rattle.world_moves.proofs.DescriptionsAfter.{longer, quiet}
use Rattle.world_moves.specs.Describing.{longest_tick}
use Rattle.world_moves.specs.Good.{so_far}
use Rattle.world_moves.proofs.DescriptionsStart.{new_number, rows_root, carried_root}
use Rattle.world_moves.proofs.QuietCounts.{still_counts}
use Rattle.task_events.specs.declared.history.TheConstants.{MAX_EVENTS}
use Rattle.world_moves.specs.Moves.{Starts}
use Rattle.world_moves.proofs.CutShort.{cut_only}
use Rattle.task_events.specs.Contexts.{after_taking as taken_root, asked_page}
use Rattle.world_moves.specs.Paging.{context_in}
use Rattle.world_moves.proofs.AllKinds.{IsPageOf}
use Rattle.world_moves.proofs.PagesAfter.{quiet_pages}
use Rattle.world_moves.proofs.PagesMoved.{rooted_pages}
use Rattle.world_moves.proofs.Lent.{copied_alike}
use Rattle.world_steps.proofs.PagesStart.{page_given, page_sound, page_there, take_usable, takes_free}
use Rattle.world_moves.proofs.ReadsAfter.{reads_after}
use Rattle.world_steps.proofs.roots.start_with.Goals as goal

pub put_on-requires-clause-high : goal.put_on-requires-clause-high
put_on-requires-clause-high c =
    let s = c.args.state.now in
    node_has_table s.cluster s.history s.tables.items c.requires.tied.ties.listed c.args.node c.requires.low c.requires.high

pub with_work-requires : goal.with_work-requires
with_work-requires c =
    let s = c.args.state.now in
    record { given = sym (copied_alike c.page_asked-page.result) ∙ ap is_some (c.page_asked-page.ensures ∙ ap (λ tables. asked_page (λ id. context_in tables id) (Some c.args.request.now)) c.as_slice.ensures.value) ∙ sym (page_given s.cluster s.corpus.now s.script.now s.history s.contexts.items c.requires.tied.pages c.requires.tied.ties.lawful s.clock c.args.request.now c.requires.usable) }

pub returns-in_ok-keep_root-in-Ok-clause-started : goal.returns-in_ok-keep_root-in-Ok-clause-started
returns-in_ok-keep_root-in-Ok-clause-started c =
    let s = c.args.state.now in
    let t = c.in-Ok.ticket.id in
    let put : IsPutOn s.tables.items c.args.node t c.in_ok-root.root c.put_on.new.tables.items = record { id = c.in-Ok.ensures.id; row = c.in-Ok.ensures.row; free = c.in-Ok.ensures.free } in
    let here : c.in_ok-running-in-Ok.running.ticket.id ≡ t = ap (λ (r : Running). r.ticket.id) c.in_ok-running-in-Ok.ensures.running in
    let happened = c.in_ok-keep_root-in-Ok.ensures.happened ∙ ap (λ (x : TaskId). Root c.args.command x ∷ s.history) here in
    (Root c.args.command t, starts_root s.cluster s.corpus.now s.script.now s.history (task_at s.tasks) s.tables.items s.flight c.requires.tied.ties c.requires.tied.awaits c.args.command c.args.node c.requires.begun c.requires.low c.requires.high t _ _ put, happened)

pub returns-in_ok-keep_root-in-Ok-clause-tied : goal.returns-in_ok-keep_root-in-Ok-clause-tied
returns-in_ok-keep_root-in-Ok-clause-tied c =
    let s = c.args.state.now in
    let t = c.in-Ok.ticket.id in
    let running = c.in_ok-running-in-Ok.running in
    let put : IsPutOn s.tables.items c.args.node t c.in_ok-root.root c.put_on.new.tables.items = record { id = c.in-Ok.ensures.id; row = c.in-Ok.ensures.row; free = c.in-Ok.ensures.free } in
    let headers = c.in_ok-headers.headers in
    let carried = c.in_ok-headers.ensures.headers in
    let is : running ≡ first t None false c.args.request.now running.work headers = c.in_ok-running-in-Ok.ensures.running
    ∙ ap (λ (o : Option Token). first t o false c.args.request.now running.work headers) c.in-Ok.ensures.token in
    let pages = c.requires.tied.pages in
    let shows = c.page_asked-page.ensures ∙ ap (λ tables. asked_page (λ id. context_in tables id) (Some c.args.request.now)) c.as_slice.ensures.value ∙ page_there s.cluster s.corpus.now s.script.now s.history s.contexts.items pages c.requires.tied.ties.lawful c.args.request.now in
    let sound = subst (λ o. IsPageOf s.cluster (so_far s.corpus.now s.script.now s.history) o c.args.request.now) (sym shows) (page_sound s.cluster s.corpus.now s.script.now s.history s.contexts.items pages c.requires.tied.ties.lawful c.args.request.now) in
    let here = ap (λ (r : Running). r.ticket.id) is in
    let happened : c.keep_root.new.history ≡ Root c.args.command t ∷ s.history = c.in_ok-keep_root-in-Ok.ensures.happened ∙ ap (λ (x : TaskId). Root c.args.command x ∷ s.history) here in
    let changed = subst (λ (k : TaskId). (q : TaskId) → task_at c.keep_root.new.tasks q ≡ cond (is_at (task_id_cmp k) q) (Some running) (task_at s.tasks q)) here c.in_ok-keep_root-in-Ok.ensures.kept in
    let noted = subst (λ (x : TaskId). (k : ℕ) → get nat_cmp c.keep_root.new.roots k ≡ cond (is_at (nat_cmp c.args.command) k) (Some x) (get nat_cmp s.roots k)) here c.in_ok-keep_root-in-Ok.ensures.noted in
    let tied = after_taking s.cluster s.corpus.now s.script.now s.history (task_at s.tasks) s.tables.items s.flight c.requires.tied.ties c.requires.tied.awaits c.args.command c.args.node c.requires.begun c.requires.low c.requires.high t _ _ put
    c.args.request.now _ headers running (task_at c.keep_root.new.tasks) c.requires.asked carried shows sound is c.in_ok-running-in-Ok.ensures.work (at_changed t (Some running) (task_at s.tasks) _ changed) (off_changed t (Some running) (task_at s.tasks) _ changed) in
    record {
      ties = same_ties s.cluster s.corpus.now s.script.now (task_at c.keep_root.new.tasks) _ _ _ _ _ _ happened refl refl
          tied;
      cancels = same_cancels s.cluster _ _ _ _ _ _ _ _ happened refl
          (noted_root s.cluster s.history s.tables.items c.requires.tied.ties.listed c.args.node c.requires.low c.requires.high t _ _ put c.requires.tied.ties.lawful (λ t. waiting_for t s.history) _ _ _ _ c.requires.tied.cancels c.args.command _ (ap (λ x. x.parent) c.in_ok-root.ensures.task) noted);
      counts = rw happened (still_counts None (Root c.args.command t) s.history _ refl c.requires.tied.counts);
      tells = rw happened (record {
        rows_are = rows_root s.cluster s.script.now s.history s.tables.items c.requires.tied.ties.listed c.args.node c.requires.low c.requires.high t _ _ put c.requires.tied.ties.lawful
            c.args.command c.args.request.now s.clock headers c.in_ok-root.ensures.task c.requires.asked c.requires.tied.tells.clock_is carried c.requires.tied.tells.rows_are;
        carried = carried_root s.cluster s.corpus.now s.script.now s.history _ _ s.flight c.requires.tied.ties t
            (new_number s.cluster s.script.now s.history s.tables.items c.requires.tied.ties.listed c.args.node c.requires.low c.requires.high t _ _ put c.requires.tied.ties.lawful) c.requires.tied.tells.carried c.args.command;
        clock_is = c.requires.tied.tells.clock_is;
        clock_low = c.requires.tied.tells.clock_low;
        clock_high = longer longest_tick s.clock (length s.history) (length (Root c.args.command t ∷ s.history)) (omega arith) c.requires.tied.tells.clock_high;
        clock_fits = c.requires.tied.tells.clock_fits;
        few_begun = c.requires.tied.tells.few_begun;
      });
      pages = rw happened (rooted_pages s.cluster s.corpus.now s.script.now s.history s.contexts.items pages c.requires.tied.ties.lawful t (Some c.args.request.now)
          (take_usable s.cluster s.corpus.now s.script.now s.history s.contexts.items pages c.requires.tied.ties.lawful s.clock c.args.request.now c.requires.usable)
          c.take.new.contexts.items c.take.ensures.as_many
          (λ q. c.take.ensures.taken q ∙ (λ i. taken_root (c.requires.tied.tells.clock_is i) (c.id-task.ensures i) (Some c.args.request.now) q (context_in s.contexts.items q)))
          c.args.command c.requires.asked (takes_free s.cluster s.corpus.now s.script.now s.history s.contexts.items pages c.requires.tied.ties.lawful s.clock c.args.command c.args.request.now c.requires.asked c.requires.usable) tied.lawful.0);
      shards = rw happened c.requires.tied.shards;
      awaits = subst AwaitsNoMark (sym happened) tt;
      oldest = c.requires.tied.oldest;
      reads = rw happened (reads_after c.requires.tied.oldest s.cluster s.corpus.now s.script.now s.history c.requires.tied.reads c.requires.tied.ties.lawful (Root c.args.command t) tied.lawful.0.takes.next);
    }

pub returns-in-Ok-reject_root-clause-started : goal.returns-in-Ok-reject_root-clause-started
returns-in-Ok-reject_root-clause-started c =
    let s = c.args.state.now in
    let refused = c.in-Ok-reject_root.ensures.no_slot ∙ ap Full c.in-Err.ensures.given_back in
    let full = no_slot s.cluster s.history s.tables.items c.requires.tied.ties.listed c.args.node c.requires.low c.requires.high c.requires.tied.ties.lawful (λ table e. c.in-Err.ensures.full table e (ap Err refused)) in
    (RootRejected c.args.command c.args.node, (full, refl, refl), c.in-Ok-reject_root.ensures.happened)

pub returns-in-Ok-reject_root-clause-tied : goal.returns-in-Ok-reject_root-clause-tied
returns-in-Ok-reject_root-clause-tied c =
    let s = c.args.state.now in
    let refused = c.in-Ok-reject_root.ensures.no_slot ∙ ap Full c.in-Err.ensures.given_back in
    let full = no_slot s.cluster s.history s.tables.items c.requires.tied.ties.listed c.args.node c.requires.low c.requires.high c.requires.tied.ties.lawful (λ table e. c.in-Err.ensures.full table e (ap Err refused)) in
    let happened = c.in-Ok-reject_root.ensures.happened in
    record {
      ties = same_ties s.cluster s.corpus.now s.script.now (task_at s.tasks) _ _ _ _ _ _ happened c.in-Err.ensures.err refl
          (after_root_rejected s.cluster s.corpus.now s.script.now s.history (task_at s.tasks) s.tables.items s.flight c.requires.tied.ties c.requires.tied.awaits c.args.command c.args.node c.requires.begun c.requires.low c.requires.high full);
      cancels = same_cancels s.cluster _ _ _ _ _ _ _ _ happened c.in-Err.ensures.err (noted s.cluster (λ t. waiting_for t s.history) s.history _ _ _ _ _ c.requires.tied.cancels (RootRejected c.args.command c.args.node) refl refl);
      counts = rw happened (still_counts None (RootRejected c.args.command c.args.node) s.history _ refl c.requires.tied.counts);
      tells = rw (happened, c.in-Err.ensures.err) (quiet s.script.now s.history s.tables.items s.flight s.clock (RootRejected c.args.command c.args.node) refl c.requires.tied.tells);
      pages = rw happened (quiet_pages s.cluster s.corpus.now s.script.now s.history s.contexts.items c.requires.tied.pages (RootRejected c.args.command c.args.node) refl);
      shards = rw happened c.requires.tied.shards;
      awaits = subst AwaitsNoMark (sym happened) tt;
      oldest = c.requires.tied.oldest;
      reads = rw happened (reads_after c.requires.tied.oldest s.cluster s.corpus.now s.script.now s.history c.requires.tied.reads c.requires.tied.ties.lawful (RootRejected c.args.command c.args.node) tt);
    }

pub returns-in-Err-reject_root-clause-spent : goal.returns-in-Err-reject_root-clause-spent
returns-in-Err-reject_root-clause-spent c = λ e.
    let s = c.args.state.now in
    let spent : c.in-Err-reject_root.stop ≡ Stop.NumbersSpent = cc in
    let refused = c.in-Err-reject_root.ensures.spent (ap Err spent) ∙ ap NumbersSpent c.in-Err.ensures.given_back in
    no_number s.cluster s.history s.tables.items c.requires.tied.ties.listed c.args.node c.requires.low c.requires.high c.requires.tied.ties.lawful (λ table e. c.in-Err.ensures.spent table e (ap Err refused))

pub returns-in_err-keep_root-in-Ok-clause-full : goal.returns-in_err-keep_root-in-Ok-clause-full
returns-in_err-keep_root-in-Ok-clause-full c = λ failed.
    let s = c.args.state.now in
    let t = c.in-Ok.ticket.id in
    let put : IsPutOn s.tables.items c.args.node t c.in_ok-root.root c.put_on.new.tables.items = record { id = c.in-Ok.ensures.id; row = c.in-Ok.ensures.row; free = c.in-Ok.ensures.free } in
    let full : length s.history ≡ MAX_EVENTS = search rules in
    cut_only (λ h new. (started : Bool) × Starts s.cluster h c.args.command c.args.node started new) s.history c.keep_root.new.history (Root c.args.command t)
    (true, (Root c.args.command t, starts_root s.cluster s.corpus.now s.script.now s.history (task_at s.tasks) s.tables.items s.flight c.requires.tied.ties c.requires.tied.awaits c.args.command c.args.node c.requires.begun c.requires.low c.requires.high t _ _ put, refl))
    full c.in_err-keep_root-in-Ok.ensures.err

pub returns-in-Err-reject_root-clause-full : goal.returns-in-Err-reject_root-clause-full
returns-in-Err-reject_root-clause-full c = λ failed.
    let s = c.args.state.now in
    let cut : c.in-Err-reject_root.stop ≡ Stop.HistoryFull = cc in
    let found = c.in-Err-reject_root.ensures.full (ap Err cut) in
    let refused = found.1 ∙ ap Full c.in-Err.ensures.given_back in
    let full = no_slot s.cluster s.history s.tables.items c.requires.tied.ties.listed c.args.node c.requires.low c.requires.high c.requires.tied.ties.lawful (λ table e. c.in-Err.ensures.full table e (ap Err refused)) in
    cut_only (λ h new. (started : Bool) × Starts s.cluster h c.args.command c.args.node started new) s.history c.reject_root.new.history (RootRejected c.args.command c.args.node)
    (false, (RootRejected c.args.command c.args.node, (full, refl, refl), refl)) found.0 c.in-Err-reject_root.ensures.err
