use Rattle.std.proofs.Common.{◌≡◌, ◌∙◌, ◌∷◌, [], ◌-◌, ◌+◌, Some, refl, ap, sym, subst, arith}
use Rattle.std.specs.Prelude.{slice_set}
use Rattle.std.specs.Option.{option_copied_mut}
use Rattle.std.proofs.lemmas.Option.{slice_get_within}
use Rattle.child_track.specs.NodeSet.{nodes_of}
use Rattle.cancel_core.specs.Acts.{begun}
use Rattle.cancel_core.specs.Cancellations.{with_entry}
use Rattle.task_table.specs.Answer.{after_mark as table_after}
use Rattle.task_events.specs.Lawful.{AwaitsNoMark, Lawful}
use Rattle.command_roots.specs.Roots.{scripted}
use Rattle.world_moves.specs.Owning.{OneAtATime}
use Rattle.world_moves.specs.Plain.{AnswersPlainly}
use Rattle.task_events.specs.declared.event.Event.TheVariants.{Mark}
use Rattle.task_laws.proofs.Reach.{reach_facts}
use Rattle.world_moves.specs.Acts.{messages_in}
use Rattle.world_moves.specs.Cancelling.{HasRows}
use Rattle.world_moves.specs.Ties.{task_at, IsTableAt}
use Rattle.world_moves.proofs.DescriptionsAfter.{described_with, rows_marked, carry_both, acts_carry}
use Rattle.world_moves.proofs.NodesAsked.{asked_nodes}
use Rattle.world_moves.proofs.KeptTasks.{at_changed, off_changed}
use Rattle.world_moves.proofs.LiveRows.{read_at}
use Rattle.world_moves.proofs.MarksAfter.{marks_row, after_mark, cancels_after_mark, mark_counted, mark_queue}
use Rattle.world_moves.proofs.NodeTables.{core_at, fresh, same_cancels}
use Rattle.corpus_shards.proofs.Cases.{some_of, on_err}
use Rattle.world_moves.proofs.SameTies.{same_ties}
use Rattle.world_moves.proofs.StepsAfter.{is_kept, kept_running}
use Rattle.world_moves.proofs.Tables.{table_of, node_has_table}
use Rattle.world_moves.proofs.PagesAfter.{quiet_pages}
use Rattle.command_roots.specs.Roots.{scripted}
use Rattle.world_moves.specs.Owning.{OneAtATime}
use Rattle.world_moves.proofs.ReadsAfter.{reads_after}
use Rattle.world_moves.proofs.marks.mark.Goals as goal

pub unreachable-requires : goal.unreachable-requires
unreachable-requires c =
    let s = c.args.state.now in
    is_kept s.cluster s.corpus.now s.script.now s.history _ _ _ c.requires.ties c.args.task c.requires.lawful.0.live (sym c.get_mut.ensures.value ∙ ap option_copied_mut c.in_default.is)

pub index_mut-requires : goal.index_mut-requires
index_mut-requires c =
    let s = c.args.state.now in
    let low = c.args.task.node_in_range.0 in
    let high = (reach_facts s.cluster s.history c.requires.ties.lawful).live_in c.args.task c.requires.lawful.0.live in
    let many = node_has_table s.cluster s.history s.tables.items c.requires.ties.listed c.args.task.node low high in
    omega (arith, low, many)

pub index_mut-requires-2 : goal.index_mut-requires-2
index_mut-requires-2 c =
    let s = c.args.state.now in
    let t = c.args.task in
    let low = t.node_in_range.0 in
    let high = (reach_facts s.cluster s.history c.requires.ties.lawful).live_in t c.requires.lawful.0.live in
    let core = core_at s.cluster _ s.history _ _ _ _ _ c.requires.cancels t.node low high in
    let within = slice_get_within s.cores.items (t.node - 1) core.0 core.1 in
    omega (arith, within, s.cores.ok.0)

pub begin-requires-clause-fresh : goal.begin-requires-clause-fresh
begin-requires-clause-fresh c =
    let s = c.args.state.now in
    let t = c.args.task in
    let low = t.node_in_range.0 in
    let high = (reach_facts s.cluster s.history c.requires.ties.lawful).live_in t c.requires.lawful.0.live in
    let core = core_at s.cluster _ s.history _ _ _ _ _ c.requires.cancels t.node low high in
    let within = slice_get_within s.cores.items (t.node - 1) core.0 core.1 in
    fresh s.cluster _ s.history _ _ _ _ _ c.requires.cancels t _ c.requires.lawful.0.unmarked (read_at s.cores.items (t.node - 1) c.index_mut-2.result.now within c.index_mut-2.ensures.value)

pub returns-then-len-eq-MAX_EVENTS-clause-part : goal.returns-then-len-eq-MAX_EVENTS-clause-part
returns-then-len-eq-MAX_EVENTS-clause-part c = (Mark c.args.task c.args.cancel ∷ [], [], refl, refl)

pub returns-in_default-begin-clause-part : goal.returns-in_default-begin-clause-part
returns-in_default-begin-clause-part c = (Mark c.args.task c.args.cancel ∷ [], [], refl, refl)

pub returns-in_err-append-clause-part : goal.returns-in_err-append-clause-part
returns-in_err-append-clause-part c =
    let same = c.in_err-append.ensures.err in
    on_err c.from_residual.result _ (Mark c.args.task c.args.cancel ∷ [], [], ap (λ h. Mark c.args.task c.args.cancel ∷ h) (sym same), same)

pub returns-in-Err-clause-part : goal.returns-in-Err-clause-part
returns-in-Err-clause-part c = ([], Mark c.args.task c.args.cancel ∷ [], sym c.in_ok-append.ensures.ok, c.in_ok-append.ensures.ok)

pub returns-in-Err-clause-laws : goal.returns-in-Err-clause-laws
returns-in-Err-clause-laws c =
    let s = c.args.state.now in
    record {
      lawful = subst (Lawful s.cluster) (sym c.in_ok-append.ensures.ok) c.requires.lawful;
      plain = subst (AnswersPlainly s.cluster s.corpus.now s.script.now) (sym c.in_ok-append.ensures.ok) c.requires.ties.plain;
      alone = subst (OneAtATime (scripted s.script.now)) (sym c.in_ok-append.ensures.ok) c.requires.pages.alone;
    }

pub returns-clause-tied : goal.returns-clause-tied
returns-clause-tied c =
    let s = c.args.state.now in
    let t = c.args.task in
    let r = c.get_mut-running.result.now in
    let was = sym c.get_mut.ensures.value ∙ ap option_copied_mut c.in-Some.is ∙ ap Some (sym c.get_mut-running.ensures.value) in
    let track = (kept_running s.cluster s.corpus.now s.script.now s.history _ _ _ c.requires.ties t c.requires.lawful.0.live r was).track in
    let nodes = asked_nodes s.cluster t s.history c.requires.ties.lawful c.close-asked.result r.track c.close-asked.ensures.nodes (ap (λ track. track.asks) track) in
    let past = c.in_ok-append.ensures.ok in
    let done = c.as_slice-done.result.now in
    let acts = c.as_slice-done.ensures.value ∙ c.in-Ok.ensures.acts in
    let low = t.node_in_range.0 in
    let high = (reach_facts s.cluster s.history c.requires.ties.lawful).live_in t c.requires.lawful.0.live in
    let core = core_at s.cluster _ s.history _ _ _ _ _ c.requires.cancels t.node low high in
    let within = slice_get_within s.cores.items (t.node - 1) core.0 core.1 in
    let w = record r { track = c.close-asked.new.self } in
    let changed = ((c.get_mut.follows.holds w).3 (some_of _ _ was)).0 in
    let here = at_changed t (Some w) (task_at s.tasks) _ changed ∙ ap (λ track. Some (record r { track = track })) c.close-asked.ensures.closed in
    let others = off_changed t (Some w) (task_at s.tasks) _ changed in
    let its = table_of s.cluster s.history s.tables.items c.requires.ties.listed t.node low high in
    let row = read_at s.tables.items (t.node - 1) c.index_mut.result.now (slice_get_within s.tables.items (t.node - 1) its.0 its.1) c.index_mut.ensures.value in
    let queue = mark_queue s.cluster t c.args.cancel s.history c.requires.lawful (nodes_of c.close-asked.result) done t.node c.args.waiter nodes acts in
    let node : (t.node - 1) + 1 ≡ t.node = omega (arith, low) in
    let fits = subst (IsTableAt s.cluster (t.node - 1) s.history) row (c.requires.ties.listed (t.node - 1)) in
    let rows = subst (HasRows s.history) row (c.requires.cancels.rows_are (t.node - 1)) in
    let marked = c.mark-marked.ensures.answer ∙ marks_row s.cluster t c.args.cancel s.history c.requires.lawful (t.node - 1) c.index_mut.result.now node fits rows in
    let table = c.mark-marked.ensures.after ∙ ap (λ m. table_after m c.index_mut.result.now t.number c.args.cancel) marked in
    let tables = ap (slice_set s.tables.items (t.node - 1)) table in
    let its_core = read_at s.cores.items (t.node - 1) c.index_mut-2.result.now within c.index_mut-2.ensures.value in
    let cores = ap (slice_set s.cores.items (t.node - 1)) (c.in-Ok.ensures.begun ∙ ap (λ ns. with_entry c.index_mut-2.result.now t (Some (begun c.args.cancel ns c.args.waiter))) nodes) in
    let sent = c.in-Ok-send_all.ensures.sent in
    record {
      ties = same_ties s.cluster s.corpus.now s.script.now _ _ _ _ _ _ _ past tables sent
          (after_mark s.cluster t c.args.cancel s.history c.requires.lawful s.corpus.now s.script.now (task_at s.tasks) _ s.tables.items c.index_mut.result.now s.flight (messages_in t.node done) r
          c.requires.ties was here others row queue c.requires.number);
      cancels = same_cancels s.cluster _ _ _ _ _ _ _ _ _ past tables cores
          (cancels_after_mark s.cluster t c.args.cancel s.history c.requires.lawful s.tables.items c.index_mut.result.now _ s.bans.items s.cores.items c.index_mut-2.result.now s.listings c.args.waiter
          c.requires.cancels c.requires.ties.listed row its_core c.requires.waiting c.requires.wait);
      counts = rw past (mark_counted s.cluster t c.args.cancel s.history c.requires.lawful (nodes_of c.close-asked.result) done c.args.waiter _ _ nodes acts c.requires.waiting c.requires.wait c.count_down.ensures c.requires.counts);
      tells = rw (past, tables, sent) (described_with s.script.now s.history s.tables.items s.flight _ (Mark t c.args.cancel) _ _ refl
          (rows_marked s.script.now s.history s.tables.items (t.node - 1) t.number c.args.cancel c.index_mut.result.now row c.requires.tells.rows_are)
          (carry_both s.script.now s.history s.flight _ c.requires.tells.carried (acts_carry s.script.now s.history t.node done)) c.requires.tells);
      pages = rw past (quiet_pages s.cluster s.corpus.now s.script.now s.history s.contexts.items c.requires.pages (Mark t c.args.cancel) refl);
      shards = rw past c.requires.shards.1;
      awaits = subst AwaitsNoMark (sym past) tt;
      oldest = c.requires.shards.0;
      reads = rw past (reads_after c.requires.shards.0 s.cluster s.corpus.now s.script.now s.history c.requires.shards.2 c.requires.ties.lawful (Mark t c.args.cancel) tt);
    }
