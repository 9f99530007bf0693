use Rattle.std.proofs.Common.{◌∙◌, ◌-◌, ◌++◌, None, refl, ap, sym, arith}
use Rattle.std.specs.Prelude.{slice_set}
use Rattle.task_table.specs.Table.{without_task}
use Rattle.task_events.specs.declared.event.Event.TheVariants.{End}
use Rattle.task_events.specs.Requests.{request_of}
use Rattle.command_roots.specs.Roots.{scripted}
use Rattle.world_moves.specs.Flights.{told_parent}
use Rattle.world_moves.specs.Ties.{task_at}
use Rattle.world_moves.proofs.OpensAbove.{opened_above, top_above}
use Rattle.world_moves.proofs.KeptTasks.{at_changed, off_changed}
use Rattle.world_moves.proofs.SameTies.{same_ties}
use Rattle.world_moves.proofs.StepsAfter.{is_kept}
use Rattle.world_moves.proofs.EndsAfter.{after_finish, all_come, step}
use Rattle.task_laws.proofs.Reach.{reach_facts}
use Rattle.world_moves.proofs.CancelsAfterLeave.{noted_unmarked, counts_unmarked}
use Rattle.world_moves.proofs.DescriptionsAfter.{described_with, rows_left, carry_both, told_carries}
use Rattle.world_moves.proofs.NodeTables.{nobody_waits}
use Rattle.world_moves.proofs.PagesLeft.{in_use, there, none_yet, opens_alone, fits, finished_pages}
use Rattle.world_moves.proofs.TasksAfterLeave.{nothing_open, own_track, has_table, table_is, stands, runs}
use Rattle.corpus_shards.proofs.Cases.{then_ok}
use Rattle.world_moves.proofs.ReadsAfter.{RepliesFrom, reads_after}
use Rattle.world_moves.proofs.ends.finish.Goals as goal

pub unreachable-requires : goal.unreachable-requires
unreachable-requires c =
    let s = c.args.state.now in
    is_kept s.cluster s.corpus.now s.script.now s.history _ _ _ c.requires.tied.ties c.args.task c.requires.live (sym c.remove.ensures.value ∙ c.in_default.is)

pub note_end-requires-clause-used : goal.note_end-requires-clause-used
note_end-requires-clause-used c =
    let s = c.args.state.now in
    let was = sym c.remove.ensures.value ∙ c.in-Some.is in
    in_use s.cluster s.corpus.now s.script.now s.history _ _ _ c.requires.tied.ties s.contexts.items c.requires.tied.pages c.args.task c.requires.live c.in-Some.running was

pub note_end-requires-clause-there : goal.note_end-requires-clause-there
note_end-requires-clause-there c =
    let s = c.args.state.now in
    let was = sym c.remove.ensures.value ∙ c.in-Some.is in
    there s.cluster s.corpus.now s.script.now s.history _ _ _ c.requires.tied.ties s.contexts.items c.requires.tied.pages c.args.task c.requires.live c.in-Some.running was

pub note_end-requires-clause-fits : goal.note_end-requires-clause-fits
note_end-requires-clause-fits c =
    let s = c.args.state.now in
    let r = c.in-Some.running in
    let was = sym c.remove.ensures.value ∙ c.in-Some.is in
    let next = rw was at c.requires.next in
    fits s.cluster s.corpus.now s.script.now s.history _ _ _ c.requires.tied.ties s.contexts.items c.requires.tied.pages c.args.task c.requires.live r was c.requires.passed s.clock c.args.reply _
    (step s.cluster s.corpus.now s.script.now s.history _ _ _ c.requires.tied.ties c.requires.tied.shards.has.few c.args.task s.clock r c.args.reply c.requires.live c.requires.passed c.requires.unmarked was next)

pub note_end-requires-clause-one : goal.note_end-requires-clause-one
note_end-requires-clause-one c = λ opens.
    let s = c.args.state.now in
    let was = sym c.remove.ensures.value ∙ c.in-Some.is in
    opens_alone s.cluster s.corpus.now s.script.now s.history _ _ _ c.requires.tied.ties s.contexts.items c.requires.tied.pages c.args.task c.requires.live c.in-Some.running was c.requires.passed s.clock c.args.reply opens

pub note_end-requires-clause-fresh : goal.note_end-requires-clause-fresh
note_end-requires-clause-fresh c = λ opens.
    let s = c.args.state.now in
    let was = sym c.remove.ensures.value ∙ c.in-Some.is in
    none_yet s.cluster s.corpus.now s.script.now s.history _ _ _ c.requires.tied.ties s.contexts.items c.requires.tied.pages c.args.task c.requires.live c.in-Some.running was

pub index_mut-requires : goal.index_mut-requires
index_mut-requires c =
    let s = c.args.state.now in
    let low = c.args.task.node_in_range.0 in
    let many = has_table s.cluster s.corpus.now s.script.now s.history _ _ _ c.requires.tied.ties c.args.task c.requires.live in
    omega (arith, low, many)

pub end_in-receipt-requires-clause-live : goal.end_in-receipt-requires-clause-live
end_in-receipt-requires-clause-live c =
    let s = c.args.state.now in
    let was = sym c.remove.ensures.value ∙ c.in-Some.is in
    let its = table_is s.cluster s.corpus.now s.script.now s.history _ _ _ c.requires.tied.ties c.args.task c.requires.live c.index_mut.result.now c.index_mut.ensures.value in
    stands s.cluster s.corpus.now s.script.now s.history _ _ _ c.requires.tied.ties c.args.task c.requires.live c.in-Some.running was c.index_mut.result.now its

pub end_in-receipt-requires-clause-track : goal.end_in-receipt-requires-clause-track
end_in-receipt-requires-clause-track c =
    let s = c.args.state.now in
    let was = sym c.remove.ensures.value ∙ c.in-Some.is in
    own_track s.cluster s.corpus.now s.script.now s.history _ _ _ c.requires.tied.ties c.args.task c.requires.live c.in-Some.running was

pub end_in-receipt-requires-clause-answered : goal.end_in-receipt-requires-clause-answered
end_in-receipt-requires-clause-answered c =
    let s = c.args.state.now in
    let r = c.in-Some.running in
    let was = sym c.remove.ensures.value ∙ c.in-Some.is in
    let next = rw was at c.requires.next in
    nothing_open s.cluster s.corpus.now s.script.now s.history _ _ _ c.requires.tied.ties c.args.task c.requires.live r was
    (all_come s.cluster s.corpus.now s.script.now s.history _ _ _ c.requires.tied.ties c.requires.tied.shards.has.few c.args.task s.clock r c.args.reply c.requires.live c.requires.passed c.requires.unmarked was next)

pub returns-clause-tied : goal.returns-clause-tied
returns-clause-tied c =
    let s = c.args.state.now in
    let r = c.in-Some.running in
    let was = sym c.remove.ensures.value ∙ c.in-Some.is in
    let next = rw was at c.requires.next in
    let its = table_is s.cluster s.corpus.now s.script.now s.history _ _ _ c.requires.tied.ties c.args.task c.requires.live c.index_mut.result.now c.index_mut.ensures.value in
    let changed = c.remove.ensures.updates.0 in
    let row = c.end_in-receipt.ensures.row ∙ ap (λ id. without_task c.index_mut.result.now id.number) (runs s.cluster s.corpus.now s.script.now s.history _ _ _ c.requires.tied.ties c.args.task c.requires.live r was).id in
    let sent = c.in-Ok-tell_parent.ensures.ok ∙ ap (λ at. s.flight ++ told_parent c.end_in-receipt.result at) c.len-at.ensures in
    let high = (reach_facts s.cluster s.history c.requires.tied.ties.lawful).live_in c.args.task c.requires.live in
    let ended = after_finish s.cluster s.corpus.now s.script.now s.history _ _ _ c.requires.tied.ties c.requires.tied.shards.has.few c.args.task s.clock r c.args.reply c.requires.live c.requires.passed c.requires.unmarked was next c.requires.tied.awaits
    c.index_mut.result.now c.end_in-receipt.result _ its c.end_in-receipt.ensures.receipt (at_changed c.args.task None (task_at s.tasks) _ changed) (off_changed c.args.task None (task_at s.tasks) _ changed) in
    let replies : RepliesFrom c.requires.tied.oldest (request_of (scripted s.script.now) c.args.task s.history) c.args.reply = record {
      top = top_above s c.requires.tied c.args.task r c.args.reply c.requires.live c.requires.passed was next;
      found = opened_above s c.requires.tied c.args.task r c.args.reply c.requires.live c.requires.passed was next;
    } in
    then_ok c.append.result _ _ c.append.ensures.ok (λ happened. record {
      ties =
          same_ties s.cluster s.corpus.now s.script.now _ _ _ _ _ _ _ happened (ap (slice_set s.tables.items (c.args.task.node - 1)) row)
          (c.in-Ok-tell_parent.ensures.ok ∙ ap (λ at. s.flight ++ told_parent c.end_in-receipt.result at) c.len-at.ensures)
          ended;
      cancels =
          rw (happened, row) (noted_unmarked c.args.task s.history (End c.args.task c.args.reply) refl c.requires.unmarked s.cluster ended.lawful c.requires.live s.tables.items _ s.bans.items s.cores.items s.listings
          c.index_mut.result.now its c.requires.tied.cancels);
      counts =
          rw happened (counts_unmarked c.args.task s.history (End c.args.task c.args.reply) refl s.cluster c.requires.tied.ties.lawful _ c.requires.tied.counts
          (nobody_waits s.cluster _ s.history _ _ s.bans.items s.cores.items _ c.requires.tied.cancels c.args.task c.requires.unmarked high));
      tells =
          rw (happened, row, sent) (described_with s.script.now s.history s.tables.items s.flight _ (End c.args.task c.args.reply) _ _ refl
          (rows_left s.script.now s.history s.tables.items (c.args.task.node - 1) c.args.task.number c.index_mut.result.now its c.requires.tied.tells.rows_are)
          (carry_both s.script.now s.history s.flight _ c.requires.tied.tells.carried (told_carries s.script.now s.history c.end_in-receipt.result _)) c.requires.tied.tells);
      pages =
          rw happened (finished_pages s.cluster s.corpus.now s.script.now s.history _ _ _ c.requires.tied.ties s.contexts.items c.requires.tied.pages c.args.task c.requires.live r was c.requires.passed s.clock c.args.reply _
          (step s.cluster s.corpus.now s.script.now s.history _ _ _ c.requires.tied.ties c.requires.tied.shards.has.few c.args.task s.clock r c.args.reply c.requires.live c.requires.passed c.requires.unmarked was next)
          c.requires.tied.tells.clock_is ended.lawful.0 c.note_end.new.contexts.items c.in-Ok.ensures.as_many c.in-Ok.ensures.ended);
      shards = rw happened c.requires.tied.shards;
      awaits = rw happened tt;
      oldest = c.requires.tied.oldest;
      reads = rw happened (reads_after c.requires.tied.oldest s.cluster s.corpus.now s.script.now s.history c.requires.tied.reads c.requires.tied.ties.lawful (End c.args.task c.args.reply) replies);
    })
