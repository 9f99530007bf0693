use Rattle.std.proofs.Common.{◌≡◌, rules, length, ◌∙◌, ◌∷◌, ◌++◌, ◌-◌, map, reverse, None, Some, refl, ap, sym, subst, arith}
use Rattle.std.specs.Prelude.{slice_set}
use Rattle.std.proofs.lemmas.Option.{slice_get_within}
use Rattle.task_table.specs.Table.{without_task}
use Rattle.cancel_core.specs.Cancellations.{entry_of}
use Rattle.task_events.specs.declared.history.TheConstants.{MAX_EVENTS}
use Rattle.world_moves.specs.Acts.{messages_in, answers_in}
use Rattle.world_moves.specs.Cancels.{answer_to, due_for, with_answers}
use Rattle.world_moves.specs.Left.{left_in}
use Rattle.world_moves.specs.Flights.{told_parent}
use Rattle.task_events.specs.Lawful.{Lawful}
use Rattle.world_moves.specs.Moves.{IsPartOf}
use Rattle.world_moves.specs.Owning.{OneAtATime}
use Rattle.world_moves.specs.Plain.{AnswersPlainly}
use Rattle.world_moves.specs.Ties.{task_at}
use Rattle.world_moves.proofs.KeptTasks.{at_changed, off_changed}
use Rattle.world_moves.proofs.SameTies.{same_ties}
use Rattle.world_moves.proofs.StepsAfter.{is_kept}
use Rattle.world_moves.proofs.CancelAnswersAfter.{shards_answered, answers_lawful, answers_await, answers_tied, answers_noted, answers_described}
use Rattle.world_moves.proofs.DescriptionsAfter.{described_with, rows_left, carry_both, told_carries, acts_carry}
use Rattle.world_moves.proofs.CancelledEnds.{leaves_so, shards_left, leaver_lives, awaits_none, left_lawful, left_plain, none_part, first_part, leaver_open, after_cancelled, after_unmarked}
use Rattle.world_moves.proofs.CoresAfterLeave.{core_is, listings_there, known_there, no_receipt, unmarked_there, nobody_there, answered_then, counted_then, sent_then, part_then, answers_plain, set_again, answers_alone}
use Rattle.task_laws.proofs.Reach.{reach_facts}
use Rattle.world_moves.proofs.CancelsAfterLeave.{noted_unmarked, noted_ended, nothing_due, core_there, counts_unmarked, starts_none}
use Rattle.world_moves.proofs.TasksAfterLeave.{own_track, has_table, in_cluster, table_is, stands, runs}
use Rattle.corpus_shards.proofs.Cases.{then_ok, then_err, on_err}
use Rattle.world_moves.proofs.Outcomes.{all_ok}
use Rattle.world_moves.proofs.Parts.{part_lawful, part_plain, part_alone, left_alone, later_part}
use Rattle.world_moves.proofs.CutShort.{cut_as, cut_first}
use Rattle.world_moves.proofs.PagesAfter.{answered_pages}
use Rattle.world_moves.proofs.PagesLeft.{in_use, left_pages}
use Rattle.world_moves.proofs.ReadsAfter.{answers_reads, leaver_reads, reads_after}
use Rattle.world_moves.proofs.ends.leave.Goals as goal
use Rattle.command_roots.specs.Roots.{scripted}

pub unreachable-requires : goal.unreachable-requires
unreachable-requires c =
    let s = c.args.state.now in
    is_kept s.cluster s.corpus.now s.script.now s.history _ _ _ c.requires.tied.ties c.args.task (leaver_lives _ c.args.task s.history c.args.event c.requires.leaves) (sym c.remove.ensures.value ∙ c.in_default.is)

pub index_mut-requires : goal.index_mut-requires
index_mut-requires c =
    let s = c.args.state.now in
    let low = c.args.task.node_in_range.0 in
    let many = has_table s.cluster s.corpus.now s.script.now s.history _ _ _ c.requires.tied.ties c.args.task (leaver_lives _ c.args.task s.history c.args.event c.requires.leaves) in
    omega (arith, low, many)

pub note_leave-requires : goal.note_leave-requires
note_leave-requires c =
    let s = c.args.state.now in
    let was = sym c.remove.ensures.value ∙ c.in-Some.is in
    record { used = λ id shown. in_use s.cluster s.corpus.now s.script.now s.history _ _ _ c.requires.tied.ties s.contexts.items c.requires.tied.pages c.args.task (leaver_lives _ c.args.task s.history c.args.event c.requires.leaves) c.in-Some.running was id shown }

pub end_in-receipt-requires-clause-live : goal.end_in-receipt-requires-clause-live
end_in-receipt-requires-clause-live c =
    let s = c.args.state.now in
    let live = leaver_lives _ c.args.task s.history c.args.event c.requires.leaves in
    let was = sym c.remove.ensures.value ∙ c.in-Some.is in
    let its = table_is s.cluster s.corpus.now s.script.now s.history _ _ _ c.requires.tied.ties c.args.task live c.index_mut.result.now c.index_mut.ensures.value in
    stands s.cluster s.corpus.now s.script.now s.history _ _ _ c.requires.tied.ties c.args.task live c.in-Some.running was c.index_mut.result.now its

pub end_in-receipt-requires-clause-track : goal.end_in-receipt-requires-clause-track
end_in-receipt-requires-clause-track c =
    let s = c.args.state.now in
    let was = sym c.remove.ensures.value ∙ c.in-Some.is in
    own_track s.cluster s.corpus.now s.script.now s.history _ _ _ c.requires.tied.ties c.args.task (leaver_lives _ c.args.task s.history c.args.event c.requires.leaves) c.in-Some.running was

pub end_in-receipt-requires-clause-answered : goal.end_in-receipt-requires-clause-answered
end_in-receipt-requires-clause-answered c =
    let s = c.args.state.now in
    let was = sym c.remove.ensures.value ∙ c.in-Some.is in
    leaver_open s.cluster s.corpus.now s.script.now s.history _ _ _ c.requires.tied.ties c.args.task c.args.event c.requires.leaves c.in-Some.running was

pub returns-in-Err-clause-part : goal.returns-in-Err-clause-part
returns-in-Err-clause-part c =
    let h = c.args.state.now.history in
    none_part h (reverse (map (answer_to (c.args.event ∷ h)) (due_for c.args.task (c.args.event ∷ h)))) c.args.event

pub returns-in_err-append-clause-part : goal.returns-in_err-append-clause-part
returns-in_err-append-clause-part c =
    let h = c.args.state.now.history in
    on_err c.from_residual.result _
    (rw c.in_err-append.ensures.err (none_part h (reverse (map (answer_to (c.args.event ∷ h)) (due_for c.args.task (c.args.event ∷ h)))) c.args.event))

pub index_mut-core-requires : goal.index_mut-core-requires
index_mut-core-requires c =
    let s = c.args.state.now in
    let low = c.args.task.node_in_range.0 in
    let there = core_there c.args.task s.history s.cluster s.tables.items _ s.bans.items s.cores.items s.listings c.requires.tied.cancels
    (in_cluster s.cluster s.corpus.now s.script.now s.history _ _ _ c.requires.tied.ties c.args.task (leaver_lives _ c.args.task s.history c.args.event c.requires.leaves)) in
    let within = slice_get_within s.cores.items (c.args.task.node - 1) there.0 there.1 in
    omega (arith, within)

pub returns-then-not-has-clause-happened : goal.returns-then-not-has-clause-happened
returns-then-not-has-clause-happened c =
    let s = c.args.state.now in
    let live = leaver_lives _ c.args.task s.history c.args.event c.requires.leaves in
    let core = c.index_mut-core.result.now in
    let none = nobody_there s.cluster s.history s.tables.items _ s.bans.items s.cores.items s.listings c.requires.tied.cancels c.requires.tied.ties.lawful c.args.task live core c.index_mut-core.ensures.value
    (sym c.has.ensures ∙ c.if-not-has.true) in
    c.in_ok-append.ensures.ok ∙ sym (nothing_due c.args.task s.history c.args.event (leaves_so _ c.args.task s.history c.args.event c.requires.leaves) s.cluster c.requires.tied.ties.lawful _ c.requires.tied.counts none)

pub returns-then-not-has-clause-tied : goal.returns-then-not-has-clause-tied
returns-then-not-has-clause-tied c =
    let s = c.args.state.now in
    let e = c.args.event in
    let r = c.in-Some.running in
    let live = leaver_lives _ c.args.task s.history e c.requires.leaves in
    let leaves = leaves_so _ c.args.task s.history e c.requires.leaves in
    let was = sym c.remove.ensures.value ∙ c.in-Some.is in
    let its = table_is s.cluster s.corpus.now s.script.now s.history _ _ _ c.requires.tied.ties c.args.task live c.index_mut.result.now c.index_mut.ensures.value in
    let changed = c.remove.ensures.updates.0 in
    let core = c.index_mut-core.result.now in
    let unmarked = unmarked_there s.cluster s.history s.tables.items _ s.bans.items s.cores.items s.listings c.requires.tied.cancels c.requires.tied.ties.lawful c.args.task live core c.index_mut-core.ensures.value
    (sym c.has.ensures ∙ c.if-not-has.true) in
    let at_core = core_is s.cluster s.history s.tables.items _ s.bans.items s.cores.items s.listings c.requires.tied.cancels c.requires.tied.ties.lawful c.args.task live core c.index_mut-core.ensures.value in
    let row = c.end_in-receipt.ensures.row ∙ ap (λ id. without_task c.index_mut.result.now id.number) (runs s.cluster s.corpus.now s.script.now s.history _ _ _ c.requires.tied.ties c.args.task live r was).id in
    let nobody = nobody_there s.cluster s.history s.tables.items _ s.bans.items s.cores.items s.listings c.requires.tied.cancels c.requires.tied.ties.lawful c.args.task live core c.index_mut-core.ensures.value
    (sym c.has.ensures ∙ c.if-not-has.true) in
    let sent = c.in-Ok.ensures.ok ∙ ap (λ at. s.flight ++ told_parent c.end_in-receipt.result at) c.len-at.ensures in
    record {
      ties =
          same_ties s.cluster s.corpus.now s.script.now _ _ _ _ _ _ _ c.in_ok-append.ensures.ok (ap (slice_set s.tables.items (c.args.task.node - 1)) row)
          (c.in-Ok.ensures.ok ∙ ap (λ at. s.flight ++ told_parent c.end_in-receipt.result at) c.len-at.ensures)
          (after_unmarked s.cluster s.corpus.now s.script.now s.history _ _ _ c.requires.tied.ties c.args.task e c.requires.leaves r was c.requires.tied.awaits unmarked
          c.index_mut.result.now c.end_in-receipt.result _ its c.end_in-receipt.ensures.receipt (at_changed c.args.task None (task_at s.tasks) _ changed) (off_changed c.args.task None (task_at s.tasks) _ changed));
      cancels =
          rw (c.in_ok-append.ensures.ok, row, set_again s.cores.items (c.args.task.node - 1) core at_core)
          (noted_unmarked c.args.task s.history e leaves unmarked s.cluster (left_lawful _ c.args.task s.history s.cluster c.requires.tied.ties.lawful c.requires.tied.awaits e c.requires.leaves) live s.tables.items _ s.bans.items s.cores.items s.listings c.index_mut.result.now its c.requires.tied.cancels);
      counts = rw c.in_ok-append.ensures.ok (counts_unmarked c.args.task s.history e leaves s.cluster c.requires.tied.ties.lawful _ c.requires.tied.counts nobody);
      tells =
          rw (c.in_ok-append.ensures.ok, row, sent) (described_with s.script.now s.history s.tables.items s.flight _ e _ _ (starts_none c.args.task s.history e leaves)
          (rows_left s.script.now s.history s.tables.items (c.args.task.node - 1) c.args.task.number c.index_mut.result.now its c.requires.tied.tells.rows_are)
          (carry_both s.script.now s.history s.flight _ c.requires.tied.tells.carried (told_carries s.script.now s.history c.end_in-receipt.result _)) c.requires.tied.tells);
      pages = rw c.in_ok-append.ensures.ok (left_pages s.cluster s.corpus.now s.script.now s.history _ _ _ c.requires.tied.ties s.contexts.items c.requires.tied.pages c.args.task live r was s.clock c.requires.tied.tells.clock_is _ e c.requires.leaves c.note_leave.new.contexts.items c.note_leave.ensures.as_many c.note_leave.ensures.left c.note_leave.ensures.refused);
      shards = rw c.in_ok-append.ensures.ok (record { has = shards_left _ c.args.task s.history s.corpus.now s.script.now s.cluster c.requires.tied.oldest s.shards e c.requires.leaves c.requires.tied.shards.has; from_start = c.requires.tied.shards.from_start; noted = c.requires.tied.shards.noted });
      awaits = rw c.in_ok-append.ensures.ok (awaits_none _ c.args.task s.history e c.requires.leaves);
      oldest = c.requires.tied.oldest;
      reads = rw c.in_ok-append.ensures.ok (reads_after c.requires.tied.oldest s.cluster s.corpus.now s.script.now s.history c.requires.tied.reads c.requires.tied.ties.lawful e (leaver_reads c.requires.tied.oldest s.script.now _ c.args.task s.history e c.requires.leaves));
    }

pub ended-requires-clause-open_task : goal.ended-requires-clause-open_task
ended-requires-clause-open_task c =
    let s = c.args.state.now in
    let live = leaver_lives _ c.args.task s.history c.args.event c.requires.leaves in
    let core = c.index_mut-core.result.now in
    no_receipt s.cluster s.history s.tables.items _ s.bans.items s.cores.items s.listings c.requires.tied.cancels c.requires.tied.ties.lawful c.args.task live core c.index_mut-core.ensures.value
    (sym c.has.ensures ∙ c.if-not-has.false)

pub ended-requires-clause-own : goal.ended-requires-clause-own
ended-requires-clause-own c =
    let s = c.args.state.now in
    let was = sym c.remove.ensures.value ∙ c.in-Some.is in
    let x = runs s.cluster s.corpus.now s.script.now s.history _ _ _ c.requires.tied.ties c.args.task (leaver_lives _ c.args.task s.history c.args.event c.requires.leaves) c.in-Some.running was in
    ap (λ receipt. receipt.task) c.end_in-receipt.ensures.receipt ∙ ap (λ track. Some track.task) x.track

pub returns-in_default-ended-clause-part : goal.returns-in_default-ended-clause-part
returns-in_default-ended-clause-part c =
    let h = c.args.state.now.history in
    rw c.in_ok-append.ensures.ok (first_part h (reverse (map (answer_to (c.args.event ∷ h)) (due_for c.args.task (c.args.event ∷ h)))) c.args.event)

pub returns-clause-part : goal.returns-clause-part
returns-clause-part c =
    let s = c.args.state.now in
    let live = leaver_lives _ c.args.task s.history c.args.event c.requires.leaves in
    let core = c.index_mut-core.result.now in
    let known = known_there s.cluster s.history s.tables.items _ s.bans.items s.cores.items s.listings c.requires.tied.cancels c.requires.tied.ties.lawful c.args.task live core c.index_mut-core.ensures.value
    (sym c.has.ensures ∙ c.if-not-has.false) in
    then_err c.perform.result _ _ c.perform.ensures.part (λ performed. (let part = part_then s.cluster c.args.task c.args.event s.history (leaves_so _ c.args.task s.history c.args.event c.requires.leaves) c.requires.tied.ties.lawful _ c.requires.tied.counts (entry_of core c.args.task) c.end_in-receipt.result known core c.as_slice.result.now
    (c.as_slice.ensures.value ∙ c.in-Ok-ended.ensures.acts) c.append.new.history c.perform.new.history c.in_ok-append.ensures.ok performed in
    later_part c.args.event s.history c.perform.new.history _ part))

pub returns-clause-laws : goal.returns-clause-laws
returns-clause-laws c =
    let s = c.args.state.now in
    let e = c.args.event in
    let m = c.requires.leaves in
    let live = leaver_lives _ c.args.task s.history e m in
    let core = c.index_mut-core.result.now in
    let leaves = leaves_so _ c.args.task s.history e m in
    let known = known_there s.cluster s.history s.tables.items _ s.bans.items s.cores.items s.listings c.requires.tied.cancels c.requires.tied.ties.lawful c.args.task live core c.index_mut-core.ensures.value
    (sym c.has.ensures ∙ c.if-not-has.false) in
    then_err c.perform.result _ _ c.perform.ensures.part (λ performed. (let part = part_then s.cluster c.args.task e s.history leaves c.requires.tied.ties.lawful _ c.requires.tied.counts (entry_of core c.args.task) c.end_in-receipt.result known core c.as_slice.result.now
    (c.as_slice.ensures.value ∙ c.in-Ok-ended.ensures.acts) c.append.new.history c.perform.new.history c.in_ok-append.ensures.ok performed in
    record {
      lawful = part_lawful s.cluster s.corpus.now s.script.now (e ∷ s.history) c.perform.new.history _ part
          (answers_lawful s.cluster c.args.task (e ∷ s.history) (left_lawful _ c.args.task s.history s.cluster c.requires.tied.ties.lawful c.requires.tied.awaits e m) (awaits_none _ c.args.task s.history e m));
      plain = part_plain s.cluster s.corpus.now s.script.now (e ∷ s.history) c.perform.new.history _ part
          (answers_plain s.cluster s.corpus.now s.script.now c.args.task (e ∷ s.history) (left_plain s.cluster s.corpus.now s.script.now c.args.task s.history e m c.requires.tied.ties.plain));
      alone = part_alone (scripted s.script.now) (e ∷ s.history) c.perform.new.history _ part
          (answers_alone (scripted s.script.now) c.args.task (e ∷ s.history) (left_alone (scripted s.script.now) _ c.args.task s.history e m c.requires.tied.pages.alone));
    }))

pub returns-clause-happened : goal.returns-clause-happened
returns-clause-happened c =
    let s = c.args.state.now in
    let live = leaver_lives _ c.args.task s.history c.args.event c.requires.leaves in
    let core = c.index_mut-core.result.now in
    let known = known_there s.cluster s.history s.tables.items _ s.bans.items s.cores.items s.listings c.requires.tied.cancels c.requires.tied.ties.lawful c.args.task live core c.index_mut-core.ensures.value
    (sym c.has.ensures ∙ c.if-not-has.false) in
    then_ok c.perform.result _ _ c.perform.ensures.answered (λ answered. answered ∙ ap (λ past. answers_in c.as_slice.result.now (left_in s.left) ++ past) c.in_ok-append.ensures.ok
    ∙ answered_then s.cluster c.args.task c.args.event s.history (leaves_so _ c.args.task s.history c.args.event c.requires.leaves) c.requires.tied.ties.lawful _ c.requires.tied.counts (entry_of core c.args.task) c.end_in-receipt.result known core c.as_slice.result.now
    (c.as_slice.ensures.value ∙ c.in-Ok-ended.ensures.acts))

pub returns-clause-tied : goal.returns-clause-tied
returns-clause-tied c =
    let s = c.args.state.now in
    let e = c.args.event in
    let m = c.requires.leaves in
    let r = c.in-Some.running in
    let live = leaver_lives _ c.args.task s.history e m in
    let leaves = leaves_so _ c.args.task s.history e m in
    let awaits = awaits_none _ c.args.task s.history e m in
    let lawful = left_lawful _ c.args.task s.history s.cluster c.requires.tied.ties.lawful c.requires.tied.awaits e m in
    let was = sym c.remove.ensures.value ∙ c.in-Some.is in
    let its = table_is s.cluster s.corpus.now s.script.now s.history _ _ _ c.requires.tied.ties c.args.task live c.index_mut.result.now c.index_mut.ensures.value in
    let changed = c.remove.ensures.updates.0 in
    let core = c.index_mut-core.result.now in
    let acts = c.as_slice.result.now in
    let receipt = c.end_in-receipt.result in
    let known = known_there s.cluster s.history s.tables.items _ s.bans.items s.cores.items s.listings c.requires.tied.cancels c.requires.tied.ties.lawful c.args.task live core c.index_mut-core.ensures.value
    (sym c.has.ensures ∙ c.if-not-has.false) in
    let at_core = core_is s.cluster s.history s.tables.items _ s.bans.items s.cores.items s.listings c.requires.tied.cancels c.requires.tied.ties.lawful c.args.task live core c.index_mut-core.ensures.value in
    let row = c.end_in-receipt.ensures.row ∙ ap (λ id. without_task c.index_mut.result.now id.number) (runs s.cluster s.corpus.now s.script.now s.history _ _ _ c.requires.tied.ties c.args.task live r was).id in
    let sent = sent_then s.cluster c.args.task e s.history leaves c.requires.tied.ties.lawful _ c.requires.tied.counts (entry_of core c.args.task) receipt known core acts (c.as_slice.ensures.value ∙ c.in-Ok-ended.ensures.acts) lawful
    (listings_there s.cluster s.history s.tables.items _ s.bans.items s.cores.items s.listings c.requires.tied.cancels c.requires.tied.ties.lawful c.args.task live core c.index_mut-core.ensures.value) in
    all_ok c.perform.result _ _ _ _ (returns-clause-happened c) c.perform.ensures.sent c.perform.ensures.counted (λ happened queued counted. record {
      ties =
          same_ties s.cluster s.corpus.now s.script.now _ _ _ _ _ _ _ happened (ap (slice_set s.tables.items (c.args.task.node - 1)) row)
          (queued ∙ ap (λ queue. queue ++ messages_in c.args.task.node acts) (c.in-Ok.ensures.ok ∙ ap (λ at. s.flight ++ told_parent receipt at) c.len-at.ensures))
          (answers_tied s.cluster c.args.task (e ∷ s.history) s.corpus.now s.script.now _ _ _
          (after_cancelled s.cluster s.corpus.now s.script.now s.history _ _ _ c.requires.tied.ties c.args.task e m r was c.requires.tied.awaits
          c.index_mut.result.now receipt _ (messages_in c.args.task.node acts) its c.end_in-receipt.ensures.receipt (at_changed c.args.task None (task_at s.tasks) _ changed) (off_changed c.args.task None (task_at s.tasks) _ changed) sent) awaits);
      cancels =
          rw (happened, row, c.in-Ok-ended.ensures.ended)
          (answers_noted s.cluster c.args.task (e ∷ s.history) _ _ _ _ _
          (noted_ended c.args.task s.history e leaves s.cluster lawful s.tables.items _ s.bans.items s.cores.items s.listings c.index_mut.result.now core (entry_of core c.args.task) receipt its at_core known ((reach_facts s.cluster s.history c.requires.tied.ties.lawful).live_in c.args.task live) c.requires.tied.cancels));
      counts =
          rw happened (counted_then s.cluster c.args.task e s.history leaves c.requires.tied.ties.lawful _ c.requires.tied.counts (entry_of core c.args.task) receipt known core acts (c.as_slice.ensures.value ∙ c.in-Ok-ended.ensures.acts) _ counted);
      tells =
          rw (happened, row, queued ∙ ap (λ queue. queue ++ messages_in c.args.task.node acts) (c.in-Ok.ensures.ok ∙ ap (λ at. s.flight ++ told_parent receipt at) c.len-at.ensures))
          (answers_described s.cluster c.args.task (e ∷ s.history) s.script.now _ _ _
          (described_with s.script.now s.history s.tables.items s.flight _ e _ _ (starts_none c.args.task s.history e leaves)
          (rows_left s.script.now s.history s.tables.items (c.args.task.node - 1) c.args.task.number c.index_mut.result.now its c.requires.tied.tells.rows_are)
          (carry_both s.script.now s.history _ _ (carry_both s.script.now s.history s.flight _ c.requires.tied.tells.carried (told_carries s.script.now s.history receipt _)) (acts_carry s.script.now s.history c.args.task.node acts)) c.requires.tied.tells));
      pages = rw happened (answered_pages s.cluster s.corpus.now s.script.now (e ∷ s.history) c.note_leave.new.contexts.items c.args.task (left_pages s.cluster s.corpus.now s.script.now s.history _ _ _ c.requires.tied.ties s.contexts.items c.requires.tied.pages c.args.task live r was s.clock c.requires.tied.tells.clock_is _ e m c.note_leave.new.contexts.items c.note_leave.ensures.as_many c.note_leave.ensures.left c.note_leave.ensures.refused));
      shards = rw happened (record { has = shards_answered s.cluster c.args.task (e ∷ s.history) s.corpus.now s.script.now c.requires.tied.oldest s.shards (shards_left _ c.args.task s.history s.corpus.now s.script.now s.cluster c.requires.tied.oldest s.shards e m c.requires.tied.shards.has); from_start = c.requires.tied.shards.from_start; noted = c.requires.tied.shards.noted });
      awaits = rw happened (answers_await s.cluster c.args.task (e ∷ s.history) awaits);
      oldest = c.requires.tied.oldest;
      reads = rw happened (answers_reads c.requires.tied.oldest s.cluster s.corpus.now s.script.now c.args.task (e ∷ s.history) (reads_after c.requires.tied.oldest s.cluster s.corpus.now s.script.now s.history c.requires.tied.reads c.requires.tied.ties.lawful e (leaver_reads c.requires.tied.oldest s.script.now _ c.args.task s.history e m)));
    })

pub returns-clause-keeps : goal.returns-clause-keeps
returns-clause-keeps c = record { cluster = refl; corpus = refl; script = refl }

pub returns-then-not-has-clause-keeps : goal.returns-then-not-has-clause-keeps
returns-then-not-has-clause-keeps c = record { cluster = refl; corpus = refl; script = refl }

pub returns-in_default-ended-clause-keeps : goal.returns-in_default-ended-clause-keeps
returns-in_default-ended-clause-keeps c = record { cluster = refl; corpus = refl; script = refl }

pub returns-in_err-append-clause-keeps : goal.returns-in_err-append-clause-keeps
returns-in_err-append-clause-keeps c = record { cluster = refl; corpus = refl; script = refl }

pub returns-in-Err-clause-keeps : goal.returns-in-Err-clause-keeps
returns-in-Err-clause-keeps c = record { cluster = refl; corpus = refl; script = refl }

pub returns-in_default-ended-clause-laws : goal.returns-in_default-ended-clause-laws
returns-in_default-ended-clause-laws c =
    let s = c.args.state.now in
    let e = c.args.event in
    let m = c.requires.leaves in
    record {
      lawful = subst (Lawful s.cluster) (sym c.in_ok-append.ensures.ok) (left_lawful _ c.args.task s.history s.cluster c.requires.tied.ties.lawful c.requires.tied.awaits e m);
      plain = subst (AnswersPlainly s.cluster s.corpus.now s.script.now) (sym c.in_ok-append.ensures.ok) (left_plain s.cluster s.corpus.now s.script.now c.args.task s.history e m c.requires.tied.ties.plain);
      alone = subst (OneAtATime (scripted s.script.now)) (sym c.in_ok-append.ensures.ok) (left_alone (scripted s.script.now) _ c.args.task s.history e m c.requires.tied.pages.alone);
    }

pub returns-clause-full : goal.returns-clause-full
returns-clause-full c = λ failed.
    let s = c.args.state.now in
    let live = leaver_lives _ c.args.task s.history c.args.event c.requires.leaves in
    let core = c.index_mut-core.result.now in
    let known = known_there s.cluster s.history s.tables.items _ s.bans.items s.cores.items s.listings c.requires.tied.cancels c.requires.tied.ties.lawful c.args.task live core c.index_mut-core.ensures.value
    (sym c.has.ensures ∙ c.if-not-has.false) in
    cut_as (λ past. IsPartOf c.append.new.history past (answers_in c.as_slice.result.now (left_in s.left) ++ c.append.new.history)) (λ past. IsPartOf s.history past (with_answers c.args.task (c.args.event ∷ s.history))) c.perform.new.history
    (λ past performed. later_part c.args.event s.history past _ (part_then s.cluster c.args.task c.args.event s.history (leaves_so _ c.args.task s.history c.args.event c.requires.leaves) c.requires.tied.ties.lawful _ c.requires.tied.counts (entry_of core c.args.task) c.end_in-receipt.result known core c.as_slice.result.now
    (c.as_slice.ensures.value ∙ c.in-Ok-ended.ensures.acts) c.append.new.history past c.in_ok-append.ensures.ok performed)) (c.perform.ensures.full failed)

pub returns-in_err-append-clause-full : goal.returns-in_err-append-clause-full
returns-in_err-append-clause-full c = λ failed.
    let s = c.args.state.now in
    let full : length s.history ≡ MAX_EVENTS = search rules in
    cut_first s.history c.append.new.history (reverse (map (answer_to (c.args.event ∷ s.history)) (due_for c.args.task (c.args.event ∷ s.history)))) c.args.event full c.in_err-append.ensures.err
