use Rattle.std.proofs.Common.{◌∙◌, ◌+◌, ◌∷◌, [], Some, refl, cond, sym, ap, subst, arith, length}
use Rattle.std.specs.Prelude.{◌==◌, is_some, unwrap_or}
use Rattle.std.proofs.lemmas.Option.{get_or_from_slice_get}
use Rattle.cancel_core.specs.Acts.{join_acts, joined_by}
use Rattle.cancel_core.specs.Cancellation.{Cancellation, opened}
use Rattle.cancel_core.specs.Cancellations.{with_entry}
use Rattle.task_events.specs.declared.event.Event.TheVariants.{Cancel}
use Rattle.task_events.specs.Lawful.{Lawful}
use Rattle.world_moves.specs.Acts.{offered_in, left_after}
use Rattle.world_moves.specs.Cancels.{waiting_for}
use Rattle.world_moves.specs.Left.{left_in}
use Rattle.command_roots.specs.Roots.{scripted}
use Rattle.world_moves.specs.Owning.{OneAtATime}
use Rattle.world_moves.specs.Plain.{AnswersPlainly}
use Rattle.world_moves.proofs.CoresAfter.{has_core}
use Rattle.world_moves.proofs.DescriptionsAfter.{quiet}
use Rattle.world_moves.proofs.TasksNamed.{left_few}
use Rattle.corpus_shards.proofs.Cases.{on_err}
use Rattle.world_steps.proofs.NamedAfter.{cancel_lawful, ties_after_cancel, counts_after_cancel}
use Rattle.world_steps.proofs.JoinsAfter.{waiter, join_counts, through_at_once, join_high, join_core, join_entry, join_open, join_noted, join_awaits}
use Rattle.world_moves.proofs.PagesAfter.{quiet_pages}
use Rattle.world_moves.proofs.ReadsAfter.{reads_after}
use Rattle.world_steps.proofs.naming.join.Goals as goal

pub index_mut-requires : goal.index_mut-requires
index_mut-requires c =
    let s = c.args.state.now in
    let many = has_core s.cluster (λ t. waiting_for t s.history) s.history s.cores.items c.requires.tied.cancels.cores_are c.args.task (join_high s.cluster s.history c.args.number c.args.task c.args.wait c.requires.naming c.requires.tied.ties.lawful c.requires.tied.awaits c.requires.live c.requires.fresh c.requires.marked) in
    omega (arith, many)

pub joined-requires-clause-has : goal.joined-requires-clause-has
joined-requires-clause-has c =
    let s = c.args.state.now in
    let on = join_core s.cluster s.history c.args.number c.args.task c.args.wait c.requires.naming c.requires.tied.ties.lawful c.requires.tied.awaits c.requires.live c.requires.fresh c.requires.marked s.cores.items c.requires.tied.cancels.cores_are in
    let is = c.index_mut.ensures.value ∙ get_or_from_slice_get s.cores.items _ on.0 _ on.1 in
    let here = on.1 ∙ ap Some (sym is) in
    let e = join_entry s.cluster s.history c.args.number c.args.task c.args.wait c.requires.naming c.requires.tied.ties.lawful c.requires.tied.awaits c.requires.live c.requires.fresh c.requires.marked s.cores.items c.requires.tied.cancels.cores_are c.index_mut.result.now here in
    ap is_some e.1

pub joined-requires-clause-open_task : goal.joined-requires-clause-open_task
joined-requires-clause-open_task c =
    let s = c.args.state.now in
    let on = join_core s.cluster s.history c.args.number c.args.task c.args.wait c.requires.naming c.requires.tied.ties.lawful c.requires.tied.awaits c.requires.live c.requires.fresh c.requires.marked s.cores.items c.requires.tied.cancels.cores_are in
    let is = c.index_mut.ensures.value ∙ get_or_from_slice_get s.cores.items _ on.0 _ on.1 in
    let here = on.1 ∙ ap Some (sym is) in
    let e = join_entry s.cluster s.history c.args.number c.args.task c.args.wait c.requires.naming c.requires.tied.ties.lawful c.requires.tied.awaits c.requires.live c.requires.fresh c.requires.marked s.cores.items c.requires.tied.cancels.cores_are c.index_mut.result.now here in
    let entry = ap (λ o. unwrap_or o (opened 0 [])) e.1 in
    ap (λ (k : Cancellation). is_some k.receipt) entry ∙ join_open s.cluster s.history c.args.number c.args.task c.args.wait c.requires.naming c.requires.tied.ties.lawful c.requires.tied.awaits c.requires.live c.requires.fresh c.requires.marked e.0 e.2

pub wait_at_one-requires : goal.wait_at_one-requires
wait_at_one-requires c =
    let s = c.args.state.now in
    let count = c.requires.tied.counts.counts c.args.number in
    let few = left_few c.args.number s.history in
    let more = ap length c.in_ok-append.ensures.ok in
    let room = c.in_ok-append.ensures.room in
    omega (arith, count, few, more, room)

pub returns-in_default-clause-part : goal.returns-in_default-clause-part
returns-in_default-clause-part c = (Cancel c.args.number c.args.task c.args.wait ∷ [], [], refl, refl)

pub returns-in_err-append-clause-part : goal.returns-in_err-append-clause-part
returns-in_err-append-clause-part c =
    let same = c.in_err-append.ensures.err in
    let last = Cancel c.args.number c.args.task c.args.wait in
    on_err c.from_residual.result _ (last ∷ [], [], ap (λ h. last ∷ h) (sym same), same)

pub returns-in-Err-clause-part : goal.returns-in-Err-clause-part
returns-in-Err-clause-part c = ([], Cancel c.args.number c.args.task c.args.wait ∷ [], sym c.in_ok-append.ensures.ok, c.in_ok-append.ensures.ok)

pub returns-in-Err-clause-laws : goal.returns-in-Err-clause-laws
returns-in-Err-clause-laws c =
    let s = c.args.state.now in
    record {
      lawful = subst (Lawful s.cluster) (sym c.in_ok-append.ensures.ok) (cancel_lawful s.cluster s.history c.args.number c.args.task c.args.wait c.requires.naming c.requires.tied.ties.lawful c.requires.tied.awaits c.requires.live c.requires.fresh);
      plain = subst (AnswersPlainly s.cluster s.corpus.now s.script.now) (sym c.in_ok-append.ensures.ok) c.requires.tied.ties.plain;
      alone = subst (OneAtATime (scripted s.script.now)) (sym c.in_ok-append.ensures.ok) c.requires.tied.pages.alone;
    }

pub returns-clause-tied : goal.returns-clause-tied
returns-clause-tied c =
    let s = c.args.state.now in
    let on = join_core s.cluster s.history c.args.number c.args.task c.args.wait c.requires.naming c.requires.tied.ties.lawful c.requires.tied.awaits c.requires.live c.requires.fresh c.requires.marked s.cores.items c.requires.tied.cancels.cores_are in
    let is = c.index_mut.ensures.value ∙ get_or_from_slice_get s.cores.items _ on.0 _ on.1 in
    let here = on.1 ∙ ap Some (sym is) in
    let e = join_entry s.cluster s.history c.args.number c.args.task c.args.wait c.requires.naming c.requires.tied.ties.lawful c.requires.tied.awaits c.requires.live c.requires.fresh c.requires.marked s.cores.items c.requires.tied.cancels.cores_are c.index_mut.result.now here in
    let entry = ap (λ o. unwrap_or o (opened 0 [])) e.1 in
    let who = waiter s.cluster s.history c.args.number c.args.task c.args.wait c.requires.naming c.requires.tied.ties.lawful c.requires.tied.awaits c.requires.live c.requires.fresh in
    let happened = c.in_ok-append.ensures.ok in
    let acts = c.as_slice.ensures.value ∙ c.in-Ok.ensures.acts ∙ ap (λ k. join_acts c.args.task k who) entry in
    let core = c.in-Ok.ensures.joined ∙ ap (λ k. with_entry c.index_mut.result.now c.args.task (Some (joined_by k who))) entry in
    let left = left_in s.left in
    let mid = left_in c.wait_at_one.new.left in
    let counted = join_counts c.args.number c.args.task c.args.wait e.0 left mid (left_in c.count_down.new.left) c.in-Ok-wait_at_one.ensures.more (λ k. c.count_down.ensures k ∙ ap (λ list. left_after (offered_in list) mid k) acts) in
    let through = sym (through_at_once s.cluster s.history c.args.number c.args.task c.args.wait c.requires.naming c.requires.tied.ties.lawful c.requires.tied.awaits c.requires.live c.requires.fresh e.0 e.2) in
    record {
      ties = rw happened (ties_after_cancel s.cluster s.history c.args.number c.args.task c.args.wait c.requires.naming c.requires.tied.ties.lawful c.requires.tied.awaits c.requires.live c.requires.fresh s.corpus.now s.script.now _ _ s.flight c.requires.tied.ties);
      cancels = rw (happened, core) (join_noted s.cluster s.history c.args.number c.args.task c.args.wait c.requires.naming c.requires.tied.ties.lawful c.requires.tied.awaits c.requires.live c.requires.fresh c.requires.marked e.0 e.2 _ _ _ s.cores.items _ c.requires.tied.cancels c.index_mut.result.now here);
      counts = rw happened (counts_after_cancel s.cluster s.history c.args.number c.args.task c.args.wait c.requires.naming c.requires.tied.ties.lawful c.requires.tied.awaits c.requires.live c.requires.fresh left _ c.requires.tied.counts (λ k. counted k ∙ ap (λ b. cond (c.args.number == k) (cond b (left k) (left k + 1)) (left k)) through));
      tells = rw happened (quiet s.script.now s.history s.tables.items s.flight s.clock (Cancel c.args.number c.args.task c.args.wait) refl c.requires.tied.tells);
      pages = rw happened (quiet_pages s.cluster s.corpus.now s.script.now s.history s.contexts.items c.requires.tied.pages (Cancel c.args.number c.args.task c.args.wait) refl);
      shards = rw happened c.requires.tied.shards;
      awaits = rw happened (join_awaits s.cluster s.history c.args.number c.args.task c.args.wait c.requires.naming c.requires.tied.ties.lawful c.requires.tied.awaits c.requires.live c.requires.fresh c.requires.marked);
      oldest = c.requires.tied.oldest;
      reads = rw happened (reads_after c.requires.tied.oldest s.cluster s.corpus.now s.script.now s.history c.requires.tied.reads c.requires.tied.ties.lawful (Cancel c.args.number c.args.task c.args.wait) tt);
    }
