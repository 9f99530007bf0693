use Rattle.std.proofs.Common.{◌≡◌, rules, length, ◌∙◌, ◌∷◌, [], ◌++◌, map, Some, refl, sym, ap, subst, arith}
use Rattle.std.specs.Prelude.{Contains, remove, reverse, unwrap_or}
use Rattle.std.proofs.lemmas.Option.{get_or_from_slice_get}
use Rattle.cancel_core.specs.Cancellation.{Cancellation, opened}
use Rattle.task_events.specs.declared.event.Event.TheVariants.{Acked}
use Rattle.task_events.specs.declared.history.TheConstants.{MAX_EVENTS}
use Rattle.world_moves.specs.Acts.{messages_in, answers_in}
use Rattle.world_moves.specs.Cancels.{waiting_for, answer_to, due_for}
use Rattle.world_moves.specs.Left.{left_in}
use Rattle.world_moves.specs.Moves.{Delivers, IsPartOf, IsPartly}
use Rattle.world_moves.proofs.AcksAfter.{ack_high, ack_core, ack_entry, ack_awaited, after_ack, acts_then, tied_after, noted_after, ack_happened, ack_counted, delivers_ack, partly_ack, part_laws}
use Rattle.world_moves.proofs.CancelAnswersAfter.{shards_answered, answers_await, answers_described}
use Rattle.world_moves.proofs.DescriptionsAfter.{quiet_sent, carry_both, carry_taken, acts_carry}
use Rattle.world_moves.proofs.CoresAfter.{has_core}
use Rattle.world_moves.proofs.WaitsAfter.{core_knows}
use Rattle.corpus_shards.proofs.Cases.{then_ok, then_err}
use Rattle.world_moves.proofs.Outcomes.{all_ok}
use Rattle.world_moves.proofs.CutShort.{cut_as, cut_first, cut_move}
use Rattle.world_moves.proofs.PagesAfter.{quiet_pages, answered_pages}
use Rattle.world_moves.proofs.ReadsAfter.{answers_reads, reads_after}
use Rattle.world_moves.proofs.bans.deliver_ack.Goals as goal

pub index_mut-requires : goal.index_mut-requires
index_mut-requires c =
    let s = c.args.state.now in
    let high = ack_high s.cluster s.corpus.now s.script.now s.history _ _ s.flight c.requires.tied.ties c.requires.tied.awaits c.args.nth c.args.parent c.args.node c.requires.there s.cores.items c.requires.tied.cancels.cores_are in
    let many = has_core s.cluster (λ t. waiting_for t s.history) s.history s.cores.items c.requires.tied.cancels.cores_are c.args.parent high in
    omega (arith, many)

pub acked-requires : goal.acked-requires
acked-requires c =
    let s = c.args.state.now in
    let on = ack_core s.cluster s.corpus.now s.script.now s.history _ _ s.flight c.requires.tied.ties c.requires.tied.awaits c.args.nth c.args.parent c.args.node c.requires.there s.cores.items c.requires.tied.cancels.cores_are in
    let is = c.index_mut.ensures.value ∙ get_or_from_slice_get s.cores.items _ on.0 _ on.1 in
    let e = ack_entry s.cluster s.corpus.now s.script.now s.history _ _ s.flight c.requires.tied.ties c.requires.tied.awaits c.args.nth c.args.parent c.args.node c.requires.there s.cores.items c.requires.tied.cancels.cores_are c.index_mut.result.now (on.1 ∙ ap Some (sym is)) in
    let entry = ap (λ o. unwrap_or o (opened 0 [])) e.1 in
    let has = ack_awaited s.cluster s.corpus.now s.script.now s.history _ _ s.flight c.requires.tied.ties c.requires.tied.awaits c.args.nth c.args.parent c.args.node c.requires.there e.0 e.2 in
    subst (λ (k : Cancellation). Contains k.awaited c.args.node) (sym entry) has

pub returns-clause-part : goal.returns-clause-part
returns-clause-part c =
    let s = c.args.state.now in
    let on = ack_core s.cluster s.corpus.now s.script.now s.history _ _ s.flight c.requires.tied.ties c.requires.tied.awaits c.args.nth c.args.parent c.args.node c.requires.there s.cores.items c.requires.tied.cancels.cores_are in
    let is = c.index_mut.ensures.value ∙ get_or_from_slice_get s.cores.items _ on.0 _ on.1 in
    let core = c.index_mut.result.now in
    let knows = core_knows c.args.parent.node c.args.parent.node_in_range.0 s.history s.cores.items core (on.1 ∙ ap Some (sym is)) c.requires.tied.cancels.waits_are in
    let e = ack_entry s.cluster s.corpus.now s.script.now s.history _ _ s.flight c.requires.tied.ties c.requires.tied.awaits c.args.nth c.args.parent c.args.node c.requires.there s.cores.items c.requires.tied.cancels.cores_are c.index_mut.result.now (on.1 ∙ ap Some (sym is)) in
    let entry = ap (λ o. unwrap_or o (opened 0 [])) e.1 in
    let acts = c.as_slice.ensures.value ∙ c.in-Ok.ensures.acts ∙ ap (acts_then s.history c.args.parent c.args.node core) entry in
    then_err c.perform.result _ _ c.perform.ensures.part (λ performed.
    partly_ack s.cluster s.corpus.now s.script.now s.history _ _ s.flight c.requires.tied.ties c.requires.tied.awaits c.args.nth c.args.parent c.args.node c.requires.there core knows e.0 e.2 _ c.requires.tied.counts
    c.append.new.history c.perform.new.history _ c.in_ok-append.ensures.ok acts performed)

pub returns-clause-laws : goal.returns-clause-laws
returns-clause-laws c =
    let s = c.args.state.now in
    let on = ack_core s.cluster s.corpus.now s.script.now s.history _ _ s.flight c.requires.tied.ties c.requires.tied.awaits c.args.nth c.args.parent c.args.node c.requires.there s.cores.items c.requires.tied.cancels.cores_are in
    let is = c.index_mut.ensures.value ∙ get_or_from_slice_get s.cores.items _ on.0 _ on.1 in
    let core = c.index_mut.result.now in
    let knows = core_knows c.args.parent.node c.args.parent.node_in_range.0 s.history s.cores.items core (on.1 ∙ ap Some (sym is)) c.requires.tied.cancels.waits_are in
    let e = ack_entry s.cluster s.corpus.now s.script.now s.history _ _ s.flight c.requires.tied.ties c.requires.tied.awaits c.args.nth c.args.parent c.args.node c.requires.there s.cores.items c.requires.tied.cancels.cores_are c.index_mut.result.now (on.1 ∙ ap Some (sym is)) in
    let entry = ap (λ o. unwrap_or o (opened 0 [])) e.1 in
    let acts = c.as_slice.ensures.value ∙ c.in-Ok.ensures.acts ∙ ap (acts_then s.history c.args.parent c.args.node core) entry in
    then_err c.perform.result _ _ c.perform.ensures.part (λ performed. (let laws = part_laws s.cluster s.corpus.now s.script.now s.history _ _ s.flight c.requires.tied.ties c.requires.tied.awaits c.args.nth c.args.parent c.args.node c.requires.there core knows e.0 e.2 _ c.requires.tied.counts
    c.append.new.history c.perform.new.history _ c.in_ok-append.ensures.ok acts performed c.requires.tied.pages.alone in
    record { lawful = laws.0; plain = laws.1; alone = laws.2 }))

pub returns-clause-delivered : goal.returns-clause-delivered
returns-clause-delivered c =
    let s = c.args.state.now in
    let on = ack_core s.cluster s.corpus.now s.script.now s.history _ _ s.flight c.requires.tied.ties c.requires.tied.awaits c.args.nth c.args.parent c.args.node c.requires.there s.cores.items c.requires.tied.cancels.cores_are in
    let is = c.index_mut.ensures.value ∙ get_or_from_slice_get s.cores.items _ on.0 _ on.1 in
    let core = c.index_mut.result.now in
    let knows = core_knows c.args.parent.node c.args.parent.node_in_range.0 s.history s.cores.items core (on.1 ∙ ap Some (sym is)) c.requires.tied.cancels.waits_are in
    let e = ack_entry s.cluster s.corpus.now s.script.now s.history _ _ s.flight c.requires.tied.ties c.requires.tied.awaits c.args.nth c.args.parent c.args.node c.requires.there s.cores.items c.requires.tied.cancels.cores_are c.index_mut.result.now (on.1 ∙ ap Some (sym is)) in
    let entry = ap (λ o. unwrap_or o (opened 0 [])) e.1 in
    let acts = c.as_slice.ensures.value ∙ c.in-Ok.ensures.acts ∙ ap (acts_then s.history c.args.parent c.args.node core) entry in
    then_ok c.perform.result _ _ c.perform.ensures.answered (λ answered. (let happened = ack_happened s.cluster s.corpus.now s.script.now s.history _ _ s.flight c.requires.tied.ties c.requires.tied.awaits c.args.nth c.args.parent c.args.node c.requires.there core knows e.0 e.2 _ c.requires.tied.counts
    c.append.new.history c.perform.new.history _ c.in_ok-append.ensures.ok acts answered in
    subst (λ h. Delivers s.cluster s.history c.args.nth h) (sym happened)
    (delivers_ack s.cluster s.corpus.now s.script.now s.history _ _ s.flight c.requires.tied.ties c.requires.tied.awaits c.args.nth c.args.parent c.args.node c.requires.there core knows e.0 e.2 _ c.requires.tied.counts)))

pub returns-clause-tied : goal.returns-clause-tied
returns-clause-tied c =
    let s = c.args.state.now in
    let p = c.args.parent in
    let n = c.args.node in
    let high = ack_high s.cluster s.corpus.now s.script.now s.history _ _ s.flight c.requires.tied.ties c.requires.tied.awaits c.args.nth c.args.parent c.args.node c.requires.there s.cores.items c.requires.tied.cancels.cores_are in
    let on = ack_core s.cluster s.corpus.now s.script.now s.history _ _ s.flight c.requires.tied.ties c.requires.tied.awaits c.args.nth c.args.parent c.args.node c.requires.there s.cores.items c.requires.tied.cancels.cores_are in
    let is = c.index_mut.ensures.value ∙ get_or_from_slice_get s.cores.items _ on.0 _ on.1 in
    let core = c.index_mut.result.now in
    let knows = core_knows c.args.parent.node c.args.parent.node_in_range.0 s.history s.cores.items core (on.1 ∙ ap Some (sym is)) c.requires.tied.cancels.waits_are in
    let here = on.1 ∙ ap Some (sym is) in
    let e = ack_entry s.cluster s.corpus.now s.script.now s.history _ _ s.flight c.requires.tied.ties c.requires.tied.awaits c.args.nth c.args.parent c.args.node c.requires.there s.cores.items c.requires.tied.cancels.cores_are c.index_mut.result.now here in
    let entry = ap (λ o. unwrap_or o (opened 0 [])) e.1 in
    let acts = c.as_slice.ensures.value ∙ c.in-Ok.ensures.acts ∙ ap (acts_then s.history p n core) entry in
    let rest = rw (c.take-ack.ensures.taken ∙ c.requires.there) at c.take-ack.ensures.rest in
    let kept = c.in-Ok.ensures.acked ∙ ap (after_ack s.history p n core) entry in
    all_ok c.perform.result _ _ _ _ c.perform.ensures.answered c.perform.ensures.sent c.perform.ensures.counted (λ answered queued counted. (let happened = ack_happened s.cluster s.corpus.now s.script.now s.history _ _ s.flight c.requires.tied.ties c.requires.tied.awaits c.args.nth c.args.parent c.args.node c.requires.there core knows e.0 e.2 _ c.requires.tied.counts
    c.append.new.history c.perform.new.history _ c.in_ok-append.ensures.ok acts answered in
    let sent = queued ∙ ap (λ queue. queue ++ messages_in p.node c.as_slice.result.now) rest ∙ ap (λ xs. remove s.flight c.args.nth ++ messages_in p.node xs) acts in
    record {
      ties = rw (happened, sent) (tied_after s.cluster s.corpus.now s.script.now s.history _ _ s.flight c.requires.tied.ties c.requires.tied.awaits c.args.nth c.args.parent c.args.node c.requires.there core knows e.0 e.2 _ c.requires.tied.counts);
      cancels = rw (happened, kept) (noted_after s.cluster s.corpus.now s.script.now s.history _ _ s.flight c.requires.tied.ties c.requires.tied.awaits c.args.nth c.args.parent c.args.node c.requires.there core knows e.0 e.2 _ c.requires.tied.counts
          _ _ s.cores.items _ c.requires.tied.cancels high here);
      counts = rw happened (ack_counted s.cluster s.corpus.now s.script.now s.history _ _ s.flight c.requires.tied.ties c.requires.tied.awaits c.args.nth c.args.parent c.args.node c.requires.there core knows e.0 e.2 _ c.requires.tied.counts
          c.as_slice.result.now acts _ counted);
      tells = rw (happened, queued ∙ ap (λ queue. queue ++ messages_in p.node c.as_slice.result.now) rest) (answers_described s.cluster p (Acked p n ∷ s.history) s.script.now _ _ _
          (quiet_sent s.script.now s.history _ s.flight _ (Acked p n) _ refl
          (carry_both s.script.now s.history _ _ (carry_taken s.script.now s.history s.flight c.args.nth c.requires.tied.tells.carried) (acts_carry s.script.now s.history p.node c.as_slice.result.now)) c.requires.tied.tells));
      pages = rw happened (answered_pages s.cluster s.corpus.now s.script.now (Acked p n ∷ s.history) s.contexts.items p (quiet_pages s.cluster s.corpus.now s.script.now s.history s.contexts.items c.requires.tied.pages (Acked p n) refl));
      shards = rw happened (record { has = shards_answered s.cluster p (Acked p n ∷ s.history) s.corpus.now s.script.now c.requires.tied.oldest s.shards c.requires.tied.shards.has; from_start = c.requires.tied.shards.from_start; noted = c.requires.tied.shards.noted });
      awaits = rw happened (answers_await s.cluster p (Acked p n ∷ s.history) tt);
      oldest = c.requires.tied.oldest;
      reads = rw happened (answers_reads c.requires.tied.oldest s.cluster s.corpus.now s.script.now p (Acked p n ∷ s.history) (reads_after c.requires.tied.oldest s.cluster s.corpus.now s.script.now s.history c.requires.tied.reads c.requires.tied.ties.lawful (Acked p n) tt));
    }))

pub returns-clause-full : goal.returns-clause-full
returns-clause-full c = λ failed.
    let s = c.args.state.now in
    let on = ack_core s.cluster s.corpus.now s.script.now s.history _ _ s.flight c.requires.tied.ties c.requires.tied.awaits c.args.nth c.args.parent c.args.node c.requires.there s.cores.items c.requires.tied.cancels.cores_are in
    let is = c.index_mut.ensures.value ∙ get_or_from_slice_get s.cores.items _ on.0 _ on.1 in
    let core = c.index_mut.result.now in
    let knows = core_knows c.args.parent.node c.args.parent.node_in_range.0 s.history s.cores.items core (on.1 ∙ ap Some (sym is)) c.requires.tied.cancels.waits_are in
    let e = ack_entry s.cluster s.corpus.now s.script.now s.history _ _ s.flight c.requires.tied.ties c.requires.tied.awaits c.args.nth c.args.parent c.args.node c.requires.there s.cores.items c.requires.tied.cancels.cores_are c.index_mut.result.now (on.1 ∙ ap Some (sym is)) in
    let entry = ap (λ o. unwrap_or o (opened 0 [])) e.1 in
    let acts = c.as_slice.ensures.value ∙ c.in-Ok.ensures.acts ∙ ap (acts_then s.history c.args.parent c.args.node core) entry in
    cut_as (λ past. IsPartOf c.append.new.history past (answers_in c.as_slice.result.now (left_in s.left) ++ c.append.new.history)) (IsPartly (λ x y. Delivers s.cluster x c.args.nth y) s.history) c.perform.new.history (λ past performed.
    partly_ack s.cluster s.corpus.now s.script.now s.history _ _ s.flight c.requires.tied.ties c.requires.tied.awaits c.args.nth c.args.parent c.args.node c.requires.there core knows e.0 e.2 _ c.requires.tied.counts
    c.append.new.history past _ c.in_ok-append.ensures.ok acts performed) (c.perform.ensures.full failed)

pub returns-in_err-append-clause-full : goal.returns-in_err-append-clause-full
returns-in_err-append-clause-full c = λ failed.
    let s = c.args.state.now in
    let full : length s.history ≡ MAX_EVENTS = search rules in
    let on = ack_core s.cluster s.corpus.now s.script.now s.history _ _ s.flight c.requires.tied.ties c.requires.tied.awaits c.args.nth c.args.parent c.args.node c.requires.there s.cores.items c.requires.tied.cancels.cores_are in
    let is = c.index_mut.ensures.value ∙ get_or_from_slice_get s.cores.items _ on.0 _ on.1 in
    let core = c.index_mut.result.now in
    let knows = core_knows c.args.parent.node c.args.parent.node_in_range.0 s.history s.cores.items core (on.1 ∙ ap Some (sym is)) c.requires.tied.cancels.waits_are in
    let e = ack_entry s.cluster s.corpus.now s.script.now s.history _ _ s.flight c.requires.tied.ties c.requires.tied.awaits c.args.nth c.args.parent c.args.node c.requires.there s.cores.items c.requires.tied.cancels.cores_are c.index_mut.result.now (on.1 ∙ ap Some (sym is)) in
    cut_move (λ x y. Delivers s.cluster x c.args.nth y) s.history c.append.new.history _ (delivers_ack s.cluster s.corpus.now s.script.now s.history _ _ s.flight c.requires.tied.ties c.requires.tied.awaits c.args.nth c.args.parent c.args.node c.requires.there core knows e.0 e.2 _ c.requires.tied.counts)
    (cut_first s.history c.append.new.history (reverse (map (answer_to (Acked c.args.parent c.args.node ∷ s.history)) (due_for c.args.parent (Acked c.args.parent c.args.node ∷ s.history)))) (Acked c.args.parent c.args.node) full c.in_err-append.ensures.err)
