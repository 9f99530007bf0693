use Rattle.std.proofs.Common.{◌≡◌, ◌∙◌, ◌∷◌, [], ◌+◌, false, ℕ, Option, Some, None, Err, refl, cond, sym, ap, subst, rules, arith, length}
use Rattle.std.specs.Prelude.{◌==◌, is_some}
use Rattle.task_events.specs.declared.event.Event.TheVariants.{Cancel, Mark}
use Rattle.task_events.specs.declared.history.TheConstants.{MAX_EVENTS}
use Rattle.task_events.specs.declared.stop.Stop.TheVariants.{HistoryFull}
use Rattle.task_events.specs.Bans.{mark_of}
use Rattle.task_events.specs.Lawful.{Lawful}
use Rattle.task_laws.proofs.Reach.{reach_facts}
use Rattle.world_moves.specs.Cancels.{waiting_for, waits_for_end}
use Rattle.world_moves.specs.Left.{left_in}
use Rattle.world_moves.specs.Moves.{IsPartOf}
use Rattle.command_roots.specs.Roots.{scripted}
use Rattle.world_moves.specs.Owning.{OneAtATime}
use Rattle.world_moves.specs.Plain.{AnswersPlainly}
use Rattle.world_moves.proofs.CutShort.{cut_first}
use Rattle.world_moves.proofs.DescriptionsAfter.{quiet}
use Rattle.world_moves.proofs.NodeTables.{nobody_waits}
use Rattle.world_moves.proofs.Parts.{later_part}
use Rattle.world_moves.proofs.TasksNamed.{left_few}
use Rattle.corpus_shards.proofs.Cases.{on_err}
use Rattle.world_steps.proofs.NamedAfter.{cancel_lawful, ties_after_cancel, cancels_after_cancel, counts_after_cancel, holds, mark_lawful, waits_alone, waits_as_told}
use Rattle.world_moves.proofs.PagesAfter.{quiet_pages}
use Rattle.world_moves.proofs.ReadsAfter.{reads_after}
use Rattle.world_steps.proofs.naming.name_and_mark.Goals as goal

-- nothing is there
none_there : (o : Option ℕ) → is_some o ≡ false → o ≡ None
none_there None e = refl
none_there (Some c) e = absurd (cc)

pub wait_at_one-requires : goal.wait_at_one-requires
wait_at_one-requires c =
    let s = c.args.state.now in
    let count = c.requires.tied.counts.counts c.args.number in
    let few = left_few c.args.number s.history in
    let more = ap length c.in_ok-append.ensures.ok in
    let room = c.in_ok-append.ensures.room in
    omega (arith, count, few, more, room)

pub returns-in_err-append-clause-part : goal.returns-in_err-append-clause-part
returns-in_err-append-clause-part c =
    let same = c.in_err-append.ensures.err in
    let last = Cancel c.args.number c.args.task c.args.wait in
    let mark = Mark c.args.task c.args.number in
    on_err c.from_residual.result _ (mark ∷ last ∷ [], [], ap (λ h. mark ∷ last ∷ h) (sym same), same)

pub returns-in_err-append-clause-full : goal.returns-in_err-append-clause-full
returns-in_err-append-clause-full c = λ failed.
    let h = c.args.state.now.history in
    let full : length h ≡ MAX_EVENTS = search rules in
    cut_first h c.append.new.history (Mark c.args.task c.args.number ∷ []) (Cancel c.args.number c.args.task c.args.wait) full c.in_err-append.ensures.err

pub returns-in-Err-clause-part : goal.returns-in-Err-clause-part
returns-in-Err-clause-part c =
    let ok = c.in_ok-append.ensures.ok in
    let mark = Mark c.args.task c.args.number in
    (mark ∷ [], Cancel c.args.number c.args.task c.args.wait ∷ [], ap (λ h. mark ∷ h) (sym ok), ok)

pub returns-in-Err-clause-laws : goal.returns-in-Err-clause-laws
returns-in-Err-clause-laws c =
    let s = c.args.state.now in
    record {
      lawful = subst (Lawful s.cluster) (sym c.in_ok-append.ensures.ok) (cancel_lawful s.cluster s.history c.args.number c.args.task c.args.wait c.requires.naming c.requires.tied.ties.lawful c.requires.tied.awaits c.requires.live c.requires.fresh);
      plain = subst (AnswersPlainly s.cluster s.corpus.now s.script.now) (sym c.in_ok-append.ensures.ok) c.requires.tied.ties.plain;
      alone = subst (OneAtATime (scripted s.script.now)) (sym c.in_ok-append.ensures.ok) c.requires.tied.pages.alone;
    }

pub mark-requires-clause-ties : goal.mark-requires-clause-ties
mark-requires-clause-ties c =
    let s = c.args.state.now in
    rw c.in_ok-append.ensures.ok (ties_after_cancel s.cluster s.history c.args.number c.args.task c.args.wait c.requires.naming c.requires.tied.ties.lawful c.requires.tied.awaits c.requires.live c.requires.fresh s.corpus.now s.script.now _ _ s.flight c.requires.tied.ties)

pub mark-requires-clause-cancels : goal.mark-requires-clause-cancels
mark-requires-clause-cancels c =
    let s = c.args.state.now in
    let unmarked = none_there (mark_of c.args.task s.history) c.requires.unmarked in
    rw c.in_ok-append.ensures.ok (cancels_after_cancel s.cluster s.history c.args.number c.args.task c.args.wait c.requires.naming c.requires.tied.ties.lawful c.requires.tied.awaits c.requires.live c.requires.fresh unmarked _ _ s.bans.items s.cores.items s.listings c.requires.tied.cancels)

pub mark-requires-clause-counts : goal.mark-requires-clause-counts
mark-requires-clause-counts c =
    let s = c.args.state.now in
    let left = left_in s.left in
    let unmarked = none_there (mark_of c.args.task s.history) c.requires.unmarked in
    let open_still = sym (holds s.cluster s.history c.args.number c.args.task c.args.wait c.requires.naming c.requires.tied.ties.lawful c.requires.tied.awaits c.requires.live c.requires.fresh unmarked) in
    rw c.in_ok-append.ensures.ok
    (counts_after_cancel s.cluster s.history c.args.number c.args.task c.args.wait c.requires.naming c.requires.tied.ties.lawful c.requires.tied.awaits c.requires.live c.requires.fresh left _ c.requires.tied.counts (λ k. c.in-Ok.ensures.more k ∙ ap (λ b. cond (c.args.number == k) (cond b (left k) (left k + 1)) (left k)) open_still))

pub mark-requires-clause-tells : goal.mark-requires-clause-tells
mark-requires-clause-tells c =
    let s = c.args.state.now in
    rw c.in_ok-append.ensures.ok (quiet s.script.now s.history s.tables.items s.flight s.clock (Cancel c.args.number c.args.task c.args.wait) refl c.requires.tied.tells)

pub mark-requires-clause-pages : goal.mark-requires-clause-pages
mark-requires-clause-pages c =
    let s = c.args.state.now in
    rw c.in_ok-append.ensures.ok (quiet_pages s.cluster s.corpus.now s.script.now s.history s.contexts.items c.requires.tied.pages (Cancel c.args.number c.args.task c.args.wait) refl)

pub mark-requires-clause-shards : goal.mark-requires-clause-shards
mark-requires-clause-shards c =
    let s = c.args.state.now in
    rw c.in_ok-append.ensures.ok (c.requires.tied.oldest, c.requires.tied.shards, reads_after c.requires.tied.oldest s.cluster s.corpus.now s.script.now s.history c.requires.tied.reads c.requires.tied.ties.lawful (Cancel c.args.number c.args.task c.args.wait) tt)

pub mark-requires-clause-lawful : goal.mark-requires-clause-lawful
mark-requires-clause-lawful c =
    let s = c.args.state.now in
    let unmarked = none_there (mark_of c.args.task s.history) c.requires.unmarked in
    rw c.in_ok-append.ensures.ok (mark_lawful s.cluster s.history c.args.number c.args.task c.args.wait c.requires.naming c.requires.tied.ties.lawful c.requires.tied.awaits c.requires.live c.requires.fresh unmarked)

pub mark-requires-clause-waiting : goal.mark-requires-clause-waiting
mark-requires-clause-waiting c =
    let s = c.args.state.now in
    let t = c.args.task in
    let unmarked = none_there (mark_of t s.history) c.requires.unmarked in
    let high = (reach_facts s.cluster s.history c.requires.tied.ties.lawful).live_in t c.requires.live in
    let none = nobody_waits s.cluster _ s.history _ _ s.bans.items s.cores.items _ c.requires.tied.cancels t unmarked high in
    ap (waiting_for t) c.in_ok-append.ensures.ok ∙ waits_alone s.cluster s.history c.args.number c.args.task c.args.wait c.requires.naming c.requires.tied.ties.lawful c.requires.tied.awaits c.requires.live c.requires.fresh unmarked none

pub mark-requires-clause-wait : goal.mark-requires-clause-wait
mark-requires-clause-wait c =
    let s = c.args.state.now in
    (sym (ap (waits_for_end c.args.number) c.in_ok-append.ensures.ok ∙ waits_as_told s.cluster s.history c.args.number c.args.task c.args.wait c.requires.naming c.requires.tied.ties.lawful c.requires.tied.awaits c.requires.live c.requires.fresh), c.requires.number)

pub returns-in_err-mark-clause-part : goal.returns-in_err-mark-clause-part
returns-in_err-mark-clause-part c =
    let h = c.args.state.now.history in
    let last = Cancel c.args.number c.args.task c.args.wait in
    let part = subst (λ past. IsPartOf past c.mark.new.state.history (Mark c.args.task c.args.number ∷ past)) c.in_ok-append.ensures.ok c.in_err-mark.ensures.part in
    on_err c.from_residual-in_err-mark.result _ (later_part last h _ _ part)

pub returns-in_err-mark-clause-full : goal.returns-in_err-mark-clause-full
returns-in_err-mark-clause-full c = λ failed.
    let is_err : c.mark.result ≡ Err HistoryFull = search rules in
    let found = c.mark.ensures.full is_err in
    let last = Cancel c.args.number c.args.task c.args.wait in
    let mark = Mark c.args.task c.args.number in
    let same = found.1 ∙ c.in_ok-append.ensures.ok in
    (ap length found.1 ∙ found.0, mark, ([], mark ∷ last ∷ [], ap (λ h. mark ∷ h) (sym same), ap (λ h. mark ∷ h) same))
