use Rattle.std.proofs.Common.{◌∙◌, ◌∷◌, Some, refl, sym, ap, subst, None}
use Rattle.std.specs.Option.{option_copied_mut}
use Rattle.task_events.specs.declared.event.Event.TheVariants.{Answered}
use Rattle.task_events.specs.Lawful.{AwaitsNoMark}
use Rattle.world_moves.specs.Cancels.{waiting_for}
use Rattle.node_parts.specs.Running.{running_with_answer}
use Rattle.world_moves.specs.Moves.{Delivers}
use Rattle.world_moves.specs.Ties.{task_at}
use Rattle.world_moves.proofs.KeptTasks.{at_changed, off_changed}
use Rattle.world_moves.proofs.StepsAfter.{is_kept}
use Rattle.world_moves.proofs.AnswersAfter.{has_parent, has_reply, asker_live, own, takes_reply, delivers, after_answer}
use Rattle.world_moves.proofs.SameTies.{same_ties, same_cancels}
use Rattle.world_moves.proofs.CancelsUntouched.{noted}
use Rattle.world_moves.proofs.CutShort.{cut_only}
use Rattle.corpus_shards.proofs.Cases.{some_of, then_ok, of_err}
use Rattle.world_moves.proofs.DescriptionsAfter.{quiet_sent, carry_taken}
use Rattle.world_moves.proofs.QuietCounts.{still_counts}
use Rattle.world_moves.proofs.PagesAfter.{quiet_pages}
use Rattle.world_moves.proofs.ReadsAfter.{reads_after}
use Rattle.world_moves.proofs.answers.deliver_answer.Goals as goal

pub unreachable-requires : goal.unreachable-requires
unreachable-requires c =
    let s = c.args.state.now in
    has_parent s.cluster s.corpus.now s.script.now s.history _ _ _ c.requires.tied.ties c.args.nth c.take_answer-receipt.result.0 c.take_answer-receipt.result.1 c.take_answer-receipt.ensures.taken (sym c.parent.ensures ∙ c.in_default.is)

pub reply_at-requires : goal.reply_at-requires
reply_at-requires c =
    let s = c.args.state.now in
    has_reply s.cluster s.corpus.now s.script.now s.history _ _ _ c.requires.tied.ties c.args.nth c.take_answer-receipt.result.0 c.take_answer-receipt.result.1 c.take_answer-receipt.ensures.taken c.in-Some.parent (sym c.parent.ensures ∙ c.in-Some.is)

pub unreachable-requires-in_default-get_mut : goal.unreachable-requires-in_default-get_mut
unreachable-requires-in_default-get_mut c =
    let s = c.args.state.now in
    let live = asker_live s.cluster s.corpus.now s.script.now s.history _ _ _ c.requires.tied.ties c.args.nth c.take_answer-receipt.result.0 c.take_answer-receipt.result.1 c.take_answer-receipt.ensures.taken c.in-Some.parent (sym c.parent.ensures ∙ c.in-Some.is) c.in_ok-reply.reply c.in_ok-reply.ensures.reply in
    is_kept s.cluster s.corpus.now s.script.now s.history _ _ _ c.requires.tied.ties c.in-Some.parent live (sym c.get_mut.ensures.value ∙ ap option_copied_mut c.in_default-get_mut.is)

pub take_reply-requires-clause-own : goal.take_reply-requires-clause-own
take_reply-requires-clause-own c =
    let s = c.args.state.now in
    let was = sym c.get_mut.ensures.value ∙ ap option_copied_mut c.in-Some-get_mut.is ∙ ap Some (sym c.get_mut-running.ensures.value) in
    own s.cluster s.corpus.now s.script.now s.history _ _ _ c.requires.tied.ties c.args.nth c.take_answer-receipt.result.0 c.take_answer-receipt.result.1 c.take_answer-receipt.ensures.taken c.in-Some.parent (sym c.parent.ensures ∙ c.in-Some.is) c.in_ok-reply.reply c.in_ok-reply.ensures.reply c.get_mut-running.result.now was

pub take_reply-requires-clause-takes : goal.take_reply-requires-clause-takes
take_reply-requires-clause-takes c =
    let s = c.args.state.now in
    let was = sym c.get_mut.ensures.value ∙ ap option_copied_mut c.in-Some-get_mut.is ∙ ap Some (sym c.get_mut-running.ensures.value) in
    takes_reply s.cluster s.corpus.now s.script.now s.history _ _ _ c.requires.tied.ties c.args.nth c.take_answer-receipt.result.0 c.take_answer-receipt.result.1 c.take_answer-receipt.ensures.taken c.in-Some.parent (sym c.parent.ensures ∙ c.in-Some.is) c.in_ok-reply.reply c.in_ok-reply.ensures.reply c.get_mut-running.result.now was

pub take_reply-requires-clause-moment : goal.take_reply-requires-clause-moment
take_reply-requires-clause-moment c = c.requires.tied.tells.clock_fits

pub returns-clause-delivered : goal.returns-clause-delivered
returns-clause-delivered c =
    let s = c.args.state.now in
    then_ok c.append.result _ _ c.append.ensures.ok (λ came.
    subst (λ h. Delivers s.cluster s.history c.args.nth h) (sym (came ∙ ap (λ k. Answered c.in-Some.parent k ∷ s.history) c.ask.ensures))
    (delivers s.cluster s.corpus.now s.script.now s.history _ _ _ c.requires.tied.ties c.args.nth c.take_answer-receipt.result.0 c.take_answer-receipt.result.1 c.take_answer-receipt.ensures.taken c.in-Some.parent (sym c.parent.ensures ∙ c.in-Some.is) c.in_ok-reply.reply c.in_ok-reply.ensures.reply))

pub returns-clause-tied : goal.returns-clause-tied
returns-clause-tied c =
    let s = c.args.state.now in
    let was = sym c.get_mut.ensures.value ∙ ap option_copied_mut c.in-Some-get_mut.is ∙ ap Some (sym c.get_mut-running.ensures.value) in
    let w = c.take_reply.new.self in
    let changed = ((c.get_mut.follows.holds w).3 (some_of _ _ was)).0 in
    let here = at_changed c.in-Some.parent (Some w) (task_at s.tasks) _ changed ∙ ap Some (c.in_ok-take_reply.ensures.taken ∙ ap (running_with_answer c.get_mut-running.result.now c.take_answer-receipt.result.0.ask c.in_ok-reply.reply) c.requires.tied.tells.clock_is) in
    let others = off_changed c.in-Some.parent (Some w) (task_at s.tasks) _ changed in
    then_ok c.append.result _ _ c.append.ensures.ok (λ came. (let happened = came ∙ ap (λ k. Answered c.in-Some.parent k ∷ s.history) c.ask.ensures in record {
      ties = same_ties s.cluster s.corpus.now s.script.now _ _ _ _ _ _ _ happened refl c.take_answer-receipt.ensures.rest
          (after_answer s.cluster s.corpus.now s.script.now s.history _ _ _ c.requires.tied.ties c.args.nth c.take_answer-receipt.result.0 c.take_answer-receipt.result.1 c.take_answer-receipt.ensures.taken c.in-Some.parent (sym c.parent.ensures ∙ c.in-Some.is) c.in_ok-reply.reply c.in_ok-reply.ensures.reply c.get_mut-running.result.now was c.requires.tied.awaits _ here others);
      cancels = same_cancels s.cluster _ _ _ _ _ _ _ _ happened refl
          (noted s.cluster (λ t. waiting_for t s.history) s.history _ _ _ _ _ c.requires.tied.cancels (Answered c.in-Some.parent c.take_answer-receipt.result.0.ask) refl refl);
      counts = rw happened (still_counts None (Answered c.in-Some.parent c.take_answer-receipt.result.0.ask) s.history _ refl c.requires.tied.counts);
      tells = rw (happened, c.take_answer-receipt.ensures.rest) (quiet_sent s.script.now s.history _ s.flight _ (Answered c.in-Some.parent c.take_answer-receipt.result.0.ask) _ refl (carry_taken s.script.now s.history s.flight c.args.nth c.requires.tied.tells.carried) c.requires.tied.tells);
      pages = rw happened (quiet_pages s.cluster s.corpus.now s.script.now s.history s.contexts.items c.requires.tied.pages (Answered c.in-Some.parent c.take_answer-receipt.result.0.ask) refl);
      shards = rw happened c.requires.tied.shards;
      awaits = subst AwaitsNoMark (sym happened) tt;
      oldest = c.requires.tied.oldest;
      reads = rw happened (reads_after c.requires.tied.oldest s.cluster s.corpus.now s.script.now s.history c.requires.tied.reads c.requires.tied.ties.lawful (Answered c.in-Some.parent c.take_answer-receipt.result.0.ask) tt);
    }))

pub returns-clause-room : goal.returns-clause-room
returns-clause-room c = c.append.ensures.room

pub returns-clause-full : goal.returns-clause-full
returns-clause-full c = λ failed.
    let s = c.args.state.now in
    let moves = delivers s.cluster s.corpus.now s.script.now s.history _ _ _ c.requires.tied.ties c.args.nth c.take_answer-receipt.result.0 c.take_answer-receipt.result.1 c.take_answer-receipt.ensures.taken c.in-Some.parent (sym c.parent.ensures ∙ c.in-Some.is) c.in_ok-reply.reply c.in_ok-reply.ensures.reply in
    cut_only (λ x y. Delivers s.cluster x c.args.nth y) s.history c.append.new.history _ moves (c.append.ensures.full.0 failed) (of_err c.append.result _ _ failed c.append.ensures.err)
