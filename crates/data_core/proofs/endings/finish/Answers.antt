-- The task ends once no ask of it is unanswered, and its letters tell its end.
use Rattle.std.proofs.Common.{◌≡◌, None, refl, sym, ap, ◌∙◌, subst, arith}
use Rattle.std.specs.Prelude.{IsSome}
use Rattle.child_track.specs.Token.{ReceiptParts}
use Rattle.child_track.specs.Track.{unanswered}
use Rattle.node_link.specs.Lawful.{IsLawfulReply}
use Rattle.run_facts.specs.Cancels.{cancels_of}
use Rattle.live_tasks.specs.Answering.{IsAnsweredFully}
use Rattle.live_tasks.specs.Live.{entry_at, ChangesAt}
use Rattle.data_parts.specs.Endings.{reply_of}
use Rattle.data_parts.specs.Slices.{Settles}
use Rattle.entry_facts.proofs.Cores.{task_at, task_changed}
use Rattle.entry_facts.proofs.Letters.{ending_tells}
use Rattle.entry_facts.proofs.Live.{each_at}
use Rattle.data_core.specs.Cores.{IsGoodEntry}
use Rattle.data_core.specs.Steps.{shown_by}
use Rattle.data_core.proofs.Cases.{id_there, told_of_run}
use Rattle.data_core.proofs.Ending.{ending_lawful, end_lawful, left_tells}
use Rattle.data_core.proofs.Kept.{gone_sound}
use Rattle.data_core.proofs.Planning.{moment}
use Rattle.data_core.proofs.Sound.{contexts_sound}
use Rattle.data_core.proofs.Stepping.{found_is, its_id}
use Rattle.data_core.proofs.Turned.{ends_so}
use Rattle.data_core.proofs.endings.finish.Goals as goal

pub end-ended-requires-clause-answered : goal.end-ended-requires-clause-answered
end-ended-requires-clause-answered g c =
    let zero : unanswered c.in-Some.entry.now.running.track ≡ 0 = omega (arith, c.if-unanswered-gt0.false, c.unanswered.ensures) in
    subst IsAnsweredFully c.in-Some.ensures zero

pub returns-in_err-reply-clause-sound : goal.returns-in_err-reply-clause-sound
returns-in_err-reply-clause-sound g c =
    gone_sound _ _ _ _ _ _ _ _ _ c.args.core.now c.end-ended.new.self c.args.task.number c.requires.sound c.end-ended.ensures.together c.end-ended.ensures.core c.end-ended.ensures.gone

pub returns-in_err-settle-clause-sound : goal.returns-in_err-settle-clause-sound
returns-in_err-settle-clause-sound g c =
    contexts_sound _ _ _ _ _ _ c.settle.new.contexts
    (gone_sound _ _ _ _ _ _ _ _ _ c.args.core.now c.end-ended.new.self c.args.task.number c.requires.sound c.end-ended.ensures.together c.end-ended.ensures.core c.end-ended.ensures.gone)

pub returns-in_err-letters_of-clause-sound : goal.returns-in_err-letters_of-clause-sound
returns-in_err-letters_of-clause-sound g c =
    contexts_sound _ _ _ _ _ _ c.settle.new.contexts
    (gone_sound _ _ _ _ _ _ _ _ _ c.args.core.now c.end-ended.new.self c.args.task.number c.requires.sound c.end-ended.ensures.together c.end-ended.ensures.core c.end-ended.ensures.gone)

pub returns-clause-sound : goal.returns-clause-sound
returns-clause-sound g c =
    contexts_sound _ _ _ _ _ _ c.settle.new.contexts
    (gone_sound _ _ _ _ _ _ _ _ _ c.args.core.now c.end-ended.new.self c.args.task.number c.requires.sound c.end-ended.ensures.together c.end-ended.ensures.core c.end-ended.ensures.gone)

pub returns-in_err-reply-clause-of_run : goal.returns-in_err-reply-clause-of_run
returns-in_err-reply-clause-of_run g c = task_changed g.W.Run.setting _ c.args.core.now.shards c.args.core.now.live c.requires.of_run c.end-ended.new.self c.args.task.number None c.end-ended.ensures.gone tt

pub returns-in_err-settle-clause-of_run : goal.returns-in_err-settle-clause-of_run
returns-in_err-settle-clause-of_run g c = task_changed g.W.Run.setting _ c.args.core.now.shards c.args.core.now.live c.requires.of_run c.end-ended.new.self c.args.task.number None c.end-ended.ensures.gone tt

pub returns-in_err-letters_of-clause-of_run : goal.returns-in_err-letters_of-clause-of_run
returns-in_err-letters_of-clause-of_run g c = task_changed g.W.Run.setting _ c.args.core.now.shards c.args.core.now.live c.requires.of_run c.end-ended.new.self c.args.task.number None c.end-ended.ensures.gone tt

pub returns-clause-of_run : goal.returns-clause-of_run
returns-clause-of_run g c = task_changed g.W.Run.setting _ c.args.core.now.shards c.args.core.now.live c.requires.of_run c.end-ended.new.self c.args.task.number None c.end-ended.ensures.gone tt

pub letters_of-requires-clause-tells : goal.letters_of-requires-clause-tells
letters_of-requires-clause-tells g c =
    let run = g.W.Run.setting in
    let old = c.args.core.now in
    let h = c.requires.of_run in
    let there = id_there c.args.task (entry_at old.live c.args.task.number) c.requires.live in
    let e = there.0 in
    let ended = c.end-ended.result in
    let tells = ending_tells run old.shards e (task_at run old.cluster.shards old.shards old.live h c.args.task.number e there.1) (moment old.shards old.clock e) c.args.ending ended.0.mark h.steady (c.requires.planned e there.1) in
    left_tells run e ended.1 c.args.task c.args.ending ended.0.mark c.in_ok-reply.reply (c.end-ended.ensures.left e there.1) there.2 c.in_ok-reply.ensures.reply tells

pub letters_of-requires-clause-task : goal.letters_of-requires-clause-task
letters_of-requires-clause-task g c =
    let there = id_there c.args.task (entry_at c.args.core.now.live c.args.task.number) c.requires.live in
    subst (λ (r : ReceiptParts). IsSome r.task) (sym (c.end-ended.ensures.receipt there.0 there.1)) refl

pub letters_of-requires-clause-lawful : goal.letters_of-requires-clause-lawful
letters_of-requires-clause-lawful g c =
    let old = c.args.core.now in
    let allowed = cancels_of g.W.Run.cancels in
    let there = id_there c.args.task (entry_at old.live c.args.task.number) c.requires.live in
    let e = there.0 in
    let good = each_at (IsGoodEntry allowed old.shards) old.live c.requires.sound.good c.args.task.number e there.1 in
    let ended = c.end-ended.result in
    let lawful = ending_lawful allowed c.args.task c.args.ending ended.0.mark ended.1.work c.requires.ending (told_of_run g.W.Run.cancels ended.0.mark c.end-ended.ensures.allowed) in
    end_lawful allowed old.shards e ended.1 c.in_ok-reply.reply good (c.end-ended.ensures.left e there.1) (subst (IsLawfulReply allowed) {x = reply_of c.args.task c.args.ending ended.0.mark ended.1.work} (sym c.in_ok-reply.ensures.reply) lawful)

pub returns-then-unanswered-gt0-clause-steps : goal.returns-then-unanswered-gt0-clause-steps
returns-then-unanswered-gt0-clause-steps g c = λ e at.
    let same = found_is _ c.in-Some.entry.now e c.in-Some.ensures at in
    let some : unanswered e.running.track ≡ 0 → ⊥ = λ zero. absurd (omega (arith, c.if-unanswered-gt0.true, c.unanswered.ensures, ap (λ x. unanswered x.running.track) same, zero)) in
    record { ended = λ zero. absurd (some zero); waits = λ f. record { none = refl; same = refl; uncalled = refl } }

pub returns-clause-steps : goal.returns-clause-steps
returns-clause-steps g c = λ e at.
    let old = c.args.core.now in
    let end = c.end-ended.ensures in
    let id = its_id c.args.task _ e c.requires.live at in
    let same = found_is _ c.in-Some.entry.now e c.in-Some.ensures at in
    let zero : unanswered e.running.track ≡ 0 = omega (arith, c.if-unanswered-gt0.false, c.unanswered.ensures, ap (λ x. unanswered x.running.track) same) in
    let ended = c.end-ended.result in
    record {
      ended = λ none. ends_so g.B.DataBoard.rests c.args.ending e c.args.board.now old c.end-ended.new.self c.settle.new.contexts c.end-ended.new.board c.args.task ended.0.mark ended.1 ended.0.receipt c.in_ok-reply.reply c.shown_by-page.result _
          (sym id) (end.left e at) (end.receipt e at) c.in_ok-reply.ensures.reply (c.shown_by-page.ensures ∙ ap shown_by (sym same)) (end.rests e at)
          (subst (λ t. ChangesAt (entry_at old.live) (entry_at c.end-ended.new.self) t.number None) (sym id) end.gone) end.free c.in_ok-letters_of.ensures.posts
          (subst (λ n. Settles old.contexts c.settle.new.contexts c.args.task c.shown_by-page.result ended.1.work c.in_ok-reply.reply n) c.now.ensures.same c.in_ok-settle.ensures.settles);
      waits = λ f. absurd (f zero);
    }
