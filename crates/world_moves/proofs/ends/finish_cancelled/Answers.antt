use Rattle.std.proofs.Common.{◌≡◌, ◌∙◌, ◌∷◌, length, rules, map, reverse, Some, refl, ap, sym, subst}
use Rattle.std.specs.Prelude.{option_map, OnOk, OnErr, Err}
use Rattle.std.specs.Option.{option_copied}
use Rattle.task_events.specs.declared.reply.Reply.TheVariants.{Cancelled}
use Rattle.task_events.specs.declared.event.Event.TheVariants.{End}
use Rattle.task_events.specs.declared.history.TheConstants.{MAX_EVENTS}
use Rattle.task_events.specs.declared.stop.Stop.TheVariants.{HistoryFull}
use Rattle.task_events.specs.Allowed.{EndAllowed}
use Rattle.world_moves.specs.Cancels.{answer_to, due_for, with_due}
use Rattle.world_moves.specs.Moves.{IsPartOf, IsCutShort}
use Rattle.world_moves.specs.Ties.{counts_in}
use Rattle.world_moves.proofs.CountsKept.{counted_so}
use Rattle.world_moves.proofs.StepsAfter.{is_kept}
use Rattle.world_moves.proofs.CancelledEnds.{none_part}
use Rattle.world_moves.proofs.CutShort.{cut_first}
use Rattle.world_moves.proofs.ends.finish_cancelled.Goals as goal

pub unreachable-requires : goal.unreachable-requires
unreachable-requires c =
    let s = c.args.state.now in
    is_kept s.cluster s.corpus.now s.script.now s.history _ _ _ c.requires.tied.ties c.args.task c.requires.live (sym c.get.ensures.value ∙ ap option_copied c.in_default.is)

pub leave-requires-clause-leaves : goal.leave-requires-clause-leaves
leave-requires-clause-leaves c =
    let s = c.args.state.now in
    let t = c.args.task in
    let was = sym c.get.ensures.value ∙ ap option_copied c.in-Some.is ∙ ap Some (sym c.get-2.ensures) in
    let counts = counted_so s.cluster s.corpus.now s.script.now s.history _ _ _ c.requires.tied.ties t c.requires.live c.requires.passed _ was in
    let says = c.in-Ok.ensures.reply ∙ ap (Cancelled t c.args.cancel) (sym counts) in
    let allowed : EndAllowed t (Cancelled t c.args.cancel (counts_in s t)) s.history = record {
      goes_on = record { live = c.requires.live; passed = c.requires.passed };
      answered = c.requires.answered;
      cancelled = sym (ap (option_map (λ d. (t, d))) c.requires.marked);
      no_rejection = refl;
    } in
    (refl, (c.args.cancel, says, subst (λ reply. EndAllowed t reply s.history) (sym says) allowed))

-- the history was full from the start
pub returns-then-len-eq-MAX_EVENTS-clause-part : goal.returns-then-len-eq-MAX_EVENTS-clause-part
returns-then-len-eq-MAX_EVENTS-clause-part c =
    let h = c.args.state.now.history in
    let event = End c.args.task (Cancelled c.args.task c.args.cancel (counts_in c.args.state.now c.args.task)) in
    none_part h (reverse (map (answer_to (event ∷ h)) (due_for c.args.task (event ∷ h)))) event

pub returns-then-len-eq-MAX_EVENTS-clause-full : goal.returns-then-len-eq-MAX_EVENTS-clause-full
returns-then-len-eq-MAX_EVENTS-clause-full c = λ failed.
    let h = c.args.state.now.history in
    let event = End c.args.task (Cancelled c.args.task c.args.cancel (counts_in c.args.state.now c.args.task)) in
    let full : length h ≡ MAX_EVENTS = search rules in
    cut_first h h (reverse (map (answer_to (event ∷ h)) (due_for c.args.task (event ∷ h)))) event full refl

-- memory ran out before anything came
pub returns-in-Err-clause-part : goal.returns-in-Err-clause-part
returns-in-Err-clause-part c =
    let h = c.args.state.now.history in
    let event = End c.args.task (Cancelled c.args.task c.args.cancel (counts_in c.args.state.now c.args.task)) in
    none_part h (reverse (map (answer_to (event ∷ h)) (due_for c.args.task (event ∷ h)))) event

-- it ends with that reply
pub returns-clause-happened : goal.returns-clause-happened
returns-clause-happened c =
    let s = c.args.state.now in
    let t = c.args.task in
    let was = sym c.get.ensures.value ∙ ap option_copied c.in-Some.is ∙ ap Some (sym c.get-2.ensures) in
    let counts = counted_so s.cluster s.corpus.now s.script.now s.history _ _ _ c.requires.tied.ties t c.requires.live c.requires.passed _ was in
    let says = c.in-Ok.ensures.reply ∙ ap (Cancelled t c.args.cancel) (sym counts) in
    subst (λ reply. OnOk c.leave.result (c.leave.new.state.history ≡ with_due (End t reply) s.history)) says c.leave.ensures.happened

pub returns-clause-part : goal.returns-clause-part
returns-clause-part c =
    let s = c.args.state.now in
    let t = c.args.task in
    let was = sym c.get.ensures.value ∙ ap option_copied c.in-Some.is ∙ ap Some (sym c.get-2.ensures) in
    let counts = counted_so s.cluster s.corpus.now s.script.now s.history _ _ _ c.requires.tied.ties t c.requires.live c.requires.passed _ was in
    let says = c.in-Ok.ensures.reply ∙ ap (Cancelled t c.args.cancel) (sym counts) in
    subst (λ reply. OnErr c.leave.result (IsPartOf s.history c.leave.new.state.history (with_due (End t reply) s.history))) says c.leave.ensures.part

pub returns-clause-full : goal.returns-clause-full
returns-clause-full c =
    let s = c.args.state.now in
    let t = c.args.task in
    let was = sym c.get.ensures.value ∙ ap option_copied c.in-Some.is ∙ ap Some (sym c.get-2.ensures) in
    let counts = counted_so s.cluster s.corpus.now s.script.now s.history _ _ _ c.requires.tied.ties t c.requires.live c.requires.passed _ was in
    let says = c.in-Ok.ensures.reply ∙ ap (Cancelled t c.args.cancel) (sym counts) in
    subst (λ reply. c.leave.result ≡ Err HistoryFull → IsCutShort (λ past. IsPartOf s.history past (with_due (End t reply) s.history)) c.leave.new.state.history) says c.leave.ensures.full
