use Rattle.std.proofs.Common.{◌∷◌, ◌∙◌, inr, refl, sym, subst, rules, ◌≡◌, length, Result, Ok, Err, OnErr}
use Rattle.task_events.specs.declared.event.Event.TheVariants.{End}
use Rattle.task_events.specs.declared.step.Do.TheVariants.{AskNext, Turn, Wait, Finish}
use Rattle.world_moves.specs.Ties.{task_at}
use Rattle.node_parts.specs.Running.{DoesNext}
use Rattle.world_steps.proofs.NoneDue.{none_due}
use Rattle.world_steps.proofs.Plans.{does}
use Rattle.task_events.specs.declared.history.TheConstants.{MAX_EVENTS}
use Rattle.world_moves.specs.Moves.{IsCutShort, IsPartly, IsPartOf}
use Rattle.world_moves.specs.Ties.{turned_in}
use Rattle.world_moves.proofs.CutShort.{cut_move, cut_only}
use Rattle.world_moves.proofs.Outcomes.{stops}
use Rattle.world_steps.specs.Runs.{Steps}
use Rattle.world_steps.proofs.acting.work_on.Goals as goal

on_err : {T E : Type 0} (r : Result T E) (P : Type 0) → P → OnErr r P
on_err (Ok x) P p = tt
on_err (Err e) P p = p

pub returns-in-Wait : goal.returns-in-Wait
returns-in-Wait c =
    let s = c.args.state.now in
    let next = subst (DoesNext (task_at s.tasks c.args.task) s.clock) c.in-Wait.is c.requires.next in
    record {
      stepped = (c.requires.live, does s.cluster s.corpus.now s.script.now s.history _ _ _ c.requires.tied.ties c.args.task s.clock c.requires.tied.tells.clock_is c.requires.live c.requires.passed c.requires.unmarked (Wait c.in-Wait.field-0) next, refl);
      tied = c.requires.tied;
      keeps = record { cluster = refl; corpus = refl; script = refl };
      room = tt;
      part = tt;
      laws = tt;
      stop = tt;
    }

pub returns-in_ok-ask-in-AskNext : goal.returns-in_ok-ask-in-AskNext
returns-in_ok-ask-in-AskNext c =
    let s = c.args.state.now in
    let next = subst (DoesNext (task_at s.tasks c.args.task) s.clock) c.in-AskNext.is c.requires.next in
    record {
      stepped = (_, c.requires.live, does s.cluster s.corpus.now s.script.now s.history _ _ _ c.requires.tied.ties c.args.task s.clock c.requires.tied.tells.clock_is c.requires.live c.requires.passed c.requires.unmarked (AskNext c.in-AskNext.request) next, c.in_ok-ask-in-AskNext.ensures.happened);
      tied = c.in_ok-ask-in-AskNext.ensures.tied;
      keeps = c.in_ok-ask-in-AskNext.ensures.keeps;
      room = c.in_ok-ask-in-AskNext.ensures.room;
      part = tt;
      laws = tt;
      stop = tt;
    }

pub returns-in_ok-turn-in-Turn : goal.returns-in_ok-turn-in-Turn
returns-in_ok-turn-in-Turn c =
    let s = c.args.state.now in
    let next = subst (DoesNext (task_at s.tasks c.args.task) s.clock) c.in-Turn.is c.requires.next in
    record {
      stepped = (_, c.requires.live, does s.cluster s.corpus.now s.script.now s.history _ _ _ c.requires.tied.ties c.args.task s.clock c.requires.tied.tells.clock_is c.requires.live c.requires.passed c.requires.unmarked Turn next, c.in_ok-turn-in-Turn.ensures.happened);
      tied = c.in_ok-turn-in-Turn.ensures.tied;
      keeps = c.in_ok-turn-in-Turn.ensures.keeps;
      room = c.in_ok-turn-in-Turn.ensures.room;
      part = tt;
      laws = tt;
      stop = tt;
    }

pub returns-in_ok-finish-in-Finish : goal.returns-in_ok-finish-in-Finish
returns-in_ok-finish-in-Finish c =
    let s = c.args.state.now in
    let next = subst (DoesNext (task_at s.tasks c.args.task) s.clock) c.in-Finish.is c.requires.next in
    record {
      stepped = (_, c.requires.live, does s.cluster s.corpus.now s.script.now s.history _ _ _ c.requires.tied.ties c.args.task s.clock c.requires.tied.tells.clock_is c.requires.live c.requires.passed c.requires.unmarked (Finish c.in-Finish.reply) next, c.in_ok-finish-in-Finish.ensures.happened ∙ sym (none_due c.args.task (End c.args.task c.in-Finish.reply ∷ s.history) c.requires.unmarked));
      tied = c.in_ok-finish-in-Finish.ensures.tied;
      keeps = c.in_ok-finish-in-Finish.ensures.keeps;
      room = c.in_ok-finish-in-Finish.ensures.room;
      part = tt;
      laws = tt;
      stop = tt;
    }

pub returns-in_err-ask-in-AskNext-clause-stop : goal.returns-in_err-ask-in-AskNext-clause-stop
returns-in_err-ask-in-AskNext-clause-stop c =
    let s = c.args.state.now in
    let next = subst (DoesNext (task_at s.tasks c.args.task) s.clock) c.in-AskNext.is c.requires.next in
    let step = does s.cluster s.corpus.now s.script.now s.history _ _ _ c.requires.tied.ties c.args.task s.clock c.requires.tied.tells.clock_is c.requires.live c.requires.passed c.requires.unmarked (AskNext c.in-AskNext.request) next in
    stops c.from_residual.result (IsPartly (Steps s.cluster s.corpus.now s.script.now c.args.task) s.history) ⊥ c.ask.new.state.history (λ failed. (let full : length s.history ≡ MAX_EVENTS = search rules in
    cut_only (Steps s.cluster s.corpus.now s.script.now c.args.task) s.history c.ask.new.state.history _ (_, c.requires.live, step, refl) full c.in_err-ask-in-AskNext.ensures.err)) (λ failed. search rules)

pub returns-in_err-turn-in-Turn-clause-part : goal.returns-in_err-turn-in-Turn-clause-part
returns-in_err-turn-in-Turn-clause-part c =
    let s = c.args.state.now in
    let next = subst (DoesNext (task_at s.tasks c.args.task) s.clock) c.in-Turn.is c.requires.next in
    let step = does s.cluster s.corpus.now s.script.now s.history _ _ _ c.requires.tied.ties c.args.task s.clock c.requires.tied.tells.clock_is c.requires.live c.requires.passed c.requires.unmarked Turn next in
    on_err c.from_residual-in_err-turn-in-Turn.result _ (inr (_, (_, c.requires.live, step, refl), c.in_err-turn-in-Turn.ensures.part))

pub returns-in_err-turn-in-Turn-clause-stop : goal.returns-in_err-turn-in-Turn-clause-stop
returns-in_err-turn-in-Turn-clause-stop c =
    let s = c.args.state.now in
    let next = subst (DoesNext (task_at s.tasks c.args.task) s.clock) c.in-Turn.is c.requires.next in
    let step = does s.cluster s.corpus.now s.script.now s.history _ _ _ c.requires.tied.ties c.args.task s.clock c.requires.tied.tells.clock_is c.requires.live c.requires.passed c.requires.unmarked Turn next in
    stops c.from_residual-in_err-turn-in-Turn.result (IsPartly (Steps s.cluster s.corpus.now s.script.now c.args.task) s.history) ⊥ c.turn.new.state.history (λ failed. (let full : IsCutShort (λ past. IsPartOf s.history past (turned_in s c.args.task)) c.turn.new.state.history = search rules in
    cut_move (Steps s.cluster s.corpus.now s.script.now c.args.task) s.history c.turn.new.state.history _ (_, c.requires.live, step, refl) full)) (λ failed. search rules)

pub returns-in_err-finish-in-Finish-clause-stop : goal.returns-in_err-finish-in-Finish-clause-stop
returns-in_err-finish-in-Finish-clause-stop c =
    let s = c.args.state.now in
    let next = subst (DoesNext (task_at s.tasks c.args.task) s.clock) c.in-Finish.is c.requires.next in
    let step = does s.cluster s.corpus.now s.script.now s.history _ _ _ c.requires.tied.ties c.args.task s.clock c.requires.tied.tells.clock_is c.requires.live c.requires.passed c.requires.unmarked (Finish c.in-Finish.reply) next in
    stops c.from_residual-in_err-finish-in-Finish.result (IsPartly (Steps s.cluster s.corpus.now s.script.now c.args.task) s.history) ⊥ c.finish.new.state.history (λ failed. (let full : length s.history ≡ MAX_EVENTS = search rules in
    cut_only (Steps s.cluster s.corpus.now s.script.now c.args.task) s.history c.finish.new.state.history _ (_, c.requires.live, step, sym (none_due c.args.task (End c.args.task c.in-Finish.reply ∷ s.history) c.requires.unmarked)) full c.in_err-finish-in-Finish.ensures.err)) (λ failed. search rules)
