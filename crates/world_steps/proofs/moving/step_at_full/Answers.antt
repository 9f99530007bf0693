use Rattle.std.proofs.Common.{◌≡◌, ◌∙◌, Bool, true, false, Option, Some, None, refl, ap, sym}
use Rattle.std.specs.Prelude.{◌&&◌, is_some}
use Rattle.std.specs.Option.{option_copied}
use Rattle.task_events.specs.declared.event.Event.{Event}
use Rattle.task_events.specs.Tasks.{is_live}
use Rattle.world_moves.proofs.StepsAfter.{runs_of, gone_of}
use Rattle.world_steps.specs.Runs.{next_of}
use Rattle.world_steps.proofs.StepsBegin.{cut_at_full}
use Rattle.world_steps.proofs.moving.step_at_full.Goals as goal

-- a live task that is not ready has no next event
no_next : (live : Bool) (o : Option Event) → live ≡ true → (live && is_some o) ≡ false → o ≡ None
no_next false o l e = absurd (cc)
no_next true None l e = refl
no_next true (Some x) l e = absurd (cc)

pub returns-then-contains-clause-full : goal.returns-then-contains-clause-full
returns-then-contains-clause-full c =
    let s = c.args.state.now in
    (refl, cut_at_full s.cluster s.corpus.now s.script.now c.args.task s.history c.requires.full (sym (c.requires.known.tasks c.args.task) ∙ sym c.contains.ensures ∙ c.if-contains.true))

pub returns-in-Some-clause-stepped : goal.returns-in-Some-clause-stepped
returns-in-Some-clause-stepped c =
    let s = c.args.state.now in
    let kept = sym c.get.ensures.value ∙ ap option_copied c.in-Some.is in
    let live = (runs_of s.cluster s.corpus.now s.script.now s.history _ _ _ c.requires.tied.ties c.args.task _ kept).live in
    (live, no_next (is_live c.args.task s.history) (next_of s.cluster s.corpus.now s.script.now c.args.task s.history) live (sym (c.requires.known.tasks c.args.task) ∙ sym c.contains.ensures ∙ c.if-contains.false), refl)

pub returns-in-None-clause-stepped : goal.returns-in-None-clause-stepped
returns-in-None-clause-stepped c =
    let s = c.args.state.now in
    (gone_of s.cluster s.corpus.now s.script.now s.history _ _ _ c.requires.tied.ties c.args.task (sym c.get.ensures.value ∙ ap option_copied c.in-None.is), refl)
