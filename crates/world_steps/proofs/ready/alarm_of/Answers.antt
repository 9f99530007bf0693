use Rattle.std.proofs.Common.{◌∙◌, ap, refl, sym}
use Rattle.std.specs.Option.{option_copied}
use Rattle.world_steps.specs.World.{due_by}
use Rattle.world_steps.proofs.Plans.{waits_kept, writes_at}
use Rattle.world_moves.proofs.StepsAfter.{runs_of, gone_of}
use Rattle.world_steps.proofs.ready.alarm_of.Goals as goal

pub returns-in-Some : goal.returns-in-Some
returns-in-Some c =
    let s = c.args.state.now in
    let kept = sym c.requires.given ∙ ap option_copied c.in-Some.is in
    let runs = runs_of s.cluster s.corpus.now s.script.now s.history _ _ _ c.requires.tied.ties c.args.task c.in-Some.running.now kept in
    let writes = writes_at s.cluster s.corpus.now s.script.now s.history _ _ _ c.requires.tied.ties c.args.task in
    c.due.ensures writes ∙ ap (due_by c.in-Some.running.now writes) c.requires.tied.tells.clock_is
    ∙ sym (waits_kept s.cluster s.corpus.now s.script.now s.history _ _ _ c.requires.tied.ties c.args.task runs.live c.in-Some.running.now kept)

pub returns-in-None : goal.returns-in-None
returns-in-None c =
    let s = c.args.state.now in
    let gone = gone_of s.cluster s.corpus.now s.script.now s.history _ _ _ c.requires.tied.ties c.args.task (sym c.requires.given ∙ ap option_copied c.in-None.is) in
    rw gone refl
