use Rattle.std.proofs.Common.{◌∙◌, ◌&&◌, ap, sym}
use Rattle.std.specs.Prelude.{is_some}
use Rattle.std.specs.Option.{option_copied}
use Rattle.node_parts.specs.Running.{can_act}
use Rattle.world_steps.specs.Runs.{next_of}
use Rattle.world_steps.proofs.Plans.{acts_kept, writes_at}
use Rattle.world_moves.proofs.StepsAfter.{runs_of, gone_of}
use Rattle.world_steps.proofs.ready.is_ready.Goals as goal

pub returns-in-Some : goal.returns-in-Some
returns-in-Some c =
    let s = c.args.state.now in
    let kept = sym c.requires.given ∙ ap option_copied c.in-Some.is in
    let runs = runs_of s.cluster s.corpus.now s.script.now s.history _ _ _ c.requires.tied.ties c.args.task c.in-Some.running.now kept in
    let writes = writes_at s.cluster s.corpus.now s.script.now s.history _ _ _ c.requires.tied.ties c.args.task in
    c.can_act.ensures writes ∙ ap (can_act c.in-Some.running.now writes) c.requires.tied.tells.clock_is
    ∙ sym (acts_kept s.cluster s.corpus.now s.script.now s.history _ _ _ c.requires.tied.ties c.args.task runs.live c.in-Some.running.now kept)

pub returns-in-None : goal.returns-in-None
returns-in-None c =
    let s = c.args.state.now in
    let gone = gone_of s.cluster s.corpus.now s.script.now s.history _ _ _ c.requires.tied.ties c.args.task (sym c.requires.given ∙ ap option_copied c.in-None.is) in
    sym (ap (λ b. b && is_some (next_of s.cluster s.corpus.now s.script.now c.args.task s.history)) gone)
