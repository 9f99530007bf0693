use Rattle.std.proofs.Common.{◌∙◌, Some, sym, ap}
use Rattle.std.specs.Prelude.{is_some}
use Rattle.std.specs.Option.{option_copied}
use Rattle.world_moves.proofs.StepsAfter.{is_kept, kept_running}
use Rattle.world_steps.proofs.naming.is_marked.Goals as goal

pub unreachable-requires : goal.unreachable-requires
unreachable-requires c =
    let s = c.args.state.now in
    is_kept s.cluster s.corpus.now s.script.now s.history _ _ s.flight c.requires.ties c.args.task c.requires.live (sym c.get.ensures.value ∙ ap option_copied c.in-None.is)

pub returns : goal.returns
returns c =
    let s = c.args.state.now in
    let was = sym c.get.ensures.value ∙ ap option_copied c.in-Some.is ∙ ap Some (sym c.get-in-Some.ensures) in
    let track = (kept_running s.cluster s.corpus.now s.script.now s.history _ _ s.flight c.requires.ties c.args.task c.requires.live c.get-in-Some.result.now was).track in
    c.is_some.ensures ∙ ap is_some (c.closed.ensures.number ∙ ap (λ track. track.closed) track)
