use Rattle.world_steps.proofs.Readiness.{alarmed}
use Rattle.world_steps.proofs.ready.refresh.Goals as goal

pub ring-requires-clause-alarmed : goal.ring-requires-clause-alarmed
ring-requires-clause-alarmed c =
    let s = c.args.state.now in
    alarmed s c.args.before c.note_events.new.ready c.requires.tied.ties.lawful c.requires.tied.tells.clock_is c.in_ok-note_events.ensures.noted
