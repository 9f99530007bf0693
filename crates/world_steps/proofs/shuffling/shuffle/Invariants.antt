use Rattle.world_steps.proofs.Shuffled.{HasShuffled}
use Rattle.world_steps.proofs.shuffling.shuffle.Given as goal

abbrev pub invariant-loop : goal.invariant-loop
invariant-loop l = HasShuffled l.initial.state l.seed l.moves l.state l.ready l.counter l.chance
