use Rattle.std.proofs.Common.{◌≡◌, take, filter_map}
use Rattle.task_events.specs.Answers.{hit_at}
use Rattle.search_phase.proofs.fetch.hits_at.Given as goal

abbrev pub invariant-loop-place : goal.invariant-loop-place
invariant-loop-place l = l.hits.items ≡ filter_map (hit_at l.ask.index l.ask.version l.shard.writes) (take l.place-index l.places)
