use Rattle.std.proofs.Common.{◌∙◌, ◌||◌, ap}
use Rattle.std.specs.List.{list_any}
use Rattle.std.specs.Str.{bytes_eq}
use Rattle.command_roots.specs.Known.{dests_of}
use Rattle.world_steps.proofs.world.new_shards.Goals as goal

pub returns-in-Ok-clause-from_start : goal.returns-in-Ok-clause-from_start
returns-in-Ok-clause-from_start c = λ index. c.in-Ok.ensures.known index ∙ ap (λ b. b || list_any (bytes_eq index) (dests_of c.args.script.now.commands)) (c.in_ok-shards.ensures.from_start index)

pub returns-in-Ok-clause-written : goal.returns-in-Ok-clause-written
returns-in-Ok-clause-written c = c.know_dests.ensures.written c.args.corpus.now c.args.count (λ _ _. 0) c.in_ok-shards.ensures.written

pub returns-in-Ok-clause-noted : goal.returns-in-Ok-clause-noted
returns-in-Ok-clause-noted c = c.know_dests.ensures.noted c.in_ok-shards.ensures.noted
