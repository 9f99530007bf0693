use Rattle.top_parts.proofs.NumberLemmas.{script_begins}
use Rattle.top_parts.proofs.reading.read_input.Goals as goal

pub read_script-requires-clause-number : goal.read_script-requires-clause-number
read_script-requires-clause-number c = script_begins c.args.input.now c.in_ok-read.read 67108864 c.in_ok-read.ensures.gives c.requires
