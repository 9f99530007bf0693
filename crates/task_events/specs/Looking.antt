-- Work on a shard goes by turns, each of which looks at some rows or documents.
use Rattle.std.specs.Prelude.{ℕ, ◌*◌, List, ◌++◌, codes, decimal, Bool, true, false, ◌&&◌, nat_lt, nat_le}
use Rattle.task_events.specs.declared.reply.Reply.{Reply}
use Rattle.task_events.specs.declared.step.Do.{Do}
use Rattle.task_events.specs.declared.step.Do.TheVariants.{Turn, Finish}

-- how many rows or documents a turn of work looks at
unfoldable pub rows_per_turn : ℕ
rows_per_turn = 1024

-- work on so much is done after at least one turn, when all was looked at
abbrev pub is_done : ℕ → ℕ → Bool
is_done turns much = nat_lt 0 turns && nat_le much (turns * rows_per_turn)

abbrev pub work_or_end : Bool → Reply → Do
work_or_end false reply = Turn
work_or_end true reply = Finish reply

-- what work on a shard of an index is called in a detailed task list
abbrev pub shard_description : List ℕ → ℕ → List ℕ
shard_description index shard = codes "shardId[[" ++ index ++ codes "][" ++ decimal shard ++ codes "]]"
