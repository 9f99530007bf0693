use Rattle.std.proofs.Common.{◌≡◌, drop, find}
use Rattle.shard_docs.proofs.KeptLemmas.{is_kept}
use Rattle.shard_docs.proofs.rows.first_kept.Given as goal

abbrev pub invariant-loop-row : goal.invariant-loop-row
invariant-loop-row l = find (is_kept l.oldest) l.rows ≡ find (is_kept l.oldest) (drop l.row-index l.rows)
