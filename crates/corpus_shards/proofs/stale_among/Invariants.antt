use Rattle.std.proofs.Common.{string_bytes}
use Rattle.std.specs.List.{AllByRecursion}
use Rattle.corpus_shards.specs.Noted.{AreNoted}
use Rattle.corpus_shards.proofs.stale_among.Given as goal

-- those of the indices so far are noted
abbrev pub invariant-loop-index : goal.invariant-loop-index
invariant-loop-index l = AllByRecursion (λ pair. AreNoted l.stale.items (string_bytes pair.0.now) pair.1.now.items) l.yielded
