use Rattle.std.proofs.Common.{◌≡◌, drop}
use Rattle.query_match.specs.Sorting.{key_of, key_cmp}
use Rattle.doc_match.proofs.keys.compare_key.Given as goal

-- the parts so far tie
abbrev pub invariant-loop-by : goal.invariant-loop-by
invariant-loop-by l = key_cmp (key_of l.sort l.source) l.initial.rest ≡ key_cmp (key_of (drop l.by-index l.sort) l.source) l.rest
