use Rattle.std.proofs.Common.{◌≡◌, ◌≤◌, ◌+◌, [], length, IsTrue}
use Rattle.std.specs.Str.Lines.{lines}
use Rattle.shard_docs.specs.Corpus.{documents}
use Rattle.shard_docs.specs.Ends.{IsEndOf}
use Rattle.shard_docs.specs.Json.{begins_with_text}
use Rattle.shard_docs.proofs.NamesLemmas.{SameNames}
use Rattle.shard_docs.proofs.corpus.read_documents.Given as goal

-- the rest is read as the whole is, after the documents so far
abbrev pub invariant-loop-line : goal.invariant-loop-line
invariant-loop-line l = record {
  reads : documents l.number l.found (lines l.rest) ≡ documents 1 [] (lines l.bytes);
  begins : IsTrue (begins_with_text (lines l.rest)) → IsTrue (begins_with_text (lines l.bytes));
  names : SameNames l.seen l.found;
  ends : IsEndOf l.rest l.bytes;
  fits : l.number + length l.rest ≤ length l.bytes + 1;
}

abbrev pub decreases-loop-line : goal.decreases-loop-line
decreases-loop-line l = length l.rest
