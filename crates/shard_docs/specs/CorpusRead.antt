-- What is read of an input up to its script, as a place in its bytes.
use Rattle.std.specs.Prelude.{ℕ, List, drop}
use Rattle.std.specs.Str.Lines.{lines}
use Rattle.shard_docs.specs.declared.corpus.CorpusRead.{CorpusRead}
use Rattle.shard_docs.specs.Corpus.{Read}

-- the documents, the number of the script's first line, and the lines of the bytes from the script on
abbrev pub read_of : List ℕ → CorpusRead → Read
read_of bytes read = (read.corpus.lines, read.script_line, lines (drop read.script_at bytes))
