-- The documents of a text.
use Rattle.std.specs.Prelude.{[], Result, Ok, Err}
use Rattle.task_ids.specs.declared.corpus.Corpus.{Corpus}
use Rattle.shard_docs.specs.Corpus.{Read}
use Rattle.shard_docs.specs.Fault.{Fault}

-- those that were read, or none of a text with a fault
abbrev pub docs_in : Result Read Fault → Corpus
docs_in (Ok read) = record { lines = read.0 }
docs_in (Err fault) = record { lines = [] }
