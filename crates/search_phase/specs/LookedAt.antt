-- Which rows that a query looks at match for certain.
use Rattle.std.specs.Prelude.{ℤ, List, Bool, ◌&&◌, Option, IfSome, is_none, slice_get}
use Rattle.task_ids.specs.declared.doc.Doc.{Doc}
use Rattle.query_match.specs.Picks.{is_its_pick}
use Rattle.query_match.specs.declared.sort.SortBy.{SortBy}
use Rattle.task_events.specs.declared.request.ShardAsk.{ShardAsk}
use Rattle.shard_docs.specs.Numbers.{HasNumber}

-- each row that it looks at matches, so that no document tells more
abbrev pub counts_all : ShardAsk → Bool
counts_all ask = is_none ask.slice && is_its_pick ask.body.query

-- the number, where one is given, is the one value that a document has at the first field of a sort
abbrev pub IsFirstNumber : List SortBy → Doc → Option ℤ → Type 0
IsFirstNumber sort doc number = IfSome number (λ n. IfSome (slice_get sort 0) (λ by. HasNumber by.field n doc))
