-- The text of a path.
use Rattle.std.specs.Prelude.{ℕ, List, codes, decimal}
use Rattle.query_parse.specs.declared.path.Path.{Path, fold-Path}
use Rattle.query_parse.specs.declared.path.Path.TheOpen.{Path-F}
use Rattle.query_parse.specs.Reading.{under}

abbrev pub path_step : Path-F (List ℕ) → List ℕ
path_step Path-F.Query = codes "query"
path_step (Path-F.Key above key) = under above.now key.now
path_step (Path-F.Place above place) = under above.now (decimal place)

abbrev pub path_text : Path → List ℕ
path_text = fold-Path (List ℕ) path_step
