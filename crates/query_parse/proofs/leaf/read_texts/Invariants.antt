use Rattle.std.proofs.Common.{◌≡◌, drop}
use Rattle.serde_json.specs.Find.{as_str}
use Rattle.task_ids.specs.Json.{json_items}
use Rattle.query_parse.specs.Paths.{path_text}
use Rattle.query_parse.specs.Reading.{each_at}
use Rattle.query_parse.proofs.Each.{with_front}
use Rattle.query_parse.proofs.leaf.read_texts.Given as goal

abbrev pub invariant-loop-i : goal.invariant-loop-i
invariant-loop-i l = with_front l.read.items (each_at as_str (path_text l.path) l.i (json_items (drop l.i l.values))) ≡ each_at as_str (path_text l.path) 0 (json_items l.values)
