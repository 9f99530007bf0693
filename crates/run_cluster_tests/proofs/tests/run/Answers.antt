-- The documents of the run are those that were read.
use Rattle.std.proofs.Common.{ℕ, List, refl, sym, ap, ◌∙◌}
use Rattle.std.specs.Str.Lines.{lines}
use Rattle.shard_docs.specs.Corpus.{corpus_of}
use Rattle.run_cluster_tests.specs.Docs.{docs_in}
use Rattle.run_cluster_tests.proofs.tests.run.Goals as goal

pub run_cluster-requires-clause-setting : goal.run_cluster-requires-clause-setting
run_cluster-requires-clause-setting g c = λ κs within. (ap (λ (bytes : List ℕ). docs_in (corpus_of (lines bytes))) (sym c.as_bytes.ensures.value) ∙ ap docs_in c.in-Ok.ensures.gives, refl)
