use Rattle.std.proofs.Common.{ap, ◌∙◌, arith}
use Rattle.shard_docs.specs.SeenRows.{SeenRows, forgotten}
use Rattle.shard_docs.proofs.KeptForgotten.{forgets}
use Rattle.shard_docs.proofs.KeptLemmas.{raised}
use Rattle.shard_docs.proofs.rows.Rows.forget.Goals as goal

pub invariant_of-self : goal.invariant_of-self
invariant_of-self c = raised c.self.inside.oldest c.args.oldest 0 c.self.inside.kept.items (omega (arith, c.requires, ap (λ (s : SeenRows). s.oldest) c.self.view_is)) c.self.invariant

pub returns-clause-rows : goal.returns-clause-rows
returns-clause-rows c =
    forgets c.self.inside.oldest c.args.oldest 0 c.self.inside.kept.items (omega (arith, c.requires, ap (λ (s : SeenRows). s.oldest) c.self.view_is)) c.self.invariant ∙ ap (λ (s : SeenRows). forgotten c.args.oldest 0 s.rows) c.self.view_is
