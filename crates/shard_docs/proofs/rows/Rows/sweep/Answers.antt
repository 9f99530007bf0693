use Rattle.std.proofs.Common.{ap, subst, sym, ◌∙◌, rules}
use Rattle.std.proofs.lemmas.Fn.{filter_same}
use Rattle.shard_docs.specs.KeptRows.{shown, AreKept}
use Rattle.shard_docs.specs.SeenRows.{SeenRows}
use Rattle.shard_docs.proofs.KeptLemmas.{is_kept}
use Rattle.shard_docs.proofs.KeptChanges.{kept_swept, shown_swept}
use Rattle.shard_docs.proofs.rows.Rows.sweep.Goals as goal

pub invariant_of-self : goal.invariant_of-self
invariant_of-self c =
    let left = filter_same _ (is_kept c.self.inside.oldest) _ (λ x b f k. search rules) c.self.inside.kept.items _ c.retain.ensures.filtered in
    subst (AreKept c.self.inside.oldest 0) (sym left) (kept_swept c.self.inside.oldest 0 c.self.inside.kept.items c.self.invariant)

pub returns-clause-rows : goal.returns-clause-rows
returns-clause-rows c =
    let left = filter_same _ (is_kept c.self.inside.oldest) _ (λ x b f k. search rules) c.self.inside.kept.items _ c.retain.ensures.filtered in
    ap (shown c.self.inside.oldest 0) left ∙ shown_swept c.self.inside.oldest 0 c.self.inside.kept.items ∙ ap (λ (s : SeenRows). s.rows) c.self.view_is
