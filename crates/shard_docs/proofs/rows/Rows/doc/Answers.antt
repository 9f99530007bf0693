use Rattle.std.proofs.Common.{drop, sym, ap, ◌∙◌}
use Rattle.shard_docs.specs.KeptRows.{below}
use Rattle.shard_docs.specs.SeenRows.{SeenRows}
use Rattle.shard_docs.proofs.KeptReads.{none_found, doc_seen, no_such}
use Rattle.shard_docs.proofs.rows.Rows.doc.Goals as goal

pub unreachable-requires : goal.unreachable-requires
unreachable-requires c =
    let kept = c.self.inside.kept.items in
    let there = c.rows_from-rows.ensures ∙ ap (λ l. drop (below c.args.place l) l) c.as_slice.ensures.value in
    no_such c.args.self.now.rows c.args.place c.requires (none_found c.self.inside.oldest c.args.place kept c.rows_from-rows.result.now c.args.self.now.rows c.self.invariant there (ap (λ (s : SeenRows). s.rows) c.self.view_is) (sym c.in_default.ensures))

pub returns : goal.returns
returns c =
    let kept = c.self.inside.kept.items in
    let there = c.rows_from-rows.ensures ∙ ap (λ l. drop (below c.args.place l) l) c.as_slice.ensures.value in
    doc_seen c.self.inside.oldest c.args.place kept c.rows_from-rows.result.now c.args.self.now.rows c.self.invariant there (ap (λ (s : SeenRows). s.rows) c.self.view_is) c.in-Some.row.now (sym c.in-Some.ensures)
