use Rattle.std.proofs.Common.{◌≡◌, ◌++◌, ◌∷◌, [], ap, sym, subst, ◌∙◌, arith, length}
use Rattle.shard_docs.specs.KeptRows.{shown, AreKept}
use Rattle.shard_docs.specs.SeenRows.{SeenRows, new_row}
use Rattle.shard_docs.proofs.KeptLemmas.{many_shown, end_of}
use Rattle.shard_docs.proofs.KeptChanges.{kept_more, shown_more}
use Rattle.shard_docs.proofs.rows.Rows.push.Goals as goal

-- its place is the one behind the last
next_place : (c : goal.After-push_reserved) → c.len-place.result ≡ end_of 0 c.self.inside.kept.items
next_place c =
    let many = many_shown c.self.inside.oldest 0 c.self.inside.kept.items c.self.invariant in
    let counted = ap (λ (s : SeenRows). length s.rows) c.self.view_is in
    omega (arith, many, counted, c.len-place.ensures)

pub invariant_of-self : goal.invariant_of-self
invariant_of-self c =
    subst (AreKept c.self.inside.oldest 0) (sym c.push_reserved.ensures.items) (kept_more c.self.inside.oldest 0 c.len-place.result c.self.inside.kept.items c.args.doc c.self.invariant (next_place c))

pub returns-clause-rows : goal.returns-clause-rows
returns-clause-rows c =
    ap (shown c.self.inside.oldest 0) c.push_reserved.ensures.items
    ∙ shown_more c.self.inside.oldest 0 c.len-place.result c.self.inside.kept.items c.args.doc c.self.invariant (next_place c)
    ∙ ap (λ (s : SeenRows). s.rows ++ new_row c.args.doc ∷ []) c.self.view_is
