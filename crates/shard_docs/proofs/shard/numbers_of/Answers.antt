use Rattle.std.proofs.Common.{◌≡◌, true, false, length, refl, sym, ap, subst, ◌∙◌}
use Rattle.std.proofs.lemmas.Option.{slice_get_read}
use Rattle.std.specs.List.{AllByRecursion, slice_get}
use Rattle.std.specs.Option.{option_map_or}
use Rattle.query_match.specs.Values.{field_values}
use Rattle.shard_docs.specs.Numbers.{has_number, is_number_of}
use Rattle.shard_docs.proofs.Exact.{MayHave}
use Rattle.shard_docs.proofs.KeptIndexed.{may_have}
use Rattle.shard_docs.proofs.Numbered.{OfRow, gained, only_this}
use Rattle.shard_docs.proofs.shard.numbers_of.Goals as goal

pub loop-row-init : goal.loop-row-init
loop-row-init c = λ f. subst (AllByRecursion (λ number. is_number_of f c.args.rows.now number ≡ true)) (sym (c.new-numbers.ensures f)) tt

pub loop-row-preserved : goal.loop-row-preserved
loop-row-preserved c =
    let s = c.args.rows.now in
    let items = c.kept-row-items.result.now in
    let i = c.loop-row.row-index in
    let row = c.row-item.result in
    let here = slice_get_read items (length items) i row refl c.loop-row-test.true c.row-item.is in
    gained (OfRow row.place row.doc) s s c.loop-row.numbers c.add.new.self c.add.ensures (λ f n told. told)
    (λ f n of_row.
    ap (λ p. option_map_or (MayHave (has_number f n.number) s.oldest) (slice_get s.rows p) false) of_row.0
    ∙ may_have s items c.kept-row-items.ensures.kept (sym c.kept-row-items.ensures.seen) i row here (has_number f n.number) (only_this n.number (field_values f row.doc.source) of_row.1))
    c.loop-row.invariant
