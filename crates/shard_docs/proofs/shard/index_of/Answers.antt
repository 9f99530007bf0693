use Rattle.std.proofs.Common.{◌≡◌, length, refl, sym, subst, arith}
use Rattle.std.proofs.lemmas.Option.{slice_get_read}
use Rattle.shard_docs.proofs.KeptIndexed.{HasFirst, one_more, no_other, whole}
use Rattle.shard_docs.proofs.shard.index_of.Goals as goal

pub loop-row-preserved : goal.loop-row-preserved
loop-row-preserved c =
    let s = c.args.rows.now in
    let items = c.kept-row-items.result.now in
    let i = c.loop-row.row-index in
    let row = c.row-item.result in
    let here = slice_get_read items (length items) i row refl c.loop-row-test.true c.row-item.is in (
      one_more s items c.kept-row-items.ensures.kept (sym c.kept-row-items.ensures.seen) i row here c.loop-row.index c.add.new.self c.add.ensures.others c.loop-row.invariant.0
          c.in_ok-add.ensures.added,
      no_other s items c.kept-row-items.ensures.kept (sym c.kept-row-items.ensures.seen) i row here c.loop-row.index c.add.new.self c.add.ensures.others c.loop-row.invariant.1
          c.add.ensures.kept,
    )

pub returns-clause-has : goal.returns-clause-has
returns-clause-has c =
    let items = c.kept-row-items.result.now in
    let all : c.loop-row.row-index ≡ length items = omega (arith, c.loop-row.auto.row-index-end, c.loop-row-test.false) in
    whole c.args.rows.now items c.kept-row-items.ensures.kept (sym c.kept-row-items.ensures.seen) c.loop-row.index (subst (λ i. HasFirst c.args.rows.now items i c.loop-row.index) all c.loop-row.invariant.0)
