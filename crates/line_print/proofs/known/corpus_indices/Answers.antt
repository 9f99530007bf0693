use Rattle.std.proofs.Common.{◌<◌, ◌∙◌, ap, length, get_or, arith}
use Rattle.std.specs.HashSet.{contains_by}
use Rattle.std.specs.Str.{bytes_eq}
use Rattle.line_print.proofs.KnownLemmas.{known_more}
use Rattle.line_print.proofs.known.corpus_indices.Goals as goal

pub loop-line-preserved : goal.loop-line-preserved
loop-line-preserved c = λ index.
    let same = c.as_slice-line-items.ensures in
    let here : c.loop-line.line-index < length c.args.corpus.now.lines = omega (arith, ap length same) in
    known_more c.args.corpus.now.lines c.loop-line.line-index c.line-item.result index c.as_str.result.now
    (contains_by (λ k. bytes_eq index k.now) c.loop-line.known) (contains_by (λ k. bytes_eq index k.now) c.insert.new.self) here
    (c.line-item.is ∙ ap (λ lines. get_or lines c.loop-line.line-index c.line-item.result) same) c.as_str.ensures
    (c.in_ok-insert.ensures.updates.0 (record { ref_ptr = (0, 0); now = index })) (c.loop-line.invariant index)
