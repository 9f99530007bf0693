use Rattle.std.proofs.Common.{◌∙◌, ◌||◌, ap}
use Rattle.std.specs.HashSet.{contains_by}
use Rattle.std.specs.List.{list_any}
use Rattle.std.specs.Str.{bytes_eq}
use Rattle.std.proofs.lemmas.List.{take_all}
use Rattle.command_roots.specs.Known.{is_of_corpus}
use Rattle.line_print.proofs.KnownLemmas.{none_yet, dest_more}
use Rattle.line_print.proofs.known.indices_of.Goals as goal

pub loop-dest-init : goal.loop-dest-init
loop-dest-init c = λ index. c.in_ok-known.ensures index ∙ none_yet (is_of_corpus c.args.corpus.now index)

pub loop-dest-preserved : goal.loop-dest-preserved
loop-dest-preserved c = λ index.
    dest_more c.args.dests.now c.loop-dest.dest-index c.dest-item.result index c.as_str.result.now (is_of_corpus c.args.corpus.now index)
    (contains_by (λ k. bytes_eq index k.now) c.loop-dest.known) (contains_by (λ k. bytes_eq index k.now) c.insert.new.self) c.loop-dest-test.true
    c.dest-item.is c.as_str.ensures
    (c.in_ok-insert.ensures.updates.0 (record { ref_ptr = (0, 0); now = index })) (c.loop-dest.invariant index)

pub returns : goal.returns
returns c = λ index. c.loop-dest.invariant index ∙ ap (λ dests. is_of_corpus c.args.corpus.now index || list_any (bytes_eq index) dests) (take_all c.loop-dest.dest-index c.args.dests.now c.loop-dest-test.false)
