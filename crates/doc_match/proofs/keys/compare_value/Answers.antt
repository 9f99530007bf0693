-- One value is the least and the greatest.
use Rattle.std.proofs.Common.{sym, ap, ◌∙◌}
use Rattle.query_match.specs.Sorting.{best_of, part_of, part_cmp}
use Rattle.doc_match.proofs.keys.compare_value.Goals as goal

pub returns : goal.returns
returns c = λ source one. c.compare_best.ensures ∙ sym (ap (λ vs. part_cmp (part_of c.args.by.now.descending (best_of c.args.by.now.descending vs)) c.args.part.now) one)
