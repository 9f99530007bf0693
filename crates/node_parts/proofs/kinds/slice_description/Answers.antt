use Rattle.std.proofs.Common.{◌≡◌, ◌∙◌, ◌++◌}
use Rattle.std.specs.Prelude.{codes, decimal}
use Rattle.task_events.specs.SliceTask.{reindex_description}
use Rattle.node_parts.proofs.Texts.{from_front_six}
use Rattle.node_parts.proofs.kinds.slice_description.Goals as goal

pub returns : goal.returns
returns c =
    let ask = c.args.ask.now in
    let whole : c.as_str-whole.result.now ≡ reindex_description ask.reindex = c.as_str-whole.ensures ∙ c.in_ok-whole.ensures in
    c.new.ensures ∙ c.in_ok-format.ensures.ok
    ∙ (λ i. whole i ++ (codes " slice[" ++ (decimal ask.slice ++ (codes "/" ++ (decimal ask.reindex.slices ++ codes "]")))))
    ∙ from_front_six (reindex_description ask.reindex) (codes " slice[") (decimal ask.slice) (codes "/") (decimal ask.reindex.slices) (codes "]")
