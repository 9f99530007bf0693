use Rattle.std.proofs.Common.{◌≡◌, ◌∙◌, ◌++◌}
use Rattle.std.specs.Prelude.{codes}
use Rattle.node_parts.proofs.Texts.{from_front}
use Rattle.node_parts.proofs.kinds.reindex_description.Goals as goal

pub returns : goal.returns
returns c =
    let source : c.as_str-source.result.now ≡ c.args.ask.now.source = c.as_str-source.ensures ∙ c.get.ensures in
    let dest : c.as_str-dest.result.now ≡ c.args.ask.now.dest = c.as_str-dest.ensures ∙ c.get-2.ensures in
    c.new.ensures ∙ c.in_ok-format.ensures.ok ∙ (λ i. codes "reindex from [" ++ (source i ++ (codes "] to [" ++ (dest i ++ codes "]"))))
    ∙ from_front (codes "reindex from [") c.args.ask.now.source (codes "] to [") c.args.ask.now.dest (codes "]")
