use Rattle.std.proofs.Common.{ap, sym, ◌∙◌, filter, leb, rules}
use Rattle.std.proofs.lemmas.List.{take_rest}
use Rattle.std.proofs.lemmas.List.Sorted.{IsPartitionPoint-from_clause, IsPartitionedBy-leb}
use Rattle.shard_docs.specs.Candidates.{is_above}
use Rattle.shard_docs.proofs.Above.{all_above, above_is}
use Rattle.shard_docs.proofs.index.places_above.Goals as goal

pub returns-in_default : goal.returns-in_default
returns-in_default c = all_above c.args.places.now ∙ ap (λ after. filter (is_above after) c.args.places.now) (sym c.in_default.is)

pub returns : goal.returns
returns c =
    let places = c.args.places.now in
    let after = c.in-Some.after in
    let parted = IsPartitionedBy-leb (λ p. p) places after c.requires in
    let point = IsPartitionPoint-from_clause (λ p. leb p after) places c.partition_point-start.result c.partition_point-start.ensures.partitioned parted (λ a r q k. search rules) in
    take_rest places c.partition_point-start.result ∙ above_is after places c.partition_point-start.result point ∙ ap (λ a. filter (is_above a) places) (sym c.in-Some.is)
