use Rattle.std.proofs.Common.{ltb, length, refl, arith, ap, ◌∙◌, rules}
use Rattle.std.proofs.lemmas.List.Sorted.{IsPartitionPoint-from_clause, IsPartitionedBy-ltb}
use Rattle.std.proofs.lemmas.Option.{slice_get_read}
use Rattle.shard_docs.specs.declared.rows.StoredRow.{StoredRow}
use Rattle.shard_docs.specs.KeptRows.{below}
use Rattle.shard_docs.proofs.KeptPlaces.{direct, rising, found_below}
use Rattle.shard_docs.proofs.rows.position.Goals as goal

pub returns-in-Some-clause-count : goal.returns-in-Some-clause-count
returns-in-Some-clause-count c =
    let rows = c.args.rows.now in
    let place = c.args.place in
    let row = c.in-Some.row.now in
    let found = c.in-Some.ensures.lookup.3 in
    let here = slice_get_read rows (length rows) place row refl found.0 (found.1 row) in
    direct c.requires.0 0 place rows row c.requires.1 here (c.if-row-place.true ∙ omega arith) ∙ ap (λ p. below p rows) c.if-row-place.true

pub returns-in_default-clause-count : goal.returns-in_default-clause-count
returns-in_default-clause-count c =
    let rows = c.args.rows.now in
    let place = c.args.place in
    let parted = IsPartitionedBy-ltb (λ (r : StoredRow). r.place) rows place (rising c.requires.0 0 rows c.requires.1) in
    let point = IsPartitionPoint-from_clause (λ (r : StoredRow). ltb r.place place) rows c.partition_point.result c.partition_point.ensures.partitioned parted (λ a r q k. search rules) in
    found_below place rows c.partition_point.result c.partition_point.ensures.bound point
