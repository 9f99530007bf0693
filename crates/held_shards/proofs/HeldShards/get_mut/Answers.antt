use Rattle.std.proofs.Common.{◌≡◌, ◌<◌, length, ap, ◌∙◌, refl, arith}
use Rattle.std.specs.Prelude.{vec_len}
use Rattle.std.specs.Vec.{with_item}
use Rattle.std.proofs.lemmas.List.{get_or_default}
use Rattle.shard_docs.specs.ShardView.{ShardView}
use Rattle.held_shards.specs.declared.HeldShard.{HeldShard}
use Rattle.held_shards.specs.Held.{no_row, row_of}
use Rattle.held_shards.proofs.HeldShards.get_mut.Goals as goal

pub returns : goal.returns
returns c =
    let held = c.args.self.now in
    let place = c.args.place in
    let low : place < vec_len held.rows = c.requires in
    let within : place < length held.rows.items = omega (arith, low, held.rows.ok.0) in
    let row_is : c.index_mut-row.result.now ≡ row_of held place = c.index_mut-row.ensures.value ∙ get_or_default held.rows.items place c.index_mut-row.result.now no_row within in
    let lent = λ (w : ShardView). ap (λ (r : HeldShard). record { alloc = held.alloc; numbers = held.numbers; rows = with_item held.rows place (record { index = r.index; number = r.number; shard = w }) }) row_is in
    ((refl, lent), record { lent = tt; value = ap (λ (r : HeldShard). r.shard) row_is })
