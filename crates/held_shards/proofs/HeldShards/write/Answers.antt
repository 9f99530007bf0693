use Rattle.std.proofs.Common.{◌<◌, ◌++◌, ◌∷◌, [], length, ap, ◌∙◌, arith}
use Rattle.std.specs.Prelude.{vec_len}
use Rattle.task_ids.specs.declared.doc.Doc.{Doc}
use Rattle.shard_docs.specs.ShardView.{ShardView}
use Rattle.held_shards.specs.Held.{shard_of_row}
use Rattle.held_shards.proofs.Rows.{wrote}
use Rattle.held_shards.proofs.HeldShards.write.Goals as goal

pub returns-clause-written : goal.returns-clause-written
returns-clause-written c =
    let held = c.place.new.self in
    let low : c.in_ok-place.place < vec_len held.rows = c.in_ok-place.ensures.place.1 in
    let within : c.in_ok-place.place < length held.rows.items = omega (arith, low, held.rows.ok.0) in
    wrote c.args.self.now held c.args.index.now c.args.number c.in_ok-place.place c.write.new.self c.args.doc.now c.place.ensures.same c.in_ok-place.ensures.place.0 within
    (c.in_ok-write.ensures.ok ∙ ap (λ (s : ShardView). s.writes ++ c.in_ok-copy.field-0 ∷ []) c.get_mut.ensures.value ∙ ap (λ (d : Doc). (shard_of_row held c.in_ok-place.place).writes ++ d ∷ []) c.in_ok-copy.ensures)
    (c.write.ensures.oldest ∙ ap (λ (s : ShardView). s.oldest) c.get_mut.ensures.value)
