use Rattle.std.proofs.Common.{◌≡◌, true, subst, ap, sym, ◌∙◌}
use Rattle.std.specs.Prelude.{OnOk}
use Rattle.std.proofs.lemmas.Result.{on_ok_weaker}
use Rattle.task_ids.specs.Placing.{shard_of}
use Rattle.held_shards.specs.Held.{holds, WritesTo}
use Rattle.held_shards.proofs.Lines.{written}
use Rattle.held_shards.proofs.HeldShards.take_in.Goals as goal

pub returns-then-holds-clause-lines : goal.returns-then-holds-clause-lines
returns-then-holds-clause-lines c lines has =
    let line = c.args.line.now in
    let held = c.args.self.now in
    let after = c.write.new.self in
    let id : c.as_bytes.result.now ≡ line.doc.id = c.as_bytes.ensures.value ∙ (c.as_str.ensures ∙ c.get.ensures) in
    let number : c.shard_of-number.result ≡ shard_of line.doc.id c.args.count = c.shard_of-number.ensures ∙ ap (λ i. shard_of i c.args.count) id in
    let some : holds held (shard_of line.doc.id c.args.count) ≡ true = subst (λ n. holds held n ≡ true) number (sym c.holds.ensures ∙ c.if-holds.true) in
    let here = subst (λ n. OnOk c.write.result (WritesTo line.index n line.doc held after)) number (subst (λ i. OnOk c.write.result (WritesTo i c.shard_of-number.result line.doc held after)) c.as_str-then-holds.ensures c.write.ensures.written) in
    on_ok_weaker c.write.result (λ w. written lines line c.args.count held after some c.write.ensures.numbers w has) here
