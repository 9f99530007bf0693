use Rattle.std.proofs.Common.{◌≡◌, ℕ, List, true, cond, get_or, ap, subst}
use Rattle.task_events.specs.declared.request.SearchAsk.{SearchAsk}
use Rattle.scroll_table.specs.declared.versions.Kept.{Kept}
use Rattle.scroll_table.specs.Versions.{keeps, is_row}
use Rattle.scroll_table.proofs.Versioned.{all_written, none_written, one_shard_more}
use Rattle.scroll_table.proofs.versions.Versions.add.Goals as goal

pub loop-count-preserved : goal.loop-count-preserved
loop-count-preserved c =
    let counts = c.as_slice-count-items in
    let context = c.args.context.now in
    let index : c.as_str-index.result.now ≡ context.ask.index = cc (ap (λ (ask : SearchAsk). ask.index) c.get.ensures) in
    let n = get_or counts.result.now c.loop-count.count-index (record { shard = 0; version = 0; count = 0 }) in
    let kept : Kept = record { shard = n.shard; version = n.version; id = c.args.id } in
    let written = subst (λ (bytes : List ℕ). (i : List ℕ) (k : Kept) → keeps c.put.new.self i k ≡ cond (is_row bytes kept i k) true (keeps c.loop-count.self i k)) index c.in-Ok.ensures.ok in
    one_shard_more true c.args.id context.ask.index counts.result.now context.shards c.loop-count.count-index (record { shard = 0; version = 0; count = 0 }) counts.ensures.shards c.loop-count-test.true (keeps c.args.self.now) (keeps c.loop-count.self) (keeps c.put.new.self)
    c.loop-count.invariant written

pub returns-in_default-clause-err : goal.returns-in_default-clause-err
returns-in_default-clause-err c =
    none_written c.args.id c.args.context.now c.loop-count.count-index c.as_slice-count-items.ensures.counts.ascend (keeps c.args.self.now) (keeps c.loop-count.self) (keeps c.put.new.self) (keeps c.remove.new.self) c.requires.fresh c.loop-count.invariant
    c.in_default.ensures.err c.remove.ensures

pub returns-clause-ok : goal.returns-clause-ok
returns-clause-ok c =
    let counts = c.as_slice-count-items in
    all_written true c.args.id c.args.context.now counts.result.now c.loop-count.count-index counts.ensures.shards c.loop-count-test.false counts.ensures.counts.ascend (keeps c.args.self.now) (keeps c.loop-count.self) c.loop-count.invariant
