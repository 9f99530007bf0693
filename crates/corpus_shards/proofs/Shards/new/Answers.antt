use Rattle.std.proofs.Common.{◌≡◌, ℕ, ◌<◌, ◌^◌, List, length, Option, None, Some, take, subst, ◌∙◌, sym, ap, ◌++◌, ◌∷◌, [], refl, arith}
use Rattle.std.specs.Prelude.{IfSome}
use Rattle.std.specs.HashMap.{get_by_text}
use Rattle.std.specs.Global.{Vec}
use Rattle.std.proofs.lemmas.List.{take_more, take_all}
use Rattle.shard_docs.specs.ShardView.{ShardView}
use Rattle.corpus_shards.specs.declared.Shards.{Shards}
use Rattle.corpus_shards.specs.declared.Stale.{Stale}
use Rattle.corpus_shards.specs.Noted.{AreNoted}
use Rattle.corpus_shards.specs.Placed.{AreShards}
use Rattle.corpus_shards.proofs.Notes.{all_noted}
use Rattle.corpus_shards.proofs.PlacedLines.{no_lines, as_many_shards}
use Rattle.corpus_shards.proofs.Written.{placed, placed_indices}
use Rattle.corpus_shards.proofs.Shards.new.Goals as goal

pub loop-line-init : goal.loop-line-init
loop-line-init c = no_lines c.args.count c.new-by_index.result c.requires c.new-by_index.ensures.empty

pub loop-line-preserved : goal.loop-line-preserved
loop-line-preserved c =
    let items = c.as_slice-line-items.result.now in
    let more = take_more items c.loop-line.line-index c.line-item.result c.loop-line-test.true ∙ ap (λ line. take c.loop-line.line-index items ++ line ∷ []) (sym c.line-item.is) in
    subst (λ lines. AreShards lines c.args.count c.place.new.by_index) (sym more) (c.in_ok-place.ensures (take c.loop-line.line-index items) c.loop-line.invariant)

pub place-requires-clause-as_many : goal.place-requires-clause-as_many
place-requires-clause-as_many c = as_many_shards _ c.args.count c.loop-line.by_index c.loop-line.invariant

pub returns-clause-written : goal.returns-clause-written
returns-clause-written c =
    let all = take_all c.loop-line.line-index c.as_slice-line-items.result.now c.loop-line-test.false ∙ c.as_slice-line-items.ensures in
    placed c.args.corpus.now.lines c.args.count _ (subst (λ lines. AreShards lines c.args.count c.loop-line.by_index) all c.loop-line.invariant) refl c.new-2.ensures

pub returns-clause-from_start : goal.returns-clause-from_start
returns-clause-from_start c =
    let all = take_all c.loop-line.line-index c.as_slice-line-items.result.now c.loop-line-test.false ∙ c.as_slice-line-items.ensures in
    placed_indices c.args.corpus.now.lines c.args.count (record { count = c.args.count; by_index = c.loop-line.by_index; made = c.new.result; empty = c.new-2.result; stale = c.in_ok-stale.stale }) (subst (λ lines. AreShards lines c.args.count c.loop-line.by_index) all c.loop-line.invariant) c.new.ensures.empty

pub returns-clause-noted : goal.returns-clause-noted
returns-clause-noted c =
    let s : Shards = record { count = c.args.count; by_index = c.loop-line.by_index; made = c.new.result; empty = c.new-2.result; stale = c.in_ok-stale.stale } in
    let many = as_many_shards _ c.args.count c.loop-line.by_index c.loop-line.invariant in
    all_noted s (λ index. each (get_by_text c.loop-line.by_index index) c.args.count c.in_ok-stale.stale.items index (omega arith) (many index) (c.in_ok-stale.ensures index))
  where
    -- there are few enough of them
    each : (o : Option (Vec ShardView)) (count : ℕ) (notes : List Stale) (index : List ℕ) → count < 2 ^ 32 → IfSome o (λ list. length list.items ≡ count) → IfSome o (λ list. AreNoted notes index list.items)
        → IfSome o (λ list. (length list.items < 2 ^ 32) × AreNoted notes index list.items)
    each None count notes index few many noted = tt
    each (Some list) count notes index few many noted = (omega arith, noted)
