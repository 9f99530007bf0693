use Rattle.std.proofs.Common.{◌≡◌, get_or, Some, sym, ap, ◌∙◌, refl}
use Rattle.std.specs.Prelude.{is_some}
use Rattle.std.specs.Option.{option_map_or}
use Rattle.std.specs.Vec.{with_item}
use Rattle.std.specs.HashMap.{get_by_text}
use Rattle.std.proofs.lemmas.List.{get_or_default}
use Rattle.std.proofs.lemmas.Map.Text.{hash_map_updates_text}
use Rattle.shard_docs.specs.ShardView.{ShardView, empty_shard}
use Rattle.corpus_shards.proofs.Cases.{some_of}
use Rattle.corpus_shards.proofs.Replaced.{replaced}
use Rattle.corpus_shards.proofs.Shards.get_mut.Goals as goal

pub returns : goal.returns
returns c =
    let table = c.args.self.now.by_index in
    let index = c.args.index.now in
    let list = c.in_ok-shards.shards.now in
    let found : get_by_text table index ≡ Some list = sym c.in_ok-shards.ensures.value in
    let within = rw found at c.requires in
    let lent = λ (w : ShardView).
    let item = with_item list c.args.shard w in
    replaced c.args.self.now index c.args.shard list w (c.get_mut.follows.lender item) found
    (hash_map_updates_text index table (c.get_mut.follows.lender item) (Some item) ((c.get_mut.follows.holds item).3 (some_of _ _ found))) within in
    ((refl, lent, refl), (sym (ap is_some found), c.index_mut.ensures.value ∙ get_or_default list.items c.args.shard c.index_mut.result.now empty_shard within ∙ sym (ap (λ o. option_map_or (λ those. get_or those.items c.args.shard empty_shard) o empty_shard) found)))
