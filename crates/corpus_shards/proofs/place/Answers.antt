use Rattle.std.proofs.Common.{◌≡◌, ℕ, List, length, ap, sym, subst, ◌∙◌, Some, None, arith, string_bytes, refl}
use Rattle.std.specs.Option.{option_copied_mut}
use Rattle.std.specs.Vec.{with_item}
use Rattle.std.specs.Str.{bytes_eq}
use Rattle.std.specs.Prelude.{cond}
use Rattle.std.specs.HashMap.{get_by_text}
use Rattle.std.proofs.lemmas.Map.Text.{hash_map_updates_text}
use Rattle.std.proofs.lemmas.List.FromFn.{length-map-range_with_len}
use Rattle.shard_docs.specs.ShardView.{ShardView, empty_shard}
use Rattle.corpus_shards.specs.Placed.{AreShards}
use Rattle.corpus_shards.proofs.Cases.{some_of, both_ok}
use Rattle.corpus_shards.proofs.PlacedLines.{found_shards, none_found, empty_at, after_write}
use Rattle.corpus_shards.proofs.place.Goals as goal

pub index_mut-requires : goal.index_mut-requires
index_mut-requires c =
    let was = subst (λ i. get_by_text c.args.by_index.now i ≡ Some c.in-Some.shards.now) c.as_str.ensures (sym c.get_mut.ensures.value ∙ ap option_copied_mut c.in-Some.is) in
    let many = rw was at (c.requires.as_many c.args.line.now.index) in
    omega (arith, many, c.number_of-shard.ensures)

pub index_mut-requires-2 : goal.index_mut-requires-2
index_mut-requires-2 c =
    omega (arith, c.number_of-shard.ensures, ap length c.in_ok-shards.ensures, length-map-range_with_len {X = ShardView} (λ _. empty_shard) 0 c.args.count)

pub returns-in-Some : goal.returns-in-Some
returns-in-Some c = λ lines are.
    let index = c.args.line.now.index in
    let table = c.args.by_index.now in
    let list = c.in-Some.shards.now in
    let read = sym c.get_mut.ensures.value ∙ ap option_copied_mut c.in-Some.is in
    let was = subst (λ i. get_by_text table i ≡ Some list) c.as_str.ensures read in
    let w = with_item list c.number_of-shard.result c.write_copy.new.shard in
    let updates = (c.get_mut.follows.holds w).3 (some_of _ _ read) in
    let changed = subst (λ (i : List ℕ). (q : List ℕ) → get_by_text (c.get_mut.follows.lender w) q ≡ cond (bytes_eq i q) (Some w) (get_by_text table q)) c.as_str.ensures
    (hash_map_updates_text c.as_str.result.now table (c.get_mut.follows.lender w) (Some w) updates) in
    both_ok c.write_copy.result _ _ _ c.write_copy.ensures.ok c.write_copy.ensures.few
    (λ ok few. after_write lines c.args.line.now c.args.count table (c.get_mut.follows.lender w) w list.items c.number_of-shard.result c.index_mut.result.now c.write_copy.new.shard are changed
    (found_shards lines c.args.count table index list are was) c.number_of-shard.ensures c.index_mut.ensures.value ok c.write_copy.ensures.oldest few refl)

pub returns : goal.returns
returns c = λ lines are.
    let index = c.args.line.now.index in
    let table = c.get_mut.follows.lender-at-none in
    let stays = subst (λ m. AreShards lines c.args.count m) (sym c.get_mut.follows.holds-at-none) are in
    let read = subst (λ m. get_by_text m c.as_str.result.now ≡ None) (sym c.get_mut.follows.holds-at-none) (sym c.get_mut.ensures.value ∙ ap option_copied_mut c.in_default.is) in
    let was = subst (λ i. get_by_text table i ≡ None) c.as_str.ensures read in
    let w = with_item c.in_ok-shards.shards c.number_of-shard.result c.write_copy-2.new.shard in
    let named = c.in_ok-from_str.ensures.ok ∙ c.as_str-2.ensures in
    let changed = subst (λ (i : List ℕ). (q : List ℕ) → get_by_text c.insert.new.self q ≡ cond (bytes_eq i q) (Some w) (get_by_text table q)) named
    (hash_map_updates_text (string_bytes c.in_ok-from_str.field-0) table c.insert.new.self (Some w) c.in_ok-insert.ensures.updates) in
    after_write lines c.args.line.now c.args.count table c.insert.new.self w c.in_ok-shards.shards.items c.number_of-shard.result c.index_mut-2.result.now c.write_copy-2.new.shard stays changed
    (c.in_ok-shards.ensures ∙ empty_at lines c.args.count index (none_found lines c.args.count table index stays was)) c.number_of-shard.ensures c.index_mut-2.ensures.value
    c.in_ok-write_copy.ensures.ok c.write_copy-2.ensures.oldest c.in_ok-write_copy.ensures.few refl
