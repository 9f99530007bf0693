use Rattle.std.proofs.Common.{◌≡◌, ◌-◌, ◌<◌, ◌≤◌, max, get_or, length, None, Some, sym, ap, subst, ◌∙◌, rules}
use Rattle.std.specs.Option.{option_map_or, option_copied_mut}
use Rattle.std.specs.Vec.{with_item}
use Rattle.std.specs.HashMap.{get_by_text}
use Rattle.std.proofs.lemmas.List.{get_or_default, get_or_past}
use Rattle.std.proofs.lemmas.Map.Text.{hash_map_updates_text}
use Rattle.shard_docs.specs.ShardView.{ShardView, empty_shard, dead_rows}
use Rattle.shard_docs.specs.Shown.{ShowsFrom}
use Rattle.corpus_shards.specs.Stored.{Replaces, shard_in}
use Rattle.corpus_shards.proofs.Cases.{some_of}
use Rattle.corpus_shards.proofs.Purged.{unchanged, forgets, none_forgotten, none_counted}
use Rattle.corpus_shards.proofs.Replaced.{replaced, given_back}
use Rattle.corpus_shards.proofs.Shards.purge.Goals as goal

-- there is no such shard
back : (c : goal.After-self-then-place-len-1) → Replaces c.args.index.now c.args.shard (shard_in c.args.self.now c.args.index.now c.args.shard) c.args.self.now (record c.args.self.now { by_index = c.get_mut.follows.lender c.in-Some.shards.now })
back c =
    let s = c.args.self.now in
    let list = c.in-Some.shards.now in
    let found : get_by_text s.by_index c.args.index.now ≡ Some list = sym c.in-Some.ensures.value in
    given_back s c.args.index.now c.args.shard list (c.get_mut.follows.lender list) found
    (hash_map_updates_text c.args.index.now s.by_index (c.get_mut.follows.lender list) (Some list) ((c.get_mut.follows.holds list).3 (some_of _ _ found)))

none_there : (c : goal.After-self-then-place-len-1) → shard_in c.args.self.now c.args.index.now c.args.shard ≡ empty_shard
none_there c =
    let list = c.in-Some.shards.now in
    let found : get_by_text c.args.self.now.by_index c.args.index.now ≡ Some list = sym c.in-Some.ensures.value in
    let past : length list.items ≤ c.args.shard = search rules in
    ap (λ o. option_map_or (λ those. get_or those.items c.args.shard empty_shard) o empty_shard) found ∙ get_or_past list.items c.args.shard empty_shard past

pub returns-then-place-len-clause-forgets : goal.returns-then-place-len-clause-forgets
returns-then-place-len-clause-forgets c =
    let s = c.args.self.now in
    none_forgotten s c.args.index.now c.args.shard c.args.oldest (none_there c) c.requires (record s { by_index = c.get_mut.follows.lender c.in-Some.shards.now }) (back c)

pub returns-then-place-len-clause-count : goal.returns-then-place-len-clause-count
returns-then-place-len-clause-count c = none_counted c.args.self.now c.args.index.now c.args.shard c.args.oldest (none_there c) c.requires

-- nor is there such an index
pub returns-in_default-clause-forgets : goal.returns-in_default-clause-forgets
returns-in_default-clause-forgets c =
    let s = c.args.self.now in
    let none : get_by_text s.by_index c.args.index.now ≡ None = sym c.get_mut.ensures.value ∙ ap option_copied_mut c.in_default.is in
    none_forgotten s c.args.index.now c.args.shard c.args.oldest (ap (λ o. option_map_or (λ those. get_or those.items c.args.shard empty_shard) o empty_shard) none) c.requires (record s { by_index = c.get_mut.follows.lender-at-none })
    (subst (λ m. Replaces c.args.index.now c.args.shard (shard_in s c.args.index.now c.args.shard) s (record s { by_index = m })) (sym c.get_mut.follows.holds-at-none) (unchanged s c.args.index.now c.args.shard))

pub returns-in_default-clause-count : goal.returns-in_default-clause-count
returns-in_default-clause-count c =
    let s = c.args.self.now in
    let none : get_by_text s.by_index c.args.index.now ≡ None = sym c.get_mut.ensures.value ∙ ap option_copied_mut c.in_default.is in
    none_counted s c.args.index.now c.args.shard c.args.oldest (ap (λ o. option_map_or (λ those. get_or those.items c.args.shard empty_shard) o empty_shard) none) c.requires

-- it is there, and forgets
left : (c : goal.After-self-2-1) → Replaces c.args.index.now c.args.shard c.purge.new.self c.args.self.now (record c.args.self.now { by_index = c.get_mut.follows.lender (with_item c.in-Some.shards.now c.args.shard c.purge.new.self) })
left c =
    let s = c.args.self.now in
    let list = c.in-Some.shards.now in
    let item = with_item list c.args.shard c.purge.new.self in
    let found : get_by_text s.by_index c.args.index.now ≡ Some list = sym c.in-Some.ensures.value in
    let within : c.args.shard < length list.items = search rules in
    replaced s c.args.index.now c.args.shard list c.purge.new.self (c.get_mut.follows.lender item) found
    (hash_map_updates_text c.args.index.now s.by_index (c.get_mut.follows.lender item) (Some item) ((c.get_mut.follows.holds item).3 (some_of _ _ found))) within

own : (c : goal.After-self-2-1) → c.index_mut.result.now ≡ shard_in c.args.self.now c.args.index.now c.args.shard
own c =
    let list = c.in-Some.shards.now in
    let found : get_by_text c.args.self.now.by_index c.args.index.now ≡ Some list = sym c.in-Some.ensures.value in
    let within : c.args.shard < length list.items = search rules in
    c.index_mut.ensures.value ∙ get_or_default list.items c.args.shard c.index_mut.result.now empty_shard within ∙ sym (ap (λ o. option_map_or (λ those. get_or those.items c.args.shard empty_shard) o empty_shard) found)

pub returns-clause-forgets : goal.returns-clause-forgets
returns-clause-forgets c =
    let s = c.args.self.now in
    let t = record s { by_index = c.get_mut.follows.lender (with_item c.in-Some.shards.now c.args.shard c.purge.new.self) } in
    forgets s t c.args.index.now c.args.shard c.args.oldest c.purge.new.self c.requires (left c) (subst (λ (v : ShardView). ShowsFrom c.args.oldest v.writes c.purge.new.self.writes) (own c) c.purge.ensures.shows)
    (subst (λ (v : ShardView). c.purge.new.self.oldest ≡ max v.oldest c.args.oldest) (own c) c.purge.ensures.oldest)

pub returns-clause-count : goal.returns-clause-count
returns-clause-count c = subst (λ (v : ShardView). c.purge.result ≡ dead_rows c.args.oldest v.writes - dead_rows v.oldest v.writes) (own c) c.purge.ensures.count
