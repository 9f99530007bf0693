use Rattle.std.proofs.Common.{◌≡◌, map, subst, string_bytes, rules}
use Rattle.std.specs.Prelude.{IfSome, String}
use Rattle.std.specs.Borrow.{Bor}
use Rattle.std.specs.Global.{Vec}
use Rattle.std.specs.declared.alloc.Global.{Global}
use Rattle.std.specs.Map.{lookup}
use Rattle.std.specs.Map.Iter.{deref_pair}
use Rattle.std.specs.Str.{bytes_eq}
use Rattle.std.proofs.lemmas.Map.Iter.{iter_end}
use Rattle.shard_docs.specs.ShardView.{ShardView}
use Rattle.corpus_shards.specs.Noted.{AreNoted}
use Rattle.corpus_shards.proofs.Notes.{found_noted, still_noted, one_more_noted}
use Rattle.corpus_shards.proofs.stale_among.Goals as goal

pub loop-index-preserved : goal.loop-index-preserved
loop-index-preserved c =
    let notes = c.note_dead.new.stale.items in
    let pair : Bor (String Global) × Bor (Vec ShardView) = (c.in-Some.index, c.in-Some.shards) in
    one_more_noted notes c.loop-index.yielded pair (still_noted c.loop-index.stale.items notes c.loop-index.yielded c.note_dead.ensures.still c.loop-index.invariant)
    (subst (λ name. AreNoted notes name c.in-Some.shards.now.items) c.as_str.ensures.value (subst (AreNoted notes c.as_str.result.now) c.as_slice.ensures.value c.in_ok-note_dead.ensures.noted))

pub returns : goal.returns
returns c = λ index.
    let notes = c.loop-index.stale.items in
    let all : map deref_pair c.loop-index.yielded ≡ c.args.by_index.now.entries = search (rules, iter_end) in
    subst (λ entries. IfSome (lookup (λ key. bytes_eq index (string_bytes key)) entries) (λ list. AreNoted notes index list.items)) all (found_noted notes c.loop-index.yielded index c.loop-index.invariant)
