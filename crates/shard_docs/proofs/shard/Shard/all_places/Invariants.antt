use Rattle.std.proofs.Common.{◌≡◌, ◌≤◌, length, take, filter, option_map}
use Rattle.query_match.specs.Picks.{picked}
use Rattle.shard_docs.proofs.Chosen.{is_next, from}
use Rattle.shard_docs.proofs.shard.Shard.all_places.Given as goal

abbrev pub invariant-loop-place : goal.invariant-loop-place
invariant-loop-place l =
    let chosen = filter (is_next (option_map picked l.fn.pick) l.version l.fn.after l.self.writes) (from 0 l.place) in
    (l.initial.place ≤ l.place) × (l.count ≡ length chosen) × (take l.count l.out ≡ chosen) × (l.count ≤ length l.out) × (length l.out ≡ length l.initial.out)
