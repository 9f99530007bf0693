use Rattle.std.proofs.Common.{◌≡◌, ◌≤◌, length, take, filter, option_map}
use Rattle.query_match.specs.Picks.{picked}
use Rattle.shard_docs.specs.Candidates.{is_candidate}
use Rattle.shard_docs.proofs.shard.Shard.candidates_among.Given as goal

abbrev pub invariant-loop-place : goal.invariant-loop-place
invariant-loop-place l =
    let chosen = filter (is_candidate (option_map picked l.pick) l.version l.self.writes) (take l.place-index l.places) in
    (l.count ≡ length chosen) × (take l.count l.out ≡ chosen) × (l.count ≤ length l.out) × (length l.out ≡ length l.initial.out)
