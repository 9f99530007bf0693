use Rattle.std.proofs.Common.{◌≡◌, length, take, drop, filter, option_map, sym, ap, ◌∙◌, arith}
use Rattle.std.proofs.lemmas.List.{take-append-drop}
use Rattle.query_match.specs.Picks.{picked}
use Rattle.shard_docs.specs.Candidates.{is_candidate}
use Rattle.shard_docs.proofs.Chosen.{enough}
use Rattle.shard_docs.proofs.shard.Shard.candidates_among.Goals as goal

cut : (c : goal.Then-count-out) → filter (is_candidate (option_map picked c.args.pick) c.args.version c.args.self.now.writes) (take c.loop-place.place-index c.args.places.now)
    ≡ take (length c.args.out.now) (filter (is_candidate (option_map picked c.args.pick) c.args.version c.args.self.now.writes) c.args.places.now)
cut c =
    let places = c.args.places.now in
    let i = c.loop-place.place-index in
    enough (is_candidate (option_map picked c.args.pick) c.args.version c.args.self.now.writes) (take i places) (drop i places) places (length c.args.out.now) (sym (take-append-drop i places))
    (omega (arith, c.loop-place.invariant.0, c.loop-place.invariant.3))

pub returns-then-count-out-clause-count : goal.returns-then-count-out-clause-count
returns-then-count-out-clause-count c = c.loop-place.invariant.0 ∙ ap length (cut c)

pub returns-then-count-out-clause-places : goal.returns-then-count-out-clause-places
returns-then-count-out-clause-places c = c.loop-place.invariant.1 ∙ cut c
