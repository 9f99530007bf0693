use Rattle.std.proofs.Common.{◌≡◌, ℕ, ◌≤◌, ◌∷◌, [], ◌++◌, Bool, true, false, cond, option_map, length, take, filter, sym, ap, ◌∙◌, arith, refl, length-append}
use Rattle.std.proofs.lemmas.List.{take_all, length-take}
use Rattle.query_match.specs.Picks.{picked}
use Rattle.shard_docs.specs.Candidates.{next_places}
use Rattle.shard_docs.proofs.Chosen.{is_next, from, none_yet, next_more, next_cut, next_among}
use Rattle.shard_docs.proofs.shard.Shard.all_places.Goals as goal

pub loop-place-init : goal.loop-place-init
loop-place-init c =
    let none = none_yet (option_map picked c.args.pick) c.args.version c.args.after c.args.self.now.writes c.first_above-place.result c.first_above-place.ensures.below in
    (omega arith, sym (ap length none), sym none, omega arith, refl)

cut : (c : goal.Then-count-out) → filter (is_next (option_map picked c.args.pick) c.args.version c.args.after c.args.self.now.writes) (from 0 c.loop-place.place) ≡ take (length c.args.out.now) (next_places (option_map picked c.args.pick) c.args.version c.args.after c.args.self.now.writes)
cut c =
    next_cut (option_map picked c.args.pick) c.args.version c.args.after c.args.self.now.writes c.loop-place.place (length c.args.out.now)
    (omega (arith, c.loop-place.invariant.1, c.loop-place.invariant.4))

pub returns-then-count-out-clause-count : goal.returns-then-count-out-clause-count
returns-then-count-out-clause-count c = c.loop-place.invariant.1 ∙ ap length (cut c)

pub returns-then-count-out-clause-places : goal.returns-then-count-out-clause-places
returns-then-count-out-clause-places c = c.loop-place.invariant.2 ∙ cut c

-- how many one more are
one_more : (chosen : Bool) (place : ℕ) → length (cond chosen (place ∷ []) []) ≡ cond chosen 1 0
one_more true place = refl
one_more false place = refl

at_most_one : (chosen : Bool) → cond chosen 1 0 ≤ 1
at_most_one true = omega arith
at_most_one false = omega arith

pub loop-place-preserved : goal.loop-place-preserved
loop-place-preserved c =
    let place = c.loop-place.place in
    let chosen = c.is_candidate-is_chosen.result in
    let found = filter (is_next (option_map picked c.args.pick) c.args.version c.args.after c.args.self.now.writes) (from 0 place) in
    let more = next_more (option_map picked c.args.pick) c.args.version c.args.after c.args.self.now.writes place chosen c.is_candidate-is_chosen.ensures (c.first_above-place.ensures.«from» place c.loop-place.invariant.0 (omega arith)) in
    let many = ap length more ∙ length-append found (cond chosen (place ∷ []) []) in
    let low = at_most_one chosen in (
      omega (arith, c.loop-place.invariant.0),
      omega (arith, many, one_more chosen place, c.put-count.ensures.count, c.loop-place.invariant.1),
      c.put-count.ensures.places ∙ ap (λ l. l ++ cond chosen (place ∷ []) []) c.loop-place.invariant.2 ∙ sym more,
      omega (arith, low, c.put-count.ensures.count, c.put-count.ensures.len, c.loop-place.invariant.3),
      c.put-count.ensures.len ∙ c.loop-place.invariant.4,
    )

all_found : (c : goal.After-loop-place) → filter (is_next (option_map picked c.args.pick) c.args.version c.args.after c.args.self.now.writes) (from 0 c.loop-place.place) ≡ take (length c.args.out.now) (next_places (option_map picked c.args.pick) c.args.version c.args.after c.args.self.now.writes)
all_found c =
    let found = filter (is_next (option_map picked c.args.pick) c.args.version c.args.after c.args.self.now.writes) (from 0 c.loop-place.place) in
    let behind : length (take c.args.version c.args.self.now.writes) ≤ c.loop-place.place = omega (arith, length-take c.args.version c.args.self.now.writes) in
    sym (ap (take (length c.args.out.now)) (next_among (option_map picked c.args.pick) c.args.version c.args.after c.args.self.now.writes c.loop-place.place behind)
    ∙ take_all (length c.args.out.now) found (omega (arith, c.loop-place.invariant.1, c.loop-place.invariant.3, c.loop-place.invariant.4)))

pub returns-clause-count : goal.returns-clause-count
returns-clause-count c = c.loop-place.invariant.1 ∙ ap length (all_found c)

pub returns-clause-places : goal.returns-clause-places
returns-clause-places c = c.loop-place.invariant.2 ∙ all_found c
