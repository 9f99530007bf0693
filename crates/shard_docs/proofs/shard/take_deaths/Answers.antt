use Rattle.std.proofs.Common.{◌≡◌, ◌<◌, drop, get_or, sym, ap, ◌∙◌, arith}
use Rattle.std.proofs.lemmas.List.{get_or_default, get_or-drop}
use Rattle.shard_docs.proofs.DeathQueue.{taken, up_to, above}
use Rattle.shard_docs.proofs.shard.take_deaths.Goals as goal

-- the first that is left is above it
stopped : (c : goal.Else-died-oldest) → (c.loop-count.count ≡ up_to c.args.oldest c.args.deaths.now.items) × (drop c.loop-count.count c.args.deaths.now.items ≡ above c.args.oldest c.args.deaths.now.items)
stopped c =
    let items = c.args.deaths.now.items in
    let n = c.loop-count.count in
    let died = c.in-Some.died.now in
    taken c.args.oldest n items c.requires.ascend (omega arith) c.loop-count.invariant.before (λ within.
    let here : get_or items n 0 ≡ died = get_or_default items n 0 died within ∙ ap (λ i. get_or items i died) (omega arith) ∙ sym (get_or-drop n items 0 died) ∙ ap (λ l. get_or l 0 died) (sym c.loop-count.invariant.left) ∙ sym c.in-Some.ensures.lookup in
    let later : c.args.oldest < died = omega (arith, c.if-died-oldest.false) in
    omega arith)

pub returns-in_default-clause-count : goal.returns-in_default-clause-count
returns-in_default-clause-count c = (stopped c).0

pub returns-in_default-clause-left : goal.returns-in_default-clause-left
returns-in_default-clause-left c = c.loop-count.invariant.left ∙ (stopped c).1

-- or none is left
all_taken : (c : goal.After-loop-count) → (c.loop-count.count ≡ up_to c.args.oldest c.args.deaths.now.items) × (drop c.loop-count.count c.args.deaths.now.items ≡ above c.args.oldest c.args.deaths.now.items)
all_taken c =
    let items = c.args.deaths.now.items in
    taken c.args.oldest c.loop-count.count items c.requires.ascend (omega arith) c.loop-count.invariant.before (λ within. absurd (omega arith))

pub returns-clause-count : goal.returns-clause-count
returns-clause-count c = let all = (all_taken c).0 in omega arith

pub returns-clause-left : goal.returns-clause-left
returns-clause-left c = c.loop-count.invariant.left ∙ (all_taken c).1
