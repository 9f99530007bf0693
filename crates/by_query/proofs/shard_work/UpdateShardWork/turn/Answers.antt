-- What is counted and what is left is what was left before.
use Rattle.std.proofs.Common.{◌≡◌, ◌+◌, ◌-◌, length, take, true, sym, ap, subst, ◌∙◌, arith}
use Rattle.std.specs.List.{AllByRecursion}
use Rattle.task_events.specs.Looking.{rows_per_turn}
use Rattle.by_query.specs.Changes.{docs_written}
use Rattle.by_query.specs.Updating.{after_turn}
use Rattle.by_query.proofs.ChangeLemmas.{IsUpdate, all_update, turn_sizes}
use Rattle.by_query.proofs.shard_work.UpdateShardWork.turn.Goals as goal

pub overflow_add-self : goal.overflow_add-self
overflow_add-self c =
    let sizes = turn_sizes c.self.inside.index c.self.inside.shard c.args.shard.now.writes c.self.inside.left.items c.write_next.new.left.items c.in_ok-notes.notes.items c.in_ok-notes.ensures.left c.in_ok-notes.ensures.notes in
    omega (arith, c.self.invariant, c.len-2.ensures, sizes.fewer, sizes.all)

pub overflow_sub-self : goal.overflow_sub-self
overflow_sub-self c =
    let sizes = turn_sizes c.self.inside.index c.self.inside.shard c.args.shard.now.writes c.self.inside.left.items c.write_next.new.left.items c.in_ok-notes.notes.items c.in_ok-notes.ensures.left c.in_ok-notes.ensures.notes in
    omega (arith, c.len-before.ensures, c.len.ensures, c.len-3.ensures, sizes.fewer, sizes.all)

pub invariant_of-self-2 : goal.invariant_of-self-2
invariant_of-self-2 c =
    let sizes = turn_sizes c.self.inside.index c.self.inside.shard c.args.shard.now.writes c.self.inside.left.items c.write_next.new.left.items c.in_ok-notes.notes.items c.in_ok-notes.ensures.left c.in_ok-notes.ensures.notes in
    omega (arith, c.self.invariant, c.len-before.ensures, c.len.ensures, c.len-2.ensures, c.len-3.ensures, sizes.fewer, sizes.all)

pub returns-clause-none_created : goal.returns-clause-none_created
returns-clause-none_created c =
    subst (AllByRecursion IsUpdate) (sym c.in_ok-notes.ensures.notes) (all_update c.self.inside.index c.self.inside.shard c.args.shard.now.writes (take rows_per_turn c.self.inside.left.items))

pub returns-clause-ok : goal.returns-clause-ok
returns-clause-ok c =
    let sizes = turn_sizes c.self.inside.index c.self.inside.shard c.args.shard.now.writes c.self.inside.left.items c.write_next.new.left.items c.in_ok-notes.notes.items c.in_ok-notes.ensures.left c.in_ok-notes.ensures.notes in
    let updated : c.self.inside.updated + c.len-2.result ≡ c.self.inside.updated + length (docs_written c.args.shard.now.writes (take rows_per_turn c.self.inside.left.items)) = omega (arith, c.len-2.ensures, sizes.noted) in
    let conflicts : c.self.inside.conflicts + (c.len-before.result - c.len.result - c.len-3.result) ≡ c.self.inside.conflicts + (length (take rows_per_turn c.self.inside.left.items) - length (docs_written c.args.shard.now.writes (take rows_per_turn c.self.inside.left.items))) =
    omega (arith, c.len-before.ensures, c.len.ensures, c.len-3.ensures, sizes.noted, sizes.fewer, sizes.all) in
    (λ i. record {
      index = c.self.inside.index;
      shard = c.self.inside.shard;
      left = c.in_ok-notes.ensures.left i;
      has_turned = true;
      updated = updated i;
      conflicts = conflicts i;
    })
    ∙ ap (λ u. after_turn u c.args.shard.now.writes) c.self.view_is
