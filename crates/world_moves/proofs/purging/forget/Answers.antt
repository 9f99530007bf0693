use Rattle.std.proofs.Common.{rules, ◌≡◌, ◌+◌, ◌-◌, ◌<◌, ◌∙◌, length, refl, sym, ap, subst, arith, true≢false}
use Rattle.std.specs.BTreeMap.{btree_map_len}
use Rattle.std.proofs.lemmas.List.{length-take}
use Rattle.task_events.specs.Tasks.{is_live}
use Rattle.world_moves.specs.declared.state.State.{State}
use Rattle.world_moves.proofs.PurgedTies.{none_kept, none_live, one_live, HasForgottenBut, note_there, none_noted, one_more_forgot, all_forgot}
use Rattle.world_moves.proofs.purging.forget.Goals as goal

-- the past is the same, and no task was live
pub forget_at-requires-clause-none_live : goal.forget_at-requires-clause-none_live
forget_at-requires-clause-none_live c = λ task.
    let empty : btree_map_len c.args.state.now.tasks ≡ 0 = search rules in
    ap (λ (s : State). is_live task s.history) c.loop-left.invariant.same ∙ none_live c.args.state.now c.requires.tied (none_kept c.args.state.now.tasks empty) task

-- a task is live
pub returns-then-not-is_empty-clause-forgotten : goal.returns-then-not-is_empty-clause-forgotten
returns-then-not-is_empty-clause-forgotten c = λ none.
    let told = c.if-not-is_empty.ensures.1 (one_live c.args.state.now c.requires.tied none) in
    absurd (true≢false (sym told))

pub loop-left-init : goal.loop-left-init
loop-left-init c =
    let s = c.args.state.now in
    let all : length s.shards.stale.items ≡ c.len-left.result = search rules in
    record {
      tied = c.requires.tied;
      same = refl;
      within = omega arith;
      forgotten = none_noted s.contexts.items s.shards c.len-left.result (omega arith) c.requires.tied.shards.noted;
    }

pub loop-left-preserved : goal.loop-left-preserved
loop-left-preserved c =
    let s = c.loop-left.state in
    let t = c.forget_at.new.state in
    let place = c.loop-left.left - 1 in
    let within : place < length s.shards.stale.items = omega (arith, c.loop-left.invariant.within, c.loop-left-test.true) in
    let note = note_there s.shards.stale.items place within in
    let next : place + 1 ≡ c.loop-left.left = omega (arith, c.loop-left-test.true) in
    let before = ap length c.forget_at.ensures.before in
    let first = length-take place t.shards.stale.items in
    let second = length-take place s.shards.stale.items in
    let contexts : t.contexts.items ≡ s.contexts.items = ap (λ (v : State). v.contexts.items) c.forget_at.ensures.same in
    record {
      tied = c.forget_at.ensures.tied;
      same = c.forget_at.ensures.same ∙ ap (λ (v : State). record v { shards = t.shards }) c.loop-left.invariant.same;
      within = omega (arith, before, first, second, within);
      forgotten = subst (λ tables. HasForgottenBut place tables t.shards) (sym contexts)
          (one_more_forgot s.contexts.items s.shards t.shards place note.0 within note.1 (c.forget_at.ensures.forgets note.0 note.1) c.forget_at.ensures.before
          (subst (λ n. HasForgottenBut n s.contexts.items s.shards) (sym next) c.loop-left.invariant.forgotten));
    }

pub returns-clause-forgotten : goal.returns-clause-forgotten
returns-clause-forgotten c = λ none.
    let s = c.loop-left.state in
    let over : c.loop-left.left ≡ 0 = omega (arith, c.loop-left-test.false) in
    all_forgot s.contexts.items s.shards (subst (λ n. HasForgottenBut n s.contexts.items s.shards) over c.loop-left.invariant.forgotten)
