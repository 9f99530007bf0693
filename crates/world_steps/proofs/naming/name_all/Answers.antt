use Rattle.std.proofs.Common.{◌≡◌, ◌∙◌, ◌++◌, ◌+◌, [], List, drop, refl, sym, ap, subst, append_assoc}
use Rattle.std.proofs.Math.ListN.{drop_of_length-le}
use Rattle.task_events.specs.declared.event.Event.{Event}
use Rattle.world_moves.specs.Cancels.{with_cancel, with_cancels}
use Rattle.world_moves.specs.Moves.{IsPartOf}
use Rattle.world_moves.proofs.CutShort.{cut_as}
use Rattle.world_steps.specs.Naming.{CanName, IsNaming}
use Rattle.world_steps.proofs.Commanded.{keeps_on}
use Rattle.world_steps.proofs.NamedAfter.{names_on_either}
use Rattle.world_steps.proofs.NamesAll.{next_of, one_appends, cancels_append, can_go_on, part_within}
use Rattle.world_steps.proofs.naming.name_all.Goals as goal

pub loop-task-init : goal.loop-task-init
loop-task-init c = record {
  tied = c.requires.tied;
  naming = c.requires.naming;
  can = c.requires.can;
  keeps = record { cluster = refl; corpus = refl; script = refl };
  rest = refl;
  grows = ([], refl);
}

pub name-requires-clause-live : goal.name-requires-clause-live
name-requires-clause-live c =
    let next = next_of c.args.tasks.now c.loop-task.task-index c.task-item.result c.loop-task-test.true c.task-item.is in
    (subst (λ ts. CanName c.args.number ts c.loop-task.state.history) next c.loop-task.invariant.can).0

pub name-requires-clause-fresh : goal.name-requires-clause-fresh
name-requires-clause-fresh c =
    let next = next_of c.args.tasks.now c.loop-task.task-index c.task-item.result c.loop-task-test.true c.task-item.is in
    (subst (λ ts. CanName c.args.number ts c.loop-task.state.history) next c.loop-task.invariant.can).1

pub returns-in-Err : goal.returns-in-Err
returns-in-Err c =
    let inv = c.loop-task.invariant in
    let k = c.args.number in
    let w = c.args.wait in
    let t = c.task-item.result in
    let h = c.loop-task.state.history in
    let old = c.args.state.now.history in
    let tasks = c.args.tasks.now in
    let next = next_of tasks c.loop-task.task-index t c.loop-task-test.true c.task-item.is in
    let more = cancels_append k w (drop (c.loop-task.task-index + 1) tasks) (with_cancel k t w h) in
    let to_come : with_cancels k w tasks old ≡ more.0 ++ with_cancel k t w h = sym inv.rest ∙ ap (λ ts. with_cancels k w ts h) next ∙ more.1 in
    let within : (past : List Event) → IsPartOf h past (with_cancel k t w h) → IsPartOf old past (with_cancels k w tasks old) = λ past part. part_within old h (with_cancel k t w h) (with_cancels k w tasks old) past inv.grows.0 more.0 inv.grows.1 to_come part in
    record {
      happened = tt;
      tied = tt;
      naming = tt;
      keeps = keeps_on inv.keeps c.in-Err.ensures.keeps;
      part = within c.name.new.state.history c.in-Err.ensures.part;
      laws = c.in-Err.ensures.laws;
      full = λ failed. cut_as (λ past. IsPartOf h past (with_cancel k t w h)) (λ past. IsPartOf old past (with_cancels k w tasks old)) c.name.new.state.history within (c.in-Err.ensures.full failed);
      numbers = c.in-Err.ensures.numbers;
    }

pub loop-task-preserved : goal.loop-task-preserved
loop-task-preserved c =
    let s = c.loop-task.state in
    let inv = c.loop-task.invariant in
    let k = c.args.number in
    let w = c.args.wait in
    let t = c.task-item.result in
    let later = drop (c.loop-task.task-index + 1) c.args.tasks.now in
    let next = next_of c.args.tasks.now c.loop-task.task-index t c.loop-task-test.true c.task-item.is in
    let can = subst (λ ts. CanName k ts s.history) next inv.can in
    let happened = c.in-Ok.ensures.happened in
    let one = one_appends k w t s.history in
    record {
      tied = c.in-Ok.ensures.tied;
      naming = subst (IsNaming k w) (sym happened) (names_on_either s.cluster s.history k t w inv.naming inv.tied.ties.lawful inv.tied.awaits can.0 can.1);
      can = subst (CanName k later) (sym happened) (can_go_on k w t later s.history can.2 can.3);
      keeps = keeps_on inv.keeps c.in-Ok.ensures.keeps;
      rest = ap (with_cancels k w later) happened ∙ sym (ap (λ ts. with_cancels k w ts s.history) next) ∙ inv.rest;
      grows = (one.0 ++ inv.grows.0, happened ∙ one.1 ∙ ap (λ g. one.0 ++ g) inv.grows.1 ∙ sym (append_assoc one.0 inv.grows.0 c.args.state.now.history));
    }

pub returns-clause-happened : goal.returns-clause-happened
returns-clause-happened c =
    let none : drop c.loop-task.task-index c.args.tasks.now ≡ [] = drop_of_length-le c.args.tasks.now c.loop-task-test.false in
    sym (ap (λ ts. with_cancels c.args.number c.args.wait ts c.loop-task.state.history) none) ∙ c.loop-task.invariant.rest
