use Rattle.std.proofs.Common.{◌≡◌, ◌<◌, ℕ, List, [], ◌∷◌, ◌++◌, length, sym, ap, ◌∙◌, subst, append_assoc, rules}
use Rattle.run_inboxes.specs.Pairs.{Threewise}
use Rattle.run_inboxes.specs.Closed.{MayFinish, IsFinished}
use Rattle.run_inboxes.proofs.Pairs.{pairs_get, pairs_length, threes_push, threes_middle, taken_off, begun, none_left, next_there, there, pop_is, more_left, none_more}
use Rattle.node_link.proofs.Counts.{no_more}
use Rattle.run_inboxes.proofs.closing.finished.Goals as goal

pub loop-inbox-init : goal.loop-inbox-init
loop-inbox-init g c = (tt, tt, search rules, ([], begun c.reverse.new.self.items c.args.columns.items c.reverse.ensures.items, subst (λ (l : List _). Threewise (IsFinished {L = g.row.L.Denot}) [] [] l) (sym c.new-tallies.ensures.items) tt))

pub unwrap-ends-requires : goal.unwrap-ends-requires
unwrap-ends-requires g c =
    let i = c.loop-inbox.invariant in
    let d = i.3 in
    let goes = ap (λ (l : List _). c.loop-inbox.yielded ++ l) (sym c.in-Some.ensures.steps.0) ∙ i.2 in
    let left = c.loop-inbox.columns in
    let long = more_left d.0 left.items c.args.columns.items c.loop-inbox.yielded c.next.new.self.rest.items c.args.inboxes.items c.in-Some.inbox d.1 goes
    (threes_middle IsFinished _ _ _ d.2) (pairs_length MayFinish _ _ c.requires) in
    c.pop.ensures.variant.1 (subst (λ (n : ℕ). 0 < n) (sym left.ok.0) long)

pub finish-requires : goal.finish-requires
finish-requires g c =
    let i = c.loop-inbox.invariant in
    let d = i.3 in
    let goes = ap (λ (l : List _). c.loop-inbox.yielded ++ l) (sym c.in-Some.ensures.steps.0) ∙ i.2 in
    let popped = pop_is _ _ _ _ c.pop.ensures.items c.unwrap-ends.ensures in
    let at = next_there d.0 c.loop-inbox.columns.items c.pop.new.self.items c.args.columns.items c.unwrap-ends.result d.1 popped in
    let at_place = subst (λ (n : ℕ). Rattle.std.specs.Prelude.slice_get c.args.columns.items n ≡ Rattle.std.specs.Prelude.Some c.unwrap-ends.result) (threes_middle IsFinished _ _ _ d.2) at in
    (pairs_get MayFinish _ _ c.requires _ _ _ (there c.loop-inbox.yielded c.next.new.self.rest.items c.args.inboxes.items c.in-Some.inbox goes) at_place).1

pub loop-inbox-preserved : goal.loop-inbox-preserved
loop-inbox-preserved g c =
    let i = c.loop-inbox.invariant in
    let d = i.3 in
    let before = c.loop-inbox.yielded in
    let x = c.in-Some.inbox in
    let y = c.unwrap-ends.result in
    let goes = ap (λ (l : List _). before ++ l) (sym c.in-Some.ensures.steps.0) ∙ i.2 in
    let popped = pop_is _ _ _ _ c.pop.ensures.items c.unwrap-ends.ensures in
    let at = next_there d.0 c.loop-inbox.columns.items c.pop.new.self.items c.args.columns.items y d.1 popped in
    let at_place = subst (λ (n : ℕ). Rattle.std.specs.Prelude.slice_get c.args.columns.items n ≡ Rattle.std.specs.Prelude.Some y) (threes_middle IsFinished _ _ _ d.2) at in
    let some = (pairs_get MayFinish _ _ c.requires _ _ _ (there before c.next.new.self.rest.items c.args.inboxes.items x goes) at_place).0 in
    let e = c.finish.ensures in
    let done : IsFinished x y c.finish.result = record { order = e.order; all = e.all; most = e.most some; taken = e.taken; sent = e.sent } in (
      tt,
      tt,
      append_assoc before (x ∷ []) c.next.new.self.rest.items ∙ goes,
      (
        d.0 ++ y ∷ [],
        taken_off d.0 c.loop-inbox.columns.items c.pop.new.self.items c.args.columns.items y d.1 popped,
        subst (λ (l : List _). Threewise IsFinished (before ++ x ∷ []) (d.0 ++ y ∷ []) l) (sym c.in_ok-push.ensures.items) (threes_push IsFinished _ _ _ x y c.finish.result d.2 done),
      ),
    )

pub returns : goal.returns
returns g c =
    let i = c.loop-inbox.invariant in
    let d = i.3 in
    let left = c.loop-inbox.columns.items in
    let rest = c.loop-inbox.inbox-iterator.rest in
    let all = no_more c.loop-inbox.yielded rest.items c.args.inboxes.items i.2 (sym rest.ok.0 ∙ c.in-None.ensures.steps.0) in
    let none = none_more d.0 left c.args.columns.items c.loop-inbox.yielded d.1 (threes_middle IsFinished _ _ _ d.2) (pairs_length MayFinish _ _ c.requires ∙ sym (ap length all)) in
    subst (λ (l : List _). Threewise IsFinished l c.args.columns.items c.loop-inbox.tallies.items) all (subst (λ (l : List _). Threewise IsFinished c.loop-inbox.yielded l c.loop-inbox.tallies.items) (none_left d.0 left c.args.columns.items d.1 none) d.2)
