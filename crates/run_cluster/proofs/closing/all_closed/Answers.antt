use Rattle.std.proofs.Common.{◌≡◌, ◌<◌, ◌+◌, ℕ, List, [], ◌∷◌, ◌++◌, length, length-append, sym, ap, ◌∙◌, subst, append_assoc, Some}
use Rattle.std.specs.Prelude.{slice_get}
use Rattle.node_link.proofs.Counts.{no_more}
use Rattle.run_inboxes.specs.Pairs.{Pairwise}
use Rattle.run_inboxes.proofs.Pairs.{pairs_get, pairs_length, pairs_push, taken_off, none_left, next_there, there, pop_is, more_left, none_more}
use Rattle.run_cluster.specs.Boards.{AreSeatsOf}
use Rattle.run_cluster.specs.Closing.{IsClosedBoard}
use Rattle.run_cluster.proofs.closing.all_closed.Goals as goal

pub unwrap-own-requires : goal.unwrap-own-requires
unwrap-own-requires g c =
    let i = c.loop-board.invariant in
    let d = i.3 in
    let goes = ap (λ (l : List _). c.loop-board.yielded ++ l) (sym c.in-Some.ensures.steps.0) ∙ i.2 in
    let left = c.loop-board.seats in
    let long = more_left d.0 left.items c.args.seats.items c.loop-board.yielded c.next.new.self.rest.items c.args.boards.items c.in-Some.board d.1 goes d.2 (pairs_length AreSeatsOf _ _ c.requires) in
    c.pop.ensures.variant.1 (subst (λ (n : ℕ). 0 < n) (sym left.ok.0) long)

pub closed-requires : goal.closed-requires
closed-requires g c =
    let i = c.loop-board.invariant in
    let d = i.3 in
    let goes = ap (λ (l : List _). c.loop-board.yielded ++ l) (sym c.in-Some.ensures.steps.0) ∙ i.2 in
    let popped = pop_is _ _ _ _ c.pop.ensures.items c.unwrap-own.ensures in
    let at = next_there d.0 c.loop-board.seats.items c.pop.new.self.items c.args.seats.items c.unwrap-own.result d.1 popped in
    pairs_get AreSeatsOf _ _ c.requires _ _ _ (there c.loop-board.yielded c.next.new.self.rest.items c.args.boards.items c.in-Some.board goes)
    (subst (λ (n : ℕ). slice_get c.args.seats.items n ≡ Some c.unwrap-own.result) d.2 at)

pub loop-board-preserved : goal.loop-board-preserved
loop-board-preserved g c =
    let i = c.loop-board.invariant in
    let d = i.3 in
    let before = c.loop-board.yielded in
    let x = c.in-Some.board in
    let y = c.unwrap-own.result in
    let goes = ap (λ (l : List _). before ++ l) (sym c.in-Some.ensures.steps.0) ∙ i.2 in
    let popped = pop_is _ _ _ _ c.pop.ensures.items c.unwrap-own.ensures in (
      tt,
      tt,
      append_assoc before (x ∷ []) c.next.new.self.rest.items ∙ goes,
      (
        d.0 ++ y ∷ [],
        taken_off d.0 c.loop-board.seats.items c.pop.new.self.items c.args.seats.items y d.1 popped,
        length-append d.0 (y ∷ []) ∙ ap (λ (n : ℕ). n + 1) d.2 ∙ sym (length-append before (x ∷ [])),
        subst (λ (l : List _). Pairwise IsClosedBoard (d.0 ++ y ∷ []) l) (sym c.in_ok-push.ensures.items) (pairs_push IsClosedBoard d.0 c.loop-board.all.items y c.closed.result d.3 c.closed.ensures),
      ),
    )

pub returns : goal.returns
returns g c =
    let i = c.loop-board.invariant in
    let d = i.3 in
    let left = c.loop-board.seats.items in
    let rest = c.loop-board.board-iterator.rest in
    let all = no_more c.loop-board.yielded rest.items c.args.boards.items i.2 (sym rest.ok.0 ∙ c.in-None.ensures.steps.0) in
    let none = none_more d.0 left c.args.seats.items c.loop-board.yielded d.1 d.2 (pairs_length AreSeatsOf _ _ c.requires ∙ sym (ap length all)) in
    subst (λ (l : List _). Pairwise IsClosedBoard l c.loop-board.all.items) (none_left d.0 left c.args.seats.items d.1 none) d.3
