use Rattle.std.proofs.Common.{◌≡◌, ◌<◌, ◌+◌, ℕ, List, [], ◌∷◌, ◌++◌, reverse, sym, ap, ◌∙◌, subst, append_assoc, arith}
use Rattle.std.specs.Prelude.{map}
use Rattle.std.proofs.lemmas.List.{map-append}
use Rattle.node_link.proofs.Counts.{no_more}
use Rattle.run_inboxes.proofs.Pairs.{pop_is, taken_off, none_left}
use Rattle.run_cluster.specs.Places.{inboxes_of, AreWide}
use Rattle.run_cluster.proofs.Dealing.{left_over, enough, dealt_one, wide_push, none_over}
use Rattle.run_cluster.proofs.places.deal.Goals as goal

pub deal_one-requires : goal.deal_one-requires
deal_one-requires g c =
    let i = c.loop-board.invariant in
    let goes = ap (λ (l : List _). c.loop-board.yielded ++ l) (sym c.in-Some.ensures.steps.0) ∙ i.2 in
    let left = c.loop-board.inboxes.items in
    let rest = c.next.new.self.rest.items in
    enough c.args.workers left rest c.in-Some.board
    (left_over c.args.workers c.loop-board.places.items left c.args.piles.inboxes.items c.loop-board.yielded (c.in-Some.board ∷ rest) c.args.piles.boards.items i.5 i.4 i.3 goes c.requires)

pub loop-board-preserved : goal.loop-board-preserved
loop-board-preserved g c =
    let i = c.loop-board.invariant in
    let x = c.in-Some.board in
    let before = c.loop-board.yielded in
    let ps = c.loop-board.places.items in
    let goes = ap (λ (l : List _). before ++ l) (sym c.in-Some.ensures.steps.0) ∙ i.2 in
    let p = c.in_ok-deal_one.field-0 in
    let is = c.in_ok-deal_one.ensures in
    let items = c.in_ok-push.ensures.items in (
      tt,
      tt,
      append_assoc before (x ∷ []) c.next.new.self.rest.items ∙ goes,
      ap (map (λ p. p.board)) items ∙ map-append (λ p. p.board) ps (p ∷ []) ∙ (λ j. i.3 j ++ is.board j ∷ []),
      subst (λ (l : List _). inboxes_of l ++ reverse c.deal_one.new.inboxes.items ≡ c.args.piles.inboxes.items) (sym items)
          (dealt_one ps p c.loop-board.inboxes.items c.deal_one.new.inboxes.items c.args.piles.inboxes.items i.4 is.inboxes),
      subst (λ (l : List _). AreWide c.args.workers l) (sym items) (wide_push c.args.workers ps p i.5 is.wide),
    )

pub unwrap-driver-requires : goal.unwrap-driver-requires
unwrap-driver-requires g c =
    let i = c.loop-board.invariant in
    let left = c.loop-board.inboxes in
    let long = left_over c.args.workers c.loop-board.places.items left.items c.args.piles.inboxes.items c.loop-board.yielded c.loop-board.board-iterator.rest.items c.args.piles.boards.items i.5 i.4 i.3 i.2 c.requires in
    c.pop.ensures.variant.1 (subst (λ (n : ℕ). 0 < n) (sym left.ok.0) (omega arith))

pub returns-clause-dealt : goal.returns-clause-dealt
returns-clause-dealt g c =
    let i = c.loop-board.invariant in
    let left = c.loop-board.inboxes in
    let rest = c.loop-board.board-iterator.rest in
    let none = sym rest.ok.0 ∙ c.in-None.ensures.steps.0 in
    let all = no_more c.loop-board.yielded rest.items c.args.piles.boards.items i.2 none in
    let long = left_over c.args.workers c.loop-board.places.items left.items c.args.piles.inboxes.items c.loop-board.yielded rest.items c.args.piles.boards.items i.5 i.4 i.3 i.2 c.requires in
    let popped = pop_is _ _ _ _ c.pop.ensures.items c.unwrap-driver.ensures in
    record {
      boards_are = i.3 ∙ all;
      inboxes_are = none_left (inboxes_of c.loop-board.places.items ++ c.unwrap-driver.result ∷ []) c.pop.new.self.items c.args.piles.inboxes.items
          (taken_off (inboxes_of c.loop-board.places.items) left.items c.pop.new.self.items c.args.piles.inboxes.items c.unwrap-driver.result i.4 popped)
          (none_over c.args.workers left.items c.pop.new.self.items rest.items c.unwrap-driver.result long none popped);
    }
