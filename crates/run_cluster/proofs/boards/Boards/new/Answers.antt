use Rattle.std.proofs.Common.{ℕ, ◌+◌, List, [], ◌∷◌, length, length-append, sym, ap, ◌∙◌, subst}
use Rattle.std.specs.Prelude.{slice_get}
use Rattle.run_cluster.specs.Boards.{IsNewBoard}
use Rattle.run_cluster.proofs.Fresh.{each_two}
use Rattle.run_cluster.proofs.boards.Boards.new.Goals as goal

pub loop-before-preserved : goal.loop-before-preserved
loop-before-preserved g c =
    let i = c.loop-before.invariant in
    let n = c.loop-before.before in
    let boards = c.loop-before.all.boards.items in
    let seats = c.loop-before.all.seats.items in
    let b = c.in_ok-board.board in
    let s = c.in_ok-board.seats in
    let first = c.in_ok-push.ensures.items in
    let second = c.in_ok-push-2.ensures.items in
    let new = IsNewBoard c.args.cluster.now.slots c.args.workers in
    let each = each_two (λ k x y. new (k + 1) x y) boards seats b s (i.0 ∙ sym i.1) i.2 (subst (λ (m : ℕ). new (m + 1) b s) (sym i.0) c.in_ok-board.ensures) in (
      ap length first ∙ length-append boards (b ∷ []) ∙ ap (λ (m : ℕ). m + 1) i.0,
      ap length second ∙ length-append seats (s ∷ []) ∙ ap (λ (m : ℕ). m + 1) i.1,
      λ k x y at there. each k x y (ap (λ (l : List _). slice_get l k) (sym first) ∙ at) (ap (λ (l : List _). slice_get l k) (sym second) ∙ there),
    )
