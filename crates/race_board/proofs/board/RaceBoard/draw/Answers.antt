use Rattle.std.proofs.Common.{arith, ℕ, ◌+◌, ◌%◌, ◌^◌, ◌<◌, ◌≤◌, [], refl, ap}
use Rattle.race_board.specs.Kinds.{draws}
use Rattle.race_board.specs.declared.views.View.{View}
use Rattle.race_board.proofs.Walking.{walk_one, stride, tale}
use Rattle.race_board.proofs.board.RaceBoard.draw.Goals as goal

pub returns-then-seen-lt-LAST_NUMBER-clause-moments : goal.returns-then-seen-lt-LAST_NUMBER-clause-moments
returns-then-seen-lt-LAST_NUMBER-clause-moments g c = let v : View = c.args.seat.now.place.me.0 in let w : View = c.draw-seen.new.seat.me.0 in let n : ℕ = c.draw-seen.result in
    let l : n < 1048575 = c.if-seen-lt-LAST_NUMBER.true in
    walk_one draws v w [] (stride draws v w 0 n (n + 1) ((n + 1) % 2 ^ 64) [] [] (ap tale (c.draw-seen.ensures.given l)) c.draw-seen.ensures.turn (refl, refl, refl) refl)

pub returns-clause-moments : goal.returns-clause-moments
returns-clause-moments g c = let v : View = c.args.seat.now.place.me.0 in let w : View = c.draw-seen.new.seat.me.0 in let n : ℕ = c.draw-seen.result in
    let l : 1048575 ≤ n = let few = c.if-seen-lt-LAST_NUMBER.false in omega arith in
    walk_one draws v w [] (stride draws v w 0 n (n + 1) ((n + 1) % 2 ^ 64) [] [] (ap tale (c.draw-seen.ensures.spent l)) c.draw-seen.ensures.turn (refl, refl, refl) refl)
