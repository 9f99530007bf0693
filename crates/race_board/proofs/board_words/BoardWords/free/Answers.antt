use Rattle.std.proofs.Common.{subst}
use Rattle.race_board.specs.Board.{BoardOk}
use Rattle.race_board.specs.declared.views.Size.{Size}
use Rattle.race_board.proofs.Last.{last}
use Rattle.race_board.proofs.board_words.BoardWords.free.Goals as goal

pub returns : goal.returns
returns g c = let words = c.args.self in let place = c.args.place in let t = c.close_with.ensures.values.2 in
    record { last = last words.size t.0 place.id place.me.0 c.requires.control.0 (subst (λ (z : Size). BoardOk z t.0) words.keyed t.1.0.0) t.1.1 c.requires.whole.1 c.requires.whole.0 c.requires.control.1 }
