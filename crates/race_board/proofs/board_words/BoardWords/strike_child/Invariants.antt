use Rattle.std.proofs.Common.{◌+◌, cond, eqb}
use Rattle.race_board.proofs.board_words.BoardWords.strike_child.Given as goal

abbrev pub ghosts-strike_in : goal.ghosts-strike_in
ghosts-strike_in g a = record { slot = a.slot; place = cond (eqb (a.slot + 1) a.self.now.size.slots) (a.place + 1) 0 }
