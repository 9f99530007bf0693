use Rattle.race_board.proofs.board_words.BoardWords.strike.Given as goal

abbrev pub ghosts-strike_about : goal.ghosts-strike_about
ghosts-strike_about g a = record { slot = a.slot; place = 0 }
