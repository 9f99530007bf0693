use Rattle.race_board.proofs.board_words.BoardWords.check.Given as goal

abbrev pub ghosts-check_about : goal.ghosts-check_about
ghosts-check_about g a = record { slot = a.slot; place = a.place }
