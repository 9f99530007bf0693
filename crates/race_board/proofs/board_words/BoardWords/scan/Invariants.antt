use Rattle.race_board.proofs.board_words.BoardWords.scan.Given as goal

abbrev pub ghosts-scan_about : goal.ghosts-scan_about
ghosts-scan_about g a = record { slot = a.slot; place = a.place }
