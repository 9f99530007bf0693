-- The next command of a run that can be driven may begin.
use Rattle.std.proofs.Common.{refl}
use Rattle.run_book.specs.Entries.{is_known_to}
use Rattle.run_book.proofs.StartLetters.{reindex_may_start, search_may_start}
use Rattle.run_book.proofs.Keeping.{at_number, cancel_lawful, clock_fits, command_fits, number_fits}
use Rattle.run_book.proofs.book.Book.begun.Goals as goal

pub start_reindex-requires-clause-slices : goal.start_reindex-requires-clause-slices
start_reindex-requires-clause-slices g c = (rw c.in-Reindex.is at (command_fits _ _ _ _ c.requires.keeps c.requires.there).1).1

pub start_reindex-requires-clause-rate : goal.start_reindex-requires-clause-rate
start_reindex-requires-clause-rate g c = (rw c.in-Reindex.is at (command_fits _ _ _ _ c.requires.keeps c.requires.there).1).2

pub tick-requires-clause-ms : goal.tick-requires-clause-ms
tick-requires-clause-ms g c = rw c.in-Tick.is at (command_fits _ _ _ _ c.requires.keeps c.requires.there).1

pub tick-requires-clause-clock : goal.tick-requires-clause-clock
tick-requires-clause-clock g c = rw c.in-Tick.is at (clock_fits _ _ _ _ c.requires.keeps c.requires.there)

pub cancel-requires : goal.cancel-requires
cancel-requires g c = cancel_lawful _ _ _ _ _ c.requires.keeps c.requires.number c.requires.there (rw c.in-Cancel.is refl)

pub list-requires-clause-number : goal.list-requires-clause-number
list-requires-clause-number g c = number_fits _ _ _ _ _ c.requires.keeps c.requires.number c.requires.there

pub start_search-requires-clause-may : goal.start_search-requires-clause-may
start_search-requires-clause-may g c =
    let there = at_number g.W.Run.cancels g.W.Run.setting c.args.self.now c.args.number c.args.command.now c.requires.number c.requires.there in
    rw c.in-Search.is (search_may_start g.W.Run.setting c.args.self.now.script.now c.requires.keeps.can.setting c.args.number (is_known_to c.args.self.now) _ _ _ _ _ (rw c.in-Search.is at there))

pub start_reindex-requires-clause-may : goal.start_reindex-requires-clause-may
start_reindex-requires-clause-may g c =
    let there = at_number g.W.Run.cancels g.W.Run.setting c.args.self.now c.args.number c.args.command.now c.requires.number c.requires.there in
    rw c.in-Reindex.is (reindex_may_start g.W.Run.setting c.args.self.now.script.now c.requires.keeps.can.setting c.args.number (is_known_to c.args.self.now) _ _ _ _ _ _ (rw c.in-Reindex.is at there))
