-- What the body asks for may start.
use Rattle.run_book.proofs.book.Book.start_reindex.Goals as goal

pub start-requires-clause-may : goal.start-requires-clause-may
start-requires-clause-may g c = rw c.in_ok-asks.ensures at c.requires.may
