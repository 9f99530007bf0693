use Rattle.std.proofs.Common.{refl}
use Rattle.run_book.proofs.Keeping.{none_begun}
use Rattle.run_book.proofs.book.Book.new.Goals as goal

pub returns-clause-keeps : goal.returns-clause-keeps
returns-clause-keeps g c = none_begun g.W.Run.cancels g.W.Run.setting _ c.requires.can c.requires.workers c.new.ensures.items refl c.new-3.ensures
