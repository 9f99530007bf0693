-- A reindex whose source is known starts.
use Rattle.std.proofs.Common.{Some, ap, sym, ◌∙◌}
use Rattle.run_book.specs.Entries.{is_known_to}
use Rattle.run_book.proofs.Beginning.{asks_for}
use Rattle.run_book.proofs.book.Book.reindex_of.Goals as goal

pub returns : goal.returns
returns g c = asks_for (is_known_to c.args.self.now) c.args.slices c.args.rate c.args.body c.in_ok-new.field-0 (ap (is_known_to c.args.self.now) (sym c.as_str.ensures) ∙ sym c.contains.ensures ∙ c.if-not-contains.false) (c.in_ok-ask.ensures ∙ ap Some (sym c.in_ok-new.ensures.ok))
