-- A context that may be used is used, and given back.
use Rattle.std.proofs.Common.{sym, ◌∙◌}
use Rattle.run_book.proofs.Paging.{is_busy, stays, turns}
use Rattle.run_book.proofs.scrolls.use_once.Goals as goal

pub give_back-requires : goal.give_back-requires
give_back-requires c = record { busy = is_busy c.args.contexts.now c.page.new.self c.args.ask c.args.now c.page.result c.page.ensures.refused c.page.ensures.used (sym c.is_ok.ensures.value ∙ c.if-is_ok.true) }

pub returns-then-is_ok : goal.returns-then-is_ok
returns-then-is_ok c = turns c.args.contexts.now c.page.new.self c.args.ask c.args.now c.page.result c.page.ensures.refused c.page.ensures.used c.give_back.new.self c.args.cursor (sym c.is_ok.ensures.value ∙ c.if-is_ok.true) c.give_back.ensures

pub returns-else-is_ok : goal.returns-else-is_ok
returns-else-is_ok c = stays c.args.contexts.now c.page.new.self c.args.ask c.args.now c.page.result c.page.ensures.refused c.page.ensures.used c.args.cursor (sym c.is_ok.ensures.value ∙ c.if-is_ok.false) c.page.ensures.err
