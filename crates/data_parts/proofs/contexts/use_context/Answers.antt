use Rattle.std.proofs.Common.{◌≡◌, sym, subst}
use Rattle.std.specs.FinMap as finite
use Rattle.task_events.specs.declared.request.Request.TheVariants as asks
use Rattle.scroll_table.specs.Contexts.{answer_for}
use Rattle.data_parts.specs.Slices.{with_use_by}
use Rattle.data_parts.proofs.Using.{used_is}
use Rattle.data_parts.proofs.contexts.use_context.Goals as goal

pub returns-in-Scroll : goal.returns-in-Scroll
returns-in-Scroll c =
    let old = c.args.contexts.now in
    let new = c.page.new.self in
    let ask = c.get-ask.result.now in
    let now = c.args.now in
    let is = used_is (answer_for ask.owner now (finite.get old ask.id)) c.page.result old new c.args.task ask now c.page.ensures.refused c.page.ensures.used c.page.ensures.err in
    subst (λ r. new ≡ with_use_by old c.args.task r now) (sym c.in-Scroll.is) (subst (λ a. new ≡ with_use_by old c.args.task (asks.Scroll a) now) c.get-ask.ensures is)
