use Rattle.std.proofs.Common.{ℕ, Option, unwrap_or, sym, ap, ◌∙◌}
use Rattle.task_ids.proofs.TaskIdKeys.{get_id}
use Rattle.cancel_core.proofs.listings.Listings.number.Goals as goal

pub returns : goal.returns
returns c =
    c.unwrap_or.ensures ∙ ap (λ (o : Option ℕ). unwrap_or o 0) (c.copied.ensures ∙ c.get.ensures.value ∙ sym (get_id c.args.self.now.numbers.entries c.args.parent.now))
