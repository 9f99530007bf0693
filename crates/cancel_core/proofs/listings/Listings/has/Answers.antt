use Rattle.std.proofs.Common.{is_some, sym, ap, ◌∙◌}
use Rattle.task_ids.proofs.TaskIdKeys.{get_id}
use Rattle.cancel_core.proofs.listings.Listings.has.Goals as goal

pub returns : goal.returns
returns c = c.contains_key.ensures ∙ ap is_some (sym (get_id c.args.self.now.numbers.entries c.args.parent.now))
