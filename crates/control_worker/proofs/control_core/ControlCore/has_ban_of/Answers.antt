use Rattle.std.proofs.Common.{is_some, sym, ap, ◌∙◌}
use Rattle.task_ids.proofs.TaskIdKeys.{get_id}
use Rattle.control_worker.proofs.control_core.ControlCore.has_ban_of.Goals as goal

pub returns : goal.returns
returns c = c.contains_key.ensures ∙ ap is_some (sym (get_id c.args.self.now.bans.entries c.args.parent))
