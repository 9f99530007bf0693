use Rattle.task_ids.proofs.TaskIdKeys.{one_removed}
use Rattle.control_worker.proofs.bans.forget_ban.Goals as goal

pub returns : goal.returns
returns c = one_removed c.args.bans.now.entries c.remove.new.self.entries c.args.parent c.remove.ensures.updates.0
