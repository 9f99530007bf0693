use Rattle.task_ids.proofs.TaskIdKeys.{one_put}
use Rattle.control_worker.proofs.bans.note_ban.Goals as goal

pub returns-clause-ok : goal.returns-clause-ok
returns-clause-ok c = one_put c.args.bans.now.entries c.insert.new.self.entries c.args.ban.parent c.args.ban.cancel c.in_ok-insert.ensures.updates.0
