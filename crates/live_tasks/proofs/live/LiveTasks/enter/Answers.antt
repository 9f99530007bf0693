-- The task is what was wanted.
use Rattle.std.proofs.Common.{Option, Some, refl, ap, subst, ◌∙◌}
use Rattle.task_ids.specs.declared.task_id.TaskId.{TaskId}
use Rattle.node_link.specs.declared.body.Place.{Place}
use Rattle.live_tasks.specs.Live.{number_at, ChangesAt}
use Rattle.live_tasks.specs.Registers.{AreParts, new_entry}
use Rattle.live_tasks.proofs.live.LiveTasks.enter.Goals as goal

pub claim-requires-clause-place : goal.claim-requires-clause-place
claim-requires-clause-place g c = ap (number_at c.args.self.now) c.in-Ok.ensures.place ∙ c.requires.place

pub returns-in-Ok-clause-entry : goal.returns-in-Ok-clause-entry
returns-in-Ok-clause-entry g c = λ t e.
    let made = subst (λ (p : Option TaskId). AreParts c.args.id p c.args.wanted.now c.args.cluster.now.shards c.args.now c.in-Ok.parts) c.parent_of-parent.ensures c.in-Ok.ensures in
    (new_entry (record { id = c.args.id; token = c.args.token }) c.in-Ok.parts, record { parts = c.in-Ok.parts; made = made; is = refl }, c.claim.ensures.entry t e)

pub returns-in-Ok-clause-placed : goal.returns-in-Ok-clause-placed
returns-in-Ok-clause-placed g c = λ t e. subst (λ (p : Place). ChangesAt (number_at c.args.self.now) (number_at c.claim.new.self) p (Some c.args.id.number)) c.in-Ok.ensures.place (c.claim.ensures.placed t e)
