-- The work is a new one for what is wanted.
use Rattle.live_tasks.proofs.wanted.work_for.Goals as goal

pub returns-in-Ok : goal.returns-in-Ok
returns-in-Ok c = record {
  new = c.in-Ok.ensures.work;
  begun = c.in-Ok.ensures.tied;
  on = c.in-Ok.ensures.begun;
  at = c.in-Ok.ensures.at;
  sound = c.in-Ok.ensures.sound;
}
