-- The work of the task changes alone.
use Rattle.std.proofs.Common.{refl}
use Rattle.live_tasks.specs.Answering.{TakesTurn}
use Rattle.live_tasks.specs.Entries.{with_work}
use Rattle.live_tasks.specs.Live.{entry_at}
use Rattle.live_tasks.proofs.Belonging.{some_entry, stays_changed}
use Rattle.live_tasks.proofs.Remaining.{worked_remains}
use Rattle.live_tasks.proofs.live.LiveTasks.turn.Goals as goal

pub returns-in-Ok-clause-together : goal.returns-in-Ok-clause-together
returns-in-Ok-clause-together c =
    let found = some_entry (TakesTurn c.args.shard.now.writes) (entry_at c.args.self.now c.args.number) (λ h. h) c.requires.next in
    let t = c.note_turn.ensures.turned found.0 found.1 in
    stays_changed c.args.self.now _ c.args.number found.0 (with_work found.0 t.0) c.requires.tasks (refl, refl) found.1 (t.1.0, (λ p. refl), t.1.1, refl) (worked_remains found.0 t.0) refl

pub returns-in-Err-clause-together : goal.returns-in-Err-clause-together
returns-in-Err-clause-together c =
    let found = some_entry (TakesTurn c.args.shard.now.writes) (entry_at c.args.self.now c.args.number) (λ h. h) c.requires.next in
    let t = c.note_turn.ensures.turned found.0 found.1 in
    stays_changed c.args.self.now _ c.args.number found.0 (with_work found.0 t.0) c.requires.tasks (refl, refl) found.1 (t.1.0, (λ p. refl), t.1.1, refl) (worked_remains found.0 t.0) refl

pub returns-in-Ok-clause-turned : goal.returns-in-Ok-clause-turned
returns-in-Ok-clause-turned c = λ e was. let t = c.in-Ok.ensures.turned e was in (t.0, (t.1.0, (λ p. refl), t.1.1, refl), t.2, t.3)

pub returns-in-Err-clause-turned : goal.returns-in-Err-clause-turned
returns-in-Err-clause-turned c = λ e was. let t = c.in-Err.ensures.turned e was in (t.0, (t.1.0, (λ p. refl), t.1.1, refl), t.2, t.3)
