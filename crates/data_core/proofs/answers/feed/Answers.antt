-- The task that asked has taken the answer, or is as it was.
use Rattle.run_facts.specs.Cancels.{cancels_of}
use Rattle.entry_facts.proofs.Cores.{task_changed}
use Rattle.entry_facts.proofs.Live.{changed_each}
use Rattle.entry_facts.specs.Entries.{IsEntryOfRun}
use Rattle.data_core.specs.Cores.{IsGoodEntry}
use Rattle.data_core.proofs.Fed.{asker_there, asker_at, fed_of_run}
use Rattle.data_core.proofs.Good.{answered_good}
use Rattle.data_core.proofs.Sound.{tasks_sound}
use Rattle.data_core.proofs.answers.feed.Goals as goal

pub returns-in-Ok-clause-sound : goal.returns-in-Ok-clause-sound
returns-in-Ok-clause-sound g c =
    let old = c.args.core.now in
    let live = c.answer.new.self in
    let a = c.args.answered in
    let there = asker_there old.live a.receipt a.reply c.requires.fits.0 in
    let e = there.0 in
    let change = c.in-Ok.ensures.answered e there.1 in
    let good = asker_at (IsGoodEntry (cancels_of g.W.Run.cancels) old.shards) old.live a.receipt.parent e c.requires.sound.good there.1 in
    tasks_sound _ _ _ _ _ _ _ _ _ old live c.requires.sound c.answer.ensures.together c.answer.ensures.core
    (changed_each _ old.live live c.requires.sound.good e.running.ticket.id.number _ change.0 (answered_good _ old.shards e a.receipt.ask a.reply _ c.requires.lawful good))

pub returns-in-Err-clause-sound : goal.returns-in-Err-clause-sound
returns-in-Err-clause-sound g c =
    let old = c.args.core.now in
    let live = c.answer.new.self in
    let a = c.args.answered in
    let there = asker_there old.live a.receipt a.reply c.requires.fits.0 in
    let e = there.0 in
    let change = c.in-Err.ensures.err e there.1 in
    let good = asker_at (IsGoodEntry (cancels_of g.W.Run.cancels) old.shards) old.live a.receipt.parent e c.requires.sound.good there.1 in
    tasks_sound _ _ _ _ _ _ _ _ _ old live c.requires.sound c.answer.ensures.together c.answer.ensures.core
    (changed_each _ old.live live c.requires.sound.good e.running.ticket.id.number _ change.0.0 good)

pub returns-in-Ok-clause-of_run : goal.returns-in-Ok-clause-of_run
returns-in-Ok-clause-of_run g c =
    let old = c.args.core.now in
    let live = c.answer.new.self in
    let a = c.args.answered in
    let run = g.W.Run.setting in
    let there = asker_there old.live a.receipt a.reply c.requires.fits.0 in
    let e = there.0 in
    let change = c.in-Ok.ensures.answered e there.1 in
    task_changed run _ old.shards old.live c.requires.of_run live e.running.ticket.id.number _ change.0
    (fed_of_run run old.shards old.live a _ e there.1 c.requires.fits c.requires.tells c.requires.of_run.tasks)

pub returns-in-Err-clause-of_run : goal.returns-in-Err-clause-of_run
returns-in-Err-clause-of_run g c =
    let old = c.args.core.now in
    let live = c.answer.new.self in
    let a = c.args.answered in
    let run = g.W.Run.setting in
    let there = asker_there old.live a.receipt a.reply c.requires.fits.0 in
    let e = there.0 in
    let change = c.in-Err.ensures.err e there.1 in
    task_changed run _ old.shards old.live c.requires.of_run live e.running.ticket.id.number _ change.0.0
    (asker_at (IsEntryOfRun run old.shards) old.live a.receipt.parent e c.requires.of_run.tasks there.1)
