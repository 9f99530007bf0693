-- The task stays as it was but for a mark that it is told, and its row tells that mark.
use Rattle.std.specs.Prelude.{IsSome}
use Rattle.std.proofs.Common.{refl, sym, subst}
use Rattle.live_tasks.specs.Entries.{after_look}
use Rattle.entry_facts.proofs.Cores.{task_goes_on}
use Rattle.entry_facts.proofs.Entries.{looked_of_run}
use Rattle.data_core.proofs.Cases.{some_there, told_of_run}
use Rattle.data_core.proofs.Good.{looked_good}
use Rattle.data_core.proofs.Kept.{change_sound}
use Rattle.data_core.proofs.Listed.{looked_row, looked_so, looked_lawful}
use Rattle.data_core.proofs.rows.look_at.Goals as goal

pub returns-in-Ok-clause-sound : goal.returns-in-Ok-clause-sound
returns-in-Ok-clause-sound g c =
    let old = c.args.core.now in
    let there = some_there _ c.requires.live in
    let e = there.0 in
    let mark = c.look-mark.result in
    change_sound _ _ _ _ _ _ _ _ _ old c.look-mark.new.self c.args.number e (after_look e mark) c.requires.sound c.look-mark.ensures.together c.look-mark.ensures.core there.1 (c.look-mark.ensures.looked e there.1)
    (looked_good _ old.shards e mark (told_of_run g.W.Run.cancels mark c.look-mark.ensures.allowed))

pub returns-in-Err-clause-sound : goal.returns-in-Err-clause-sound
returns-in-Err-clause-sound g c =
    let old = c.args.core.now in
    let there = some_there _ c.requires.live in
    let e = there.0 in
    let mark = c.look-mark.result in
    change_sound _ _ _ _ _ _ _ _ _ old c.look-mark.new.self c.args.number e (after_look e mark) c.requires.sound c.look-mark.ensures.together c.look-mark.ensures.core there.1 (c.look-mark.ensures.looked e there.1)
    (looked_good _ old.shards e mark (told_of_run g.W.Run.cancels mark c.look-mark.ensures.allowed))

pub returns-in-Ok-clause-of_run : goal.returns-in-Ok-clause-of_run
returns-in-Ok-clause-of_run g c =
    let old = c.args.core.now in
    let run = g.W.Run.setting in
    let there = some_there _ c.requires.live in
    let e = there.0 in
    let mark = c.look-mark.result in
    task_goes_on run _ old.shards old.live c.requires.of_run c.look-mark.new.self c.args.number e (after_look e mark) there.1 (c.look-mark.ensures.looked e there.1) (looked_of_run run old.shards e mark)

pub returns-in-Err-clause-of_run : goal.returns-in-Err-clause-of_run
returns-in-Err-clause-of_run g c =
    let old = c.args.core.now in
    let run = g.W.Run.setting in
    let there = some_there _ c.requires.live in
    let e = there.0 in
    let mark = c.look-mark.result in
    task_goes_on run _ old.shards old.live c.requires.of_run c.look-mark.new.self c.args.number e (after_look e mark) there.1 (c.look-mark.ensures.looked e there.1) (looked_of_run run old.shards e mark)

pub returns-in-Ok-clause-looked : goal.returns-in-Ok-clause-looked
returns-in-Ok-clause-looked g c = λ e at.
    let mark = c.look-mark.result in
    let change = c.look-mark.ensures.looked e at in
    let made = looked_row e mark c.in-Ok.row (c.in-Ok.ensures.row (after_look e mark) change.0.0) in
    looked_so g.B.DataBoard.rests c.args.board.now c.look-mark.new.board c.args.core.now.live c.look-mark.new.self c.args.number e mark c.in-Ok.row made (c.look-mark.ensures.rests e at) change

pub returns-in-Ok-clause-row : goal.returns-in-Ok-clause-row
returns-in-Ok-clause-row g c =
    let there = some_there _ c.requires.live in
    let e = there.0 in
    let mark = c.look-mark.result in
    let change = c.look-mark.ensures.looked e there.1 in
    let made = looked_row e mark c.in-Ok.row (c.in-Ok.ensures.row (after_look e mark) change.0.0) in
    looked_lawful g.W.Run.cancels e mark c.in-Ok.row made c.look-mark.ensures.allowed

pub row_at-requires : goal.row_at-requires
row_at-requires g c =
    let there = some_there _ c.requires.live in
    record { live = subst IsSome (sym (c.look-mark.ensures.looked there.0 there.1).0.0) refl }
