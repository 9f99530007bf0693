use Rattle.run_driver.proofs.Noted.{note_of}
use Rattle.run_driver.proofs.hearing.answer_of.Goals as goal

pub returns-in-Some-take_note-clause-note : goal.returns-in-Some-take_note-clause-note
returns-in-Some-take_note-clause-note g c =
    let same = c.loop.invariant.3 in
    λ place at. note_of g.W.Run.cancels g.W.Run.setting c.args.book.now c.loop.book same place c.in-Some-take_note.note (c.in-Some-take_note.ensures.note place at)
