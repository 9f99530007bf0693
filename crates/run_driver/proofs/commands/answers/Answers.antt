use Rattle.std.proofs.Common.{◌≡◌, ◌+◌, ◌++◌, ◌∷◌, [], List, rules, sym, subst}
use Rattle.run_inboxes.proofs.Same.{ends_on}
use Rattle.run_book.proofs.Keeping.{same_run}
use Rattle.run_book.specs.declared.entry.LineNote.{LineNote}
use Rattle.run_book.specs.Entries.{is_known_to}
use Rattle.run_driver.specs.Drives.{AreFirst}
use Rattle.run_driver.proofs.Noted.{note_of, one_more}
use Rattle.run_driver.proofs.commands.answers.Goals as goal

pub loop-before-preserved : goal.loop-before-preserved
loop-before-preserved g c =
    let inv = c.loop-before.invariant in
    let book = c.args.book.now in
    let at = c.loop-before.before in
    let notes = c.loop-before.notes.items in
    let note = c.in_ok-note.note in
    let items : c.push.new.self.items ≡ notes ++ note ∷ [] = search rules in
    let is = note_of g.W.Run.cancels g.W.Run.setting book c.loop-before.book inv.1 at note (c.in_ok-note.ensures.note at (search rules)) in (
      c.in_ok-note.ensures.keeps,
      same_run book c.loop-before.book c.answer_of.new.book inv.1 c.answer_of.ensures.run,
      ends_on c.args.ends.now c.loop-before.ends c.answer_of.new.ends inv.2 c.answer_of.ensures.ends,
      subst (λ (l : List LineNote). AreFirst g.W.Run.cancels g.W.Run.setting (is_known_to book) book.script.now (at + 1) l) (sym items)
          (one_more g.W.Run.cancels g.W.Run.setting (is_known_to book) book.script.now at notes note inv.3 is c.in_ok-note.ensures.printable),
    )
