use Rattle.std.proofs.Common.{◌∙◌, ap, subst}
use Rattle.std.specs.Prelude.{IfOk}
use Rattle.std.specs.HashSet.{contains_by}
use Rattle.std.specs.Str.{bytes_eq}
use Rattle.run_driver.specs.Drives.{AreNotes}
use Rattle.run_driver.proofs.commands.drive.Goals as goal

pub returns-clause-notes : goal.returns-clause-notes
returns-clause-notes g c =
    let is = c.new-book.ensures.is in
    let known = ap (λ k. k.now) (c.drain.ensures.run.known ∙ c.do_all.ensures.run.known) ∙ is.3 in
    let script = ap (λ s. s.now) (c.drain.ensures.run.script ∙ c.do_all.ensures.run.script) ∙ is.2 in
    subst (λ s. IfOk c.answers.result (λ notes. AreNotes g.W.Run.cancels g.W.Run.setting (λ index. contains_by (λ k. bytes_eq index k.now) c.args.known.now) s notes.items)) script
    (subst (λ k. IfOk c.answers.result (λ notes. AreNotes g.W.Run.cancels g.W.Run.setting (λ index. contains_by (λ q. bytes_eq index q.now) k) c.drain.new.book.script.now notes.items)) known
    c.answers.ensures.notes)
