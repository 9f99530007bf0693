use Rattle.std.proofs.Common.{◌≡◌, List, IfOk, subst}
use Rattle.std.specs.HashSet.{contains_by}
use Rattle.std.specs.Str.{bytes_eq}
use Rattle.script_lang.specs.declared.command.Command.{Command}
use Rattle.run_driver.specs.Drives.{AreNotes}
use Rattle.run_top.proofs.driver.Task.drive.Goals as goal

pub returns-clause-notes : goal.returns-clause-notes
returns-clause-notes g c =
    let same : c.self.inside.script.now ≡ c.args.self.now = cc in
    subst (λ (script : List Command). IfOk c.drive.result (λ notes. AreNotes g.W.Run.cancels g.W.Run.setting (λ index. contains_by (λ k. bytes_eq index k.now) c.args.known.now) script notes.items)) same c.drive.ensures.notes
