use Rattle.std.proofs.Common.{List, subst}
use Rattle.std.specs.HashSet.{contains_by}
use Rattle.std.specs.Str.{bytes_eq}
use Rattle.script_lang.specs.declared.command.Command.{Command}
use Rattle.run_driver.specs.Drives.{AreNotes}
use Rattle.run_top.proofs.running.run_named.Goals as goal

pub returns-clause-lines : goal.returns-clause-lines
returns-clause-lines g c =
    subst (λ (script : List Command). AreNotes g.W.Run.cancels g.W.Run.setting (λ index. contains_by (λ k. bytes_eq index k.now) c.args.known.now) script c.run_cluster.new.drive.notes.items) c.new.ensures c.in_ok-nodes.ensures.done

pub returns-clause-ran : goal.returns-clause-ran
returns-clause-ran g c = (_, c.in_ok-nodes.ensures.run)
