use Rattle.run_book.proofs.StartLetters.{setting_is}
use Rattle.run_book.specs.Entries.{CanDrive}
use Rattle.run_book.specs.Runs.{setting_of}
use Rattle.run_top.proofs.Named.{each_named}
use Rattle.run_top.specs.Kept.{IsCancelOf}
use Rattle.run_top.proofs.running.run_known.Goals as goal

pub run_named-requires-clause-can : goal.run_named-requires-clause-can
run_named-requires-clause-can g c =
    let script = c.args.script.now in
    let can : CanDrive (IsCancelOf script) (setting_of c.args.cluster.now c.args.corpus.now script) c.args.cluster.now.nodes script = record {
      nodes = c.args.cluster.now.nodes_in_range;
      few = c.requires.few;
      fit = c.requires.fits;
      named = each_named script;
      setting = setting_is c.args.cluster.now c.args.corpus.now script;
    } in
    λ κs within. can
