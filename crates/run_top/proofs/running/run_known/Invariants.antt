use Rattle.run_book.specs.Runs.{setting_of}
use Rattle.run_top.specs.Kept.{IsCancelOf}
use Rattle.run_top.proofs.running.run_known.Given as goal

-- the cancels of the run are those of the script, and its setting is told by the input
abbrev pub ghosts-run_named : goal.ghosts-run_named
ghosts-run_named g a = record { cancels = IsCancelOf a.script.now; setting = setting_of a.cluster.now a.corpus.now a.script.now }
