-- Which cancellations acts name.
use Rattle.std.specs.Prelude.{ℕ}
use Rattle.cancel_core.specs.declared.act.Act.{Act}
use Rattle.cancel_core.specs.declared.act.Act.TheVariants.{SendBan, SendAck, SendUnban, AnswerPlaced, AnswerDone}
use Rattle.node_link.specs.Lawful.{IsCancelOfRun}
use Rattle.control_worker.specs.declared.act.ControlAct.{ControlAct}
use Rattle.control_worker.specs.declared.act.ControlAct.TheVariants as act

module _ (allowed : ℕ → Type 0) where
  -- a ban's cancel, and that of an answer, is one of the run
  abbrev pub IsLawfulCore : Act → Type 0
  IsLawfulCore (SendBan to parent cancel) = IsCancelOfRun allowed cancel
  IsLawfulCore (SendAck to parent) = Unit {0}
  IsLawfulCore (SendUnban to parent) = Unit {0}
  IsLawfulCore (AnswerPlaced cancel task) = IsCancelOfRun allowed cancel
  IsLawfulCore (AnswerDone cancel task receipt) = IsCancelOfRun allowed cancel

  -- so what an act says may stand in a letter of the run
  abbrev pub IsLawfulAct : ControlAct → Type 0
  IsLawfulAct (act.Core core) = IsLawfulCore core
  IsLawfulAct (act.NotFound cancel) = IsCancelOfRun allowed cancel
  IsLawfulAct (act.Named node cancel tasks) = IsCancelOfRun allowed cancel
