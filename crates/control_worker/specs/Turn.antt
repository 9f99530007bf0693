-- What a turn does with its letter.
use Rattle.std.specs.Prelude.{List}
use Rattle.node_link.specs.declared.body.Body.{Body}
use Rattle.node_link.specs.declared.body.Body.TheVariants as says
use Rattle.node_boards.specs.Calls.{ControlCall}
use Rattle.control_worker.specs.declared.act.ControlAct.{ControlAct}
use Rattle.control_worker.specs.View.{View}
use Rattle.control_worker.specs.Steps.{Step, Nothing, Chain}
use Rattle.control_worker.specs.Cancels.{Cancels, Acks, EndsOf}
use Rattle.control_worker.specs.Bans.{TakesBan, TakesUnban}
use Rattle.control_worker.specs.Gathers.{Gathers}

-- a step for each kind of letter; what is not for a control worker is passed over
abbrev pub Takes : Body → Step
Takes (says.Request asked) = Nothing
Takes (says.Answer answered) = Nothing
Takes (says.Ban parent cancel to) = TakesBan (record { parent = parent; cancel = cancel }) to
Takes (says.Ack parent from) = Acks parent from
Takes (says.Unban parent to) = TakesUnban parent to
Takes (says.Start start) = Nothing
Takes (says.Cancel cancel task wait) = Cancels task (record { cancel = cancel; wait = wait })
Takes (says.CancelMatching cancel filter wait) = Nothing
Takes (says.List command) = Nothing
Takes (says.Tick ms) = Nothing
Takes says.Drain = Nothing
Takes says.Leave = Nothing
Takes (says.Stop cause) = Nothing
Takes (says.Matches worker cancel rows wait) = Gathers worker (record { cancel = cancel; wait = wait }) rows
Takes (says.Ended receipt) = EndsOf receipt.task receipt
Takes (says.DataLeft worker) = Nothing
Takes (says.ControlLeft node) = Nothing
Takes (says.Root command task) = Nothing
Takes (says.RootAnswer answered) = Nothing
Takes (says.Rows node worker command rows) = Nothing
Takes (says.AnswerPlaced cancel task) = Nothing
Takes (says.AnswerDone cancel task receipt) = Nothing
Takes (says.NotFound cancel) = Nothing
Takes (says.Named node cancel tasks) = Nothing
Takes (says.Stopped cause) = Nothing

-- a turn over a letter: by exactly these calls the board goes on, and by their answers the acts and the core follow from letter and core
unfoldable pub Turned : {B : Type 0} → (B → B → ControlCall → Type 0) → B → View → Body → List ControlAct → View → B → Type 0
Turned rests b v letter acts w c = (calls : List ControlCall) × Chain rests b calls c × Takes letter v calls acts w
