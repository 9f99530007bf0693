-- The letters of a control worker, with their addresses, in a cluster whose nodes have so many data workers each.
use Rattle.std.specs.Prelude.{ℕ, zero, suc, nat_le, ◌==◌, ◌&&◌, Bool, false, if◌then◌else◌, List, [], ◌∷◌, ◌++◌, filter_map, Option, None, Some}
use Rattle.task_ids.specs.declared.task_id.TaskId.{TaskId}
use Rattle.cancel_core.specs.declared.act.Act.{Act}
use Rattle.cancel_core.specs.declared.act.Act.TheVariants.{SendBan, SendAck, SendUnban, AnswerPlaced, AnswerDone}
use Rattle.control_worker.specs.declared.act.ControlAct.{ControlAct}
use Rattle.control_worker.specs.declared.act.ControlAct.TheVariants as act
use Rattle.node_link.specs.declared.body.Body.{Body}
use Rattle.node_link.specs.declared.body.Body.TheVariants as says
use Rattle.run_facts.specs.Inboxes.{control_of, driver_of}
use Rattle.node_worker.specs.declared.post.Post.{Post}

-- the letter asks for nothing, starts nothing and replies nothing, as those that a control worker sends
abbrev pub IsOfControl : Body → Type 0
IsOfControl (says.Request asked) = ⊥
IsOfControl (says.Start start) = ⊥
IsOfControl (says.Answer answered) = ⊥
IsOfControl (says.RootAnswer answered) = ⊥
IsOfControl _ = Unit {0}

-- a letter for the control worker of a node, if that is one of the cluster
abbrev pub to_control : ℕ → ℕ → ℕ → Body → Option (Post Body)
to_control workers nodes to body = if nat_le 1 to && nat_le to nodes then Some (record { to = control_of workers to; letter = body }) else None

abbrev pub to_driver : ℕ → ℕ → Body → Post Body
to_driver workers nodes body = record { to = driver_of workers nodes; letter = body }

-- the receipt's task is this one
abbrev pub is_own : Option TaskId → TaskId → Bool
is_own None task = false
is_own (Some own) task = (own.node == task.node) && (own.number == task.number)

-- bans, acknowledgements and unbans go to control workers, and answers to the driver
abbrev pub core_post : ℕ → ℕ → ℕ → Act → Option (Post Body)
core_post workers nodes node (SendBan to parent cancel) = to_control workers nodes to (says.Ban parent cancel to)
core_post workers nodes node (SendAck to parent) = to_control workers nodes to (says.Ack parent node)
core_post workers nodes node (SendUnban to parent) = to_control workers nodes to (says.Unban parent to)
core_post workers nodes node (AnswerPlaced cancel task) = Some (to_driver workers nodes (says.AnswerPlaced cancel task))
core_post workers nodes node (AnswerDone cancel task receipt) = if is_own receipt.task task then Some (to_driver workers nodes (says.AnswerDone cancel task receipt)) else None

abbrev pub act_post : ℕ → ℕ → ℕ → ControlAct → Option (Post Body)
act_post workers nodes node (act.Core core) = core_post workers nodes node core
act_post workers nodes node (act.NotFound cancel) = Some (to_driver workers nodes (says.NotFound cancel))
act_post workers nodes node (act.Named from cancel tasks) = Some (to_driver workers nodes (says.Named node cancel tasks))

-- the letters of these acts, in order
abbrev pub act_posts : ℕ → ℕ → ℕ → List ControlAct → List (Post Body)
act_posts workers nodes node acts = filter_map (act_post workers nodes node) acts

-- a node tells so many control workers, from the first, that its own has left
abbrev pub left_posts : ℕ → ℕ → ℕ → List (Post Body)
left_posts workers node zero = []
left_posts workers node (suc n) = left_posts workers node n ++ record { to = control_of workers (suc n); letter = says.ControlLeft node } ∷ []
