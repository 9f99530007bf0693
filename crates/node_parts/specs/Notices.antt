-- What the acts of a node's cancellations send.
use Rattle.std.specs.Prelude.{ℕ, Option, Some, None}
use Rattle.cancel_core.specs.declared.act.Act.{Act}
use Rattle.cancel_core.specs.declared.act.Act.TheVariants as acts
use Rattle.node_parts.specs.declared.notice.Notice.{Notice}
use Rattle.node_parts.specs.declared.notice.Notice.TheVariants.{Ban, Ack, Unban}

-- the message that an act of this node sends, and none where it gives an answer
abbrev pub notice_of : ℕ → Act → Option Notice
notice_of node (acts.SendBan to parent cancel) = Some (Ban parent cancel to)
notice_of node (acts.SendAck to parent) = Some (Ack parent node)
notice_of node (acts.SendUnban to parent) = Some (Unban parent to)
notice_of node _ = None
