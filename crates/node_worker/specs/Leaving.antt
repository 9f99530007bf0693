-- Which workers a control worker knows to have left.
use Rattle.std.specs.Prelude.{◌≡◌, ℕ, false, ◌+◌, ◌||◌, ◌==◌}
use Rattle.child_track.specs.declared.nodes.NodeSet.{NodeSet}
use Rattle.child_track.specs.NodeSet.{has_node}
use Rattle.node_link.specs.declared.body.Body.{Body}
use Rattle.node_link.specs.declared.body.Body.TheVariants as says
use Rattle.node_worker.specs.declared.left.Left.{Left}

-- none is known to have left
abbrev pub NobodyLeft : Left → Type 0
NobodyLeft left = (left.has_said ≡ false) × ((n : ℕ) → has_node left.«data» n ≡ false) × ((n : ℕ) → has_node left.control n ≡ false)

-- the set with one node more
abbrev pub With : ℕ → NodeSet → NodeSet → Type 0
With node old new = (n : ℕ) → has_node new n ≡ (has_node old n || (n == node))

-- a data worker of the node has left, which stands in the set as a node that is one more
pub record HeardOfData (worker : ℕ) (old new : Left) : Type 0 where
  pub «data» : With (worker + 1) old.«data» new.«data»
  pub control : new.control ≡ old.control
  pub has_said : new.has_said ≡ old.has_said

-- the control worker of a node has left
pub record HeardOf (node : ℕ) (old new : Left) : Type 0 where
  pub control : With node old.control new.control
  pub «data» : new.«data» ≡ old.«data»
  pub has_said : new.has_said ≡ old.has_said

-- what a letter says of a worker that has left is noted
abbrev pub Noted : Body → Left → Left → Type 0
Noted (says.Request asked) old new = new ≡ old
Noted (says.Answer answered) old new = new ≡ old
Noted (says.Ban parent cancel to) old new = new ≡ old
Noted (says.Ack parent from) old new = new ≡ old
Noted (says.Unban parent to) old new = new ≡ old
Noted (says.Start start) old new = new ≡ old
Noted (says.Cancel cancel task wait) old new = new ≡ old
Noted (says.CancelMatching cancel filter wait) old new = new ≡ old
Noted (says.List command) old new = new ≡ old
Noted (says.Tick ms) old new = new ≡ old
Noted says.Drain old new = new ≡ old
Noted says.Leave old new = new ≡ old
Noted (says.Stop cause) old new = new ≡ old
Noted (says.Matches worker cancel rows wait) old new = new ≡ old
Noted (says.Ended receipt) old new = new ≡ old
Noted (says.DataLeft worker) old new = HeardOfData worker old new
Noted (says.ControlLeft node) old new = HeardOf node old new
Noted (says.Root command task) old new = new ≡ old
Noted (says.RootAnswer answered) old new = new ≡ old
Noted (says.Rows node worker command rows) old new = new ≡ old
Noted (says.AnswerPlaced cancel task) old new = new ≡ old
Noted (says.AnswerDone cancel task receipt) old new = new ≡ old
Noted (says.NotFound cancel) old new = new ≡ old
Noted (says.Named node cancel tasks) old new = new ≡ old
Noted (says.Stopped cause) old new = new ≡ old
