-- What the output of a worker's job owes to what it began with.
use Rattle.std.specs.Prelude.{List, []}
use Rattle.node_link.specs.declared.body.Body.{Body}
use Rattle.node_link.specs.declared.ends.Sender.{Sender}
use Rattle.node_link.specs.declared.ends.Receiver.{Receiver}
use Rattle.node_worker.specs.declared.post.Post.{Post}
use Rattle.node_worker.specs.declared.worker.Rest.{Rest}
use Rattle.node_worker.specs.declared.worker.WorkerOut.{WorkerOut}
use Rattle.node_worker.specs.declared.worker.WorkerOut.TheVariants.{Drained, Stopped}
use Rattle.node_worker.specs.Turns.{Given}
use Rattle.node_worker.specs.Work.{Stand, Did, Stopped as Stops}

-- what a worker begins with
pub record Begun (T : Type 0) : Type 0 where
  pub worker : T
  pub inbox : Receiver Body
  pub senders : List (Sender Body)

abbrev pub begins : {T : Type 0} → Begun T → Stand T
begins job = record { worker = job.worker; inbox = job.inbox; senders = job.senders; kept = [] }

-- nothing is kept
abbrev pub ends : {N T : Type 0} → Rest N T → Stand T
ends rest = record { worker = rest.worker; inbox = rest.inbox; senders = rest.senders.items; kept = [] }

-- A worker lists its turns, over all letters that it took, and sent just what they gave; at the end it is at rest. One that had to stop lists those before it.
abbrev pub Gives : {N T : Type 0} → (T → Given → List (Post Body) → T → Type 0) → (T → Type 0) → (T → Type 0) → Begun T → WorkerOut (Rest N T) → Type 0
Gives did at_rest fits job (Drained rest) = Did did (begins job) (ends rest) × at_rest rest.worker × fits rest.worker
Gives did at_rest fits job (Stopped stop rest) = Stops did stop (begins job) rest.inbox rest.senders.items × fits rest.worker
