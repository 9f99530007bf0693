use Rattle.std.proofs.Common.{[], ◌∷◌, option_to_list}
use Rattle.node_worker.specs.Posts.{SentBut}
use Rattle.node_worker.specs.Work.{PassedOver}
use Rattle.node_worker.proofs.standby.stand_by.Given as goal

abbrev pub invariant-loop : goal.invariant-loop
invariant-loop g l =
    (goal.iterator-loop g).can_next l.iterator' × (goal.iterator-loop g).is_finite l.iterator'
    × PassedOver l.initial.inbox l.inbox
    × SentBut l.initial.senders.items (l.fn.farewell ∷ []) l.senders.items (option_to_list l.left)
