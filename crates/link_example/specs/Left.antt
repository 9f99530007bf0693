-- What a thread leaves of its sender.
use Rattle.std.specs.Prelude.{◌≡◌}
use Rattle.crossbeam_channel.specs.Ends.{sends_on}
use Rattle.node_link.specs.declared.ends.Sender.{Sender}
use Rattle.node_link.specs.declared.ends.SenderEnd.{SenderEnd}
use Rattle.node_link.specs.Inbox.{number_of, number_left}

-- the end leads where the sender led, by the same number
abbrev pub IsLeftBy : {L : Type 0} → Sender L → SenderEnd L → Type 0
IsLeftBy s e = (sends_on e.port ≡ sends_on s.port) × (number_left e ≡ number_of s)
