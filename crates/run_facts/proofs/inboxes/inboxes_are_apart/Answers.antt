-- An inbox has one address.
use Rattle.run_facts.proofs.Addresses.{one_address}
use Rattle.run_facts.proofs.inboxes.inboxes_are_apart.Goals as goal

pub returns : goal.returns
returns c = one_address
