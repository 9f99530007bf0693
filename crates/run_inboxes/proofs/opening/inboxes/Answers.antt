use Rattle.run_inboxes.specs.Ends.{IsOpened}
use Rattle.run_inboxes.proofs.Pairs.{pairs_left}
use Rattle.run_inboxes.proofs.Linked.{new_linked, new_new}
use Rattle.run_inboxes.proofs.opening.inboxes.Goals as goal

pub turned-requires : goal.turned-requires
turned-requires g c i row at = (pairs_left (IsOpened c.args.capacity c.args.count) _ _ c.in_ok-inboxes.ensures.new i row at).2.long

pub returns-clause-linked : goal.returns-clause-linked
returns-clause-linked g c = let o = c.in_ok-inboxes.ensures in let j = c.in_ok-all.ensures in new_linked c.args.capacity c.args.count _ _ _ _ o.count o.new c.in_ok-senders.ensures j.inboxes j.senders

pub returns-clause-new : goal.returns-clause-new
returns-clause-new g c = let o = c.in_ok-inboxes.ensures in let j = c.in_ok-all.ensures in new_new c.args.capacity c.args.count _ _ _ _ o.count o.new c.in_ok-senders.ensures j.inboxes j.senders
