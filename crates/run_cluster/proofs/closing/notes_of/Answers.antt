use Rattle.std.proofs.Common.{arith}
use Rattle.run_cluster.proofs.Manning.{dealt_count}
use Rattle.run_cluster.proofs.Noting.{notes_are}
use Rattle.run_cluster.proofs.closing.notes_of.Goals as goal

pub node_notes-requires : goal.node_notes-requires
node_notes-requires c =
    let dealt = c.in_ok-places.ensures.dealt in
    let count = dealt_count _ _ dealt.boards_are in
    let few = c.requires.few in
    omega arith

pub returns : goal.returns
returns c =
    let deal = c.in_ok-places.ensures in
    notes_are c.args.workers c.args.boards.items c.args.inboxes.items _ _ c.in_ok-nodes.nodes deal.dealt deal.wide c.in_ok-nodes.ensures
