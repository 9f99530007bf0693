-- One of the senders sent.
use Rattle.std.proofs.lemmas.Option.{slice_get_read}
use Rattle.run_inboxes.proofs.Same.{senders_set}
use Rattle.node_tests.proofs.driver.send_at.Goals as goal

pub returns : goal.returns
returns g c =
    let all = c.args.senders.now in
    let s = c.index_mut-sender.result.now in
    senders_set all.items c.args.to s c.send.new.self (slice_get_read all.items all.len c.args.to s all.ok.0 c.requires c.index_mut-sender.ensures.value) c.send.ensures.same
