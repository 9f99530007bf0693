use Rattle.std.proofs.Common.{[], ◌∷◌, ap}
use Rattle.std.proofs.lemmas.Option.{slice_get_read}
use Rattle.node_worker.proofs.Sending.{one_sent, none_sent_by}
use Rattle.node_worker.proofs.flush.send_at.Goals as goal

pub returns-in-Ok : goal.returns-in-Ok
returns-in-Ok g c =
    let all = c.args.senders.now in
    let s = c.index_mut-sender.result.now in
    let w = c.in-Ok.ensures in
    one_sent all.items c.args.post s c.send.new.self (slice_get_read all.items all.len c.args.post.to s all.ok.0 c.requires c.index_mut-sender.ensures.value) w.same w.sent

pub returns-in-Err : goal.returns-in-Err
returns-in-Err g c =
    let all = c.args.senders.now in
    let s = c.index_mut-sender.result.now in
    let w = c.in-Err.ensures in (
      ap (λ l. record { to = c.args.post.to; letter = l }) w.sent.0,
      none_sent_by all.items (c.args.post ∷ []) c.args.post.to s c.send.new.self (slice_get_read all.items all.len c.args.post.to s all.ok.0 c.requires c.index_mut-sender.ensures.value) w.same w.sent.1,
    )
