use Rattle.std.proofs.Common.{◌∙◌, Some, Ok, refl, sym, ap, arith, None}
use Rattle.std.proofs.lemmas.Option.{get_or_from_slice_get}
use Rattle.task_events.specs.declared.event.Event.TheVariants.{BanPut}
use Rattle.task_events.specs.Messages.Message.{Ban}
use Rattle.world_moves.specs.Moves.{Delivers}
use Rattle.world_moves.proofs.BansAfter.{bans_on, has_bans, bans_tell, tied_put, noted_put}
use Rattle.world_moves.proofs.BansInFlight.{ban_here, ban_number, ban_in, ban_free}
use Rattle.corpus_shards.proofs.Cases.{then_ok, of_err}
use Rattle.world_moves.proofs.CutShort.{cut_only}
use Rattle.world_moves.proofs.DescriptionsAfter.{quiet_sent, carry_taken}
use Rattle.world_moves.proofs.QuietCounts.{still_counts}
use Rattle.world_moves.proofs.PagesAfter.{quiet_pages}
use Rattle.world_moves.proofs.ReadsAfter.{reads_after}
use Rattle.world_moves.proofs.bans.deliver_ban.Goals as goal

pub overflow_sub-node : goal.overflow_sub-node
overflow_sub-node c =
    let s = c.args.state.now in
    (ban_in s.cluster s.corpus.now s.script.now s.history _ _ s.flight c.requires.tied.ties c.args.nth c.args.parent c.args.cancel c.args.node c.requires.there).0

pub index_mut-requires : goal.index_mut-requires
index_mut-requires c =
    let s = c.args.state.now in
    let node = ban_in s.cluster s.corpus.now s.script.now s.history _ _ s.flight c.requires.tied.ties c.args.nth c.args.parent c.args.cancel c.args.node c.requires.there in
    let many = has_bans s.cluster s.history _ _ s.bans.items _ _ c.requires.tied.cancels c.args.node node.0 node.1 in
    omega (arith, many)

pub put-requires : goal.put-requires
put-requires c =
    let s = c.args.state.now in
    ban_number s.cluster s.corpus.now s.script.now s.history _ _ s.flight c.requires.tied.ties c.args.nth c.args.parent c.args.cancel c.args.node c.requires.there

pub unreachable-requires : goal.unreachable-requires
unreachable-requires c =
    let s = c.args.state.now in
    let node = ban_in s.cluster s.corpus.now s.script.now s.history _ _ s.flight c.requires.tied.ties c.args.nth c.args.parent c.args.cancel c.args.node c.requires.there in
    let free = ban_free s.cluster s.corpus.now s.script.now s.history _ _ s.flight c.requires.tied.ties c.args.nth c.args.parent c.args.cancel c.args.node c.requires.there in
    let on = bans_on s.cluster s.history _ _ s.bans.items _ _ c.requires.tied.cancels c.args.node node.0 node.1 in
    let is = c.index_mut.ensures.value ∙ get_or_from_slice_get s.bans.items _ on.0 _ on.1 in
    let tells = bans_tell s.cluster s.history _ _ s.bans.items _ _ c.requires.tied.cancels c.args.node node.0 node.1 c.index_mut.result.now (on.1 ∙ ap Some (sym is)) c.args.parent in
    let stands = (c.put.ensures.there c.in-Ok-There.field-0-0).0 (c.in-Ok-There.is ∙ ap Ok c.in-Ok-There.field-0-is) in
    let both = sym stands ∙ tells ∙ free in
    cc

pub returns-clause-delivered : goal.returns-clause-delivered
returns-clause-delivered c =
    let s = c.args.state.now in
    let here = ban_here s.cluster s.corpus.now s.script.now s.history _ _ s.flight c.requires.tied.ties c.args.nth c.args.parent c.args.cancel c.args.node c.requires.there in
    then_ok c.append.result _ _ c.append.ensures.ok (λ happened. (Ban c.args.parent c.args.cancel c.args.node, BanPut c.args.node c.args.parent c.args.cancel, here, (refl, refl, refl), happened))

pub returns-clause-tied : goal.returns-clause-tied
returns-clause-tied c =
    let s = c.args.state.now in
    let node = ban_in s.cluster s.corpus.now s.script.now s.history _ _ s.flight c.requires.tied.ties c.args.nth c.args.parent c.args.cancel c.args.node c.requires.there in
    let on = bans_on s.cluster s.history _ _ s.bans.items _ _ c.requires.tied.cancels c.args.node node.0 node.1 in
    let is = c.index_mut.ensures.value ∙ get_or_from_slice_get s.bans.items _ on.0 _ on.1 in
    let here = on.1 ∙ ap Some (sym is) in
    let put = c.put.ensures.put (c.in-Ok-Put.is ∙ ap Ok c.in-Ok-Put.field-0-is) in
    let rest = rw (c.take-ban.ensures.taken ∙ c.requires.there) at c.take-ban.ensures.rest in
    then_ok c.append.result _ _ c.append.ensures.ok (λ happened. record {
      ties = rw (happened, rest) (tied_put s.cluster s.corpus.now s.script.now s.history _ _ s.flight c.requires.tied.ties c.requires.tied.awaits c.args.nth c.args.parent c.args.cancel c.args.node c.requires.there);
      cancels = rw (happened, put) (noted_put s.cluster s.history _ _ s.bans.items _ _ c.requires.tied.cancels c.args.node node.0 node.1 c.args.parent c.index_mut.result.now here c.args.cancel c.insert.new.self c.in-Ok.ensures.updates.0);
      counts = rw happened (still_counts None (BanPut c.args.node c.args.parent c.args.cancel) s.history _ refl c.requires.tied.counts);
      tells = rw (happened, rest) (quiet_sent s.script.now s.history _ s.flight _ (BanPut c.args.node c.args.parent c.args.cancel) _ refl (carry_taken s.script.now s.history s.flight c.args.nth c.requires.tied.tells.carried) c.requires.tied.tells);
      pages = rw happened (quiet_pages s.cluster s.corpus.now s.script.now s.history s.contexts.items c.requires.tied.pages (BanPut c.args.node c.args.parent c.args.cancel) refl);
      shards = rw happened c.requires.tied.shards;
      awaits = rw happened tt;
      oldest = c.requires.tied.oldest;
      reads = rw happened (reads_after c.requires.tied.oldest s.cluster s.corpus.now s.script.now s.history c.requires.tied.reads c.requires.tied.ties.lawful (BanPut c.args.node c.args.parent c.args.cancel) tt);
    })

pub returns-clause-full : goal.returns-clause-full
returns-clause-full c = λ failed.
    let s = c.args.state.now in
    let here = ban_here s.cluster s.corpus.now s.script.now s.history _ _ s.flight c.requires.tied.ties c.args.nth c.args.parent c.args.cancel c.args.node c.requires.there in
    let e = BanPut c.args.node c.args.parent c.args.cancel in
    cut_only (λ x y. Delivers s.cluster x c.args.nth y) s.history c.append.new.history e (Ban c.args.parent c.args.cancel c.args.node, e, here, (refl, refl, refl), refl)
    (c.append.ensures.full.0 failed) (of_err c.append.result _ _ failed c.append.ensures.err)
