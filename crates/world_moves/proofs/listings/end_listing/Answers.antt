use Rattle.std.proofs.Common.{◌≡◌, ◌∙◌, ◌-◌, ◌++◌, None, refl, sym, ap, arith}
use Rattle.std.specs.Prelude.{slice_get, slice_set}
use Rattle.std.specs.FinMap.{get}
use Rattle.std.proofs.lemmas.Option.{slice_get_within}
use Rattle.task_ids.specs.declared.task_id.TaskId.{TaskId}
use Rattle.cancel_core.specs.Listings.{with_listing, listing_act}
use Rattle.task_events.specs.declared.event.Event.TheVariants.{Listed}
use Rattle.world_moves.specs.Acts.{messages_of}
use Rattle.world_moves.specs.Cancelling.{IsEntryOf}
use Rattle.world_moves.specs.Cancels.{waiting_for}
use Rattle.world_moves.specs.Listings.{children_among}
use Rattle.world_moves.proofs.ListedAfter.{after_listed, cancels_after_listed, none_waits, finds_known, finds_ack}
use Rattle.world_moves.proofs.LiveRows.{read_at}
use Rattle.world_moves.proofs.NextChild.{open_in, table_read}
use Rattle.world_moves.proofs.NodeTables.{core_at, entry_known, same_cancels}
use Rattle.world_moves.proofs.SameTies.{same_ties}
use Rattle.world_moves.proofs.Tables.{node_has_table}
use Rattle.world_moves.proofs.WaitsAfter.{core_knows}
use Rattle.corpus_shards.proofs.Cases.{then_ok}
use Rattle.world_moves.proofs.DescriptionsAfter.{quiet_sent, carry_both, act_carries}
use Rattle.world_moves.proofs.QuietCounts.{still_counts}
use Rattle.world_moves.proofs.PagesAfter.{quiet_pages}
use Rattle.world_moves.proofs.ReadsAfter.{reads_after}
use Rattle.world_moves.proofs.listings.end_listing.Goals as goal

pub overflow_sub-place : goal.overflow_sub-place
overflow_sub-place c =
    let s = c.args.state.now in
    (open_in s.cluster s.history c.args.listing.node c.args.listing.parent c.requires.tied.ties.lawful c.requires.opened).0

pub index-requires : goal.index-requires
index-requires c =
    let s = c.args.state.now in
    let node = open_in s.cluster s.history c.args.listing.node c.args.listing.parent c.requires.tied.ties.lawful c.requires.opened in
    let low = node.0 in
    let many = node_has_table s.cluster s.history s.tables.items c.requires.tied.ties.listed c.args.listing.node node.0 node.1 in
    omega (arith, low, many, s.tables.ok.0)

pub index_mut-requires : goal.index_mut-requires
index_mut-requires c =
    let s = c.args.state.now in
    let node = open_in s.cluster s.history c.args.listing.node c.args.listing.parent c.requires.tied.ties.lawful c.requires.opened in
    let core = core_at s.cluster _ s.history _ _ _ _ _ c.requires.tied.cancels c.args.listing.node node.0 node.1 in
    let within = slice_get_within s.cores.items (c.args.listing.node - 1) core.0 core.1 in
    omega (arith, within, s.cores.ok.0)

pub ban_listed-requires : goal.ban_listed-requires
ban_listed-requires c =
    let s = c.args.state.now in
    let n = c.args.listing.node in
    let node = open_in s.cluster s.history n c.args.listing.parent c.requires.tied.ties.lawful c.requires.opened in
    let core = core_at s.cluster _ s.history _ _ _ _ _ c.requires.tied.cancels n node.0 node.1 in
    let within = slice_get_within s.cores.items (n - 1) core.0 core.1 in
    let here = read_at s.cores.items (n - 1) c.index_mut.result.now within c.index_mut.ensures.value in
    record { once = none_waits s.cluster s.history n c.args.listing.parent c.requires.tied.ties.lawful c.requires.opened c.index_mut.result.now (core_knows n node.0 s.history s.cores.items c.index_mut.result.now here c.requires.tied.cancels.waits_are) }

pub returns-clause-tied : goal.returns-clause-tied
returns-clause-tied c =
    let s = c.args.state.now in
    let n = c.args.listing.node in
    let p = c.args.listing.parent in
    let node = open_in s.cluster s.history n p c.requires.tied.ties.lawful c.requires.opened in
    let core = core_at s.cluster _ s.history _ _ _ _ _ c.requires.tied.cancels n node.0 node.1 in
    let within = slice_get_within s.cores.items (n - 1) core.0 core.1 in
    let known = c.index_mut.result.now in
    let here = read_at s.cores.items (n - 1) known within c.index_mut.ensures.value in
    let knows = core_knows n node.0 s.history s.cores.items known here c.requires.tied.cancels.waits_are in
    let table = c.index.result.now in
    let fits = table_read s.cluster s.history s.tables.items n table c.requires.tied.ties.listed c.requires.tied.cancels.rows_are node.0 node.1 c.index.ensures in
    let entries : (t : TaskId) → t.node ≡ n → IsEntryOf (waiting_for t s.history) t s.history (get known.entries t) = λ t on. entry_known s.cluster _ s.history _ _ _ _ _ c.requires.tied.cancels t known (ap (λ m. slice_get s.cores.items (m - 1)) on ∙ here) in
    let children = c.as_slice.ensures.value ∙ c.in-Ok.ensures in
    let act = c.in-Ok-ban_listed.ensures.act ∙ ap (listing_act known p) children in
    let flight = c.in-Ok-send_if_any.ensures.sent ∙ ap (λ a. s.flight ++ messages_of n a) act in
    let cores = ap (slice_set s.cores.items (n - 1)) (c.in-Ok-ban_listed.ensures.listed ∙ ap (with_listing known p) children) in
    then_ok c.append.result _ _ c.append.ensures.ok (λ happened. record {
      ties = same_ties s.cluster s.corpus.now s.script.now _ _ _ _ _ _ _ happened refl flight (after_listed s.cluster s.history n p s.corpus.now s.script.now _ _ s.flight _ c.requires.tied.ties c.requires.tied.awaits c.requires.opened c.requires.marked
          (finds_ack s.cluster s.history n p c.requires.tied.ties.lawful c.requires.opened c.requires.marked table fits.0 fits.1 known entries knows));
      cancels = same_cancels s.cluster _ _ _ _ _ _ _ _ _ happened refl cores (cancels_after_listed s.cluster s.history n p _ _ s.bans.items s.cores.items s.listings known _ (children_among p table.live) c.requires.tied.cancels here node.0
          (finds_known s.cluster s.history n p c.requires.tied.ties.lawful c.requires.opened c.requires.marked table fits.0 fits.1 known entries knows) c.remove-was_open.ensures.updates.0);
      counts = rw happened (still_counts None (Listed n p) s.history _ refl c.requires.tied.counts);
      tells = rw (happened, flight) (quiet_sent s.script.now s.history _ s.flight _ (Listed n p) _ refl (carry_both s.script.now s.history s.flight _ c.requires.tied.tells.carried (act_carries s.script.now s.history n _)) c.requires.tied.tells);
      pages = rw happened (quiet_pages s.cluster s.corpus.now s.script.now s.history s.contexts.items c.requires.tied.pages (Listed n p) refl);
      shards = rw happened c.requires.tied.shards;
      awaits = rw happened tt;
      oldest = c.requires.tied.oldest;
      reads = rw happened (reads_after c.requires.tied.oldest s.cluster s.corpus.now s.script.now s.history c.requires.tied.reads c.requires.tied.ties.lawful (Listed n p) tt);
    })
