use Rattle.std.proofs.Common.{◌∙◌, None, refl, ap, sym}
use Rattle.task_events.specs.declared.event.Event.TheVariants.{Begin}
use Rattle.task_events.specs.Contexts.{after_begin}
use Rattle.world_moves.specs.Cancels.{waiting_for}
use Rattle.world_moves.specs.Paging.{context_in}
use Rattle.world_steps.proofs.RootsAfter.{after_begin as begun_ties}
use Rattle.world_moves.proofs.CancelsUntouched.{noted}
use Rattle.world_moves.proofs.DescriptionsAfter.{begun_tells}
use Rattle.world_moves.proofs.PagesAfter.{begun_pages}
use Rattle.world_moves.proofs.QuietCounts.{still_counts}
use Rattle.world_moves.proofs.ReadsAfter.{reads_after}
use Rattle.world_steps.proofs.roots.note_begin.Goals as goal

pub returns-clause-tied : goal.returns-clause-tied
returns-clause-tied c =
    let s = c.args.state.now in
    rw c.in_ok-append.ensures.ok (record {
      ties = begun_ties s.cluster s.corpus.now s.script.now s.history _ _ _ c.requires.tied.ties c.requires.tied.awaits c.args.command c.requires.next;
      cancels = noted s.cluster (λ t. waiting_for t s.history) s.history _ _ _ _ _ c.requires.tied.cancels (Begin c.args.command) refl refl;
      counts = still_counts None (Begin c.args.command) s.history _ refl c.requires.tied.counts;
      tells = begun_tells s.script.now s.history s.tables.items s.flight s.clock c.args.command c.requires.next c.requires.few c.requires.tied.tells;
      pages = begun_pages s.cluster s.corpus.now s.script.now s.history s.contexts.items c.requires.tied.pages c.requires.tied.ties.lawful c.args.command (sym c.requires.next) c.clear.new.contexts.items c.clear.ensures.as_many
          (λ q. c.clear.ensures.cleared q ∙ ap (λ o. after_begin o q (context_in s.contexts.items q)) c.cleared-goes.ensures);
      shards = c.requires.tied.shards;
      awaits = tt;
      oldest = c.requires.tied.oldest;
      reads = reads_after c.requires.tied.oldest s.cluster s.corpus.now s.script.now s.history c.requires.tied.reads c.requires.tied.ties.lawful (Begin c.args.command) tt;
    })
