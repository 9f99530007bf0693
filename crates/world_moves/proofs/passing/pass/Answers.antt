use Rattle.std.proofs.Common.{◌∙◌, None, refl, ap, sym}
use Rattle.std.specs.Prelude.{option_map, option_and_then}
use Rattle.task_events.specs.declared.event.Event.TheVariants.{Pass}
use Rattle.task_events.specs.declared.request.ScrollAsk.{ScrollAsk}
use Rattle.task_events.specs.declared.request.Request.TheVariants.{Scroll}
use Rattle.task_events.specs.Contexts.{after_taking}
use Rattle.task_work.specs.Works.{new_work}
use Rattle.world_moves.specs.Cancels.{waiting_for}
use Rattle.world_moves.specs.Paging.{context_in}
use Rattle.world_moves.specs.Ties.{task_at}
use Rattle.world_moves.proofs.StepsAfter.{kept_some, after_pass}
use Rattle.world_moves.proofs.CancelsUntouched.{noted}
use Rattle.world_moves.proofs.DescriptionsAfter.{quiet}
use Rattle.world_moves.proofs.PassesNow.{passed_here, others_here, page_there, page_usable, works_on, pages_after}
use Rattle.world_moves.proofs.QuietCounts.{still_counts}
use Rattle.world_moves.proofs.ReadsAfter.{reads_after}
use Rattle.world_moves.proofs.passing.pass.Goals as goal

pub page_work-requires : goal.page_work-requires
page_work-requires c =
    let s = c.args.state.now in
    let kept = kept_some s.cluster s.corpus.now s.script.now s.history _ _ _ c.requires.tied.ties c.args.task c.requires.live in
    let page = c.page_of-page.ensures ∙ ap (option_and_then (λ running. running.page)) kept.1 in
    record { there = λ ask is. page_there s.cluster s.corpus.now s.script.now s.history _ _ _ c.requires.tied.ties s.contexts.items c.requires.tied.pages c.args.task c.requires.live c.requires.first kept.0 kept.1 ask (sym page ∙ is) }

pub take_page-requires : goal.take_page-requires
take_page-requires c =
    let s = c.args.state.now in
    let kept = kept_some s.cluster s.corpus.now s.script.now s.history _ _ _ c.requires.tied.ties c.args.task c.requires.live in
    let page = c.page_of-page.ensures ∙ ap (option_and_then (λ running. running.page)) kept.1 in
    record { usable = λ ask is. page_usable s.cluster s.corpus.now s.script.now s.history _ _ _ c.requires.tied.ties s.contexts.items c.requires.tied.pages c.args.task c.requires.live c.requires.first kept.0 kept.1 ask (sym page ∙ is) s.clock }

pub returns-clause-tied : goal.returns-clause-tied
returns-clause-tied c =
    let s = c.args.state.now in
    let t = c.args.task in
    let kept = kept_some s.cluster s.corpus.now s.script.now s.history _ _ _ c.requires.tied.ties t c.requires.live in
    let page = c.page_of-page.ensures ∙ ap (option_and_then (λ running. running.page)) kept.1 in
    let made = c.in_ok-work.ensures.work ∙ ap (option_and_then (λ (ask : ScrollAsk). new_work t (Scroll ask) s.cluster.shards (context_in s.contexts.items ask.id))) page in
    let works = works_on s.cluster s.corpus.now s.script.now s.history _ _ _ c.requires.tied.ties s.contexts.items c.requires.tied.pages t c.requires.live c.requires.first kept.0 kept.1 c.in_ok-work.work made in
    let ties = after_pass s.cluster s.corpus.now s.script.now s.history _ _ _ c.requires.tied.ties t kept.0 c.in_ok-work.work _ c.requires.tied.awaits c.requires.live c.requires.first c.requires.no_ban kept.1 works
    (passed_here t c.in_ok-work.work (task_at s.tasks) _ c.let_pass.ensures kept.0 kept.1) (others_here t c.in_ok-work.work (task_at s.tasks) _ c.let_pass.ensures) in
    rw c.in-Ok.ensures.ok (record {
      ties = ties;
      cancels = noted s.cluster (λ t. waiting_for t s.history) s.history _ _ _ _ _ c.requires.tied.cancels (Pass t) refl refl;
      counts = still_counts None (Pass t) s.history _ refl c.requires.tied.counts;
      tells = quiet s.script.now s.history _ _ _ (Pass t) refl c.requires.tied.tells;
      pages = pages_after s.cluster s.corpus.now s.script.now s.history _ _ _ c.requires.tied.ties s.contexts.items c.requires.tied.pages t c.requires.live c.requires.first kept.0 kept.1 s.clock c.requires.tied.tells.clock_is ties.lawful.0 c.take_page.new.contexts.items c.take_page.ensures.as_many
          (λ q. c.take_page.ensures.taken q ∙ ap (λ o. after_taking s.clock t (option_map Scroll o) q (context_in s.contexts.items q)) page);
      shards = c.requires.tied.shards;
      awaits = tt;
      oldest = c.requires.tied.oldest;
      reads = reads_after c.requires.tied.oldest s.cluster s.corpus.now s.script.now s.history c.requires.tied.reads c.requires.tied.ties.lawful (Pass t) tt;
    })
