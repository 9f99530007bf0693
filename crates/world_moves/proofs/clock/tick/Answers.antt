use Rattle.std.proofs.Common.{◌≡◌, ◌∙◌, ◌+◌, ◌*◌, ◌^◌, ◌<◌, ◌≤◌, length, None, refl, ap, arith}
use Rattle.task_events.specs.declared.event.Event.TheVariants.{Tick}
use Rattle.task_events.specs.Cancels.{last_command}
use Rattle.task_events.specs.Clock.{clock}
use Rattle.task_events.specs.Contexts.{unexpired}
use Rattle.script_lang.specs.KeepAlives.{day_ms}
use Rattle.world_moves.specs.Cancels.{waiting_for}
use Rattle.world_moves.specs.Describing.{longest_tick}
use Rattle.world_moves.specs.Paging.{context_in}
use Rattle.world_moves.specs.Ties.{task_at}
use Rattle.world_moves.proofs.CancelsUntouched.{noted}
use Rattle.world_moves.proofs.ClockTies.{ticked}
use Rattle.world_moves.proofs.DescriptionsAfter.{ticked_tells}
use Rattle.world_moves.proofs.PagesAfter.{ticked_pages}
use Rattle.world_moves.proofs.QuietCounts.{still_counts}
use Rattle.world_moves.proofs.ReadsAfter.{reads_after}
use Rattle.world_moves.proofs.clock.tick.Goals as goal

-- the clock is far from its end
fits : (c : goal.After-expire) → c.args.state.now.clock + c.args.ms < 2 ^ 60
unfolding longest_tick
fits c =
    let s = c.args.state.now in
    let high : s.clock ≤ length s.history * 68719476736 = c.requires.tied.tells.clock_high in
    let step : c.args.ms ≤ 68719476736 = c.requires.high in
    let room : length c.append.new.history ≤ 4000000 = c.in_ok-append.ensures.room in
    let grown = ap length c.in_ok-append.ensures.ok in
    omega (arith, high, step, room, grown)

pub returns-clause-tied : goal.returns-clause-tied
returns-clause-tied c =
    let s = c.args.state.now in
    let moment : s.clock ≡ clock s.history = c.requires.tied.tells.clock_is in
    let low : last_command s.history ≤ length s.script.now.commands → s.clock + c.args.ms ≤ last_command s.history * day_ms = (λ few. let moved = c.requires.low few in omega (arith, moment, moved)) in
    rw c.in_ok-append.ensures.ok (record {
      ties = ticked s.cluster s.corpus.now s.script.now s.history (task_at s.tasks) s.tables.items s.flight c.requires.tied.ties c.requires.tied.awaits c.args.ms;
      cancels = noted s.cluster (λ t. waiting_for t s.history) s.history _ _ _ _ _ c.requires.tied.cancels (Tick c.args.ms) refl refl;
      counts = still_counts None (Tick c.args.ms) s.history _ refl c.requires.tied.counts;
      tells = ticked_tells s.script.now s.history s.tables.items s.flight s.clock c.args.ms low c.requires.high (fits c) c.requires.tied.tells;
      pages = ticked_pages s.cluster s.corpus.now s.script.now s.history s.contexts.items c.requires.tied.pages c.requires.tied.ties.lawful c.args.ms c.expire.new.contexts.items c.expire.ensures.as_many
          (λ q. c.expire.ensures.left q ∙ ap (λ m. unexpired (m + c.args.ms) (context_in s.contexts.items q)) moment);
      shards = c.requires.tied.shards;
      awaits = tt;
      oldest = c.requires.tied.oldest;
      reads = reads_after c.requires.tied.oldest s.cluster s.corpus.now s.script.now s.history c.requires.tied.reads c.requires.tied.ties.lawful (Tick c.args.ms) tt;
    })

-- the clock is far from its end
pub overflow_add-state : goal.overflow_add-state
unfolding longest_tick
overflow_add-state c =
    let s = c.args.state.now in
    let high : s.clock ≤ length s.history * 68719476736 = c.requires.tied.tells.clock_high in
    let step : c.args.ms ≤ 68719476736 = c.requires.high in
    let room : length c.append.new.history ≤ 4000000 = c.in_ok-append.ensures.room in
    let grown = ap length c.in_ok-append.ensures.ok in
    omega (arith, high, step, room, grown)
