use Rattle.std.proofs.Common.{◌≡◌, ◌∙◌, ◌+◌, ◌∷◌, ◌++◌, [], length, Some, None, refl, ap, sym}
use Rattle.std.specs.Option.{option_copied_mut}
use Rattle.task_events.specs.declared.event.Event.TheVariants.{Ask}
use Rattle.task_events.specs.Asks.{last_ask}
use Rattle.task_events.specs.TaskRows.{headers_of}
use Rattle.command_roots.specs.Roots.{scripted}
use Rattle.world_moves.specs.declared.flight.Sent.TheVariants.{Request}
use Rattle.node_parts.specs.Running.{PlansToAsk}
use Rattle.world_moves.specs.Cancels.{waiting_for}
use Rattle.world_moves.specs.Ties.{task_at}
use Rattle.world_moves.proofs.KeptTasks.{at_changed, off_changed}
use Rattle.world_moves.proofs.AsksAfter.{few_asks, track_open, can_now, number_is, track_of, asked_own, after_ask}
use Rattle.world_moves.proofs.CancelsUntouched.{noted}
use Rattle.world_moves.proofs.DescriptionsAfter.{quiet_sent, carry_both}
use Rattle.world_moves.proofs.QuietCounts.{still_counts}
use Rattle.world_moves.proofs.StepsAfter.{kept_running}
use Rattle.corpus_shards.proofs.Cases.{some_of, then_ok}
use Rattle.world_moves.proofs.PagesAfter.{asked_pages}
use Rattle.world_moves.proofs.ReadsAfter.{reads_after}
use Rattle.world_moves.proofs.asks.ask.Goals as goal

pub ask-requires-clause-few : goal.ask-requires-clause-few
ask-requires-clause-few c =
    let s = c.args.state.now in
    let was = sym c.get_mut.ensures.value ∙ ap option_copied_mut c.in-Some.is ∙ ap Some (sym c.get_mut-running.ensures.value) in
    let planned : PlansToAsk (Some c.get_mut-running.result.now) s.clock c.args.request = rw was at c.requires.planned in
    few_asks s.cluster s.corpus.now s.script.now s.history _ _ _ c.requires.tied.ties c.args.task c.args.request c.requires.live c.requires.passed s.clock c.get_mut-running.result.now was planned

pub ask-requires-clause-open : goal.ask-requires-clause-open
ask-requires-clause-open c =
    let s = c.args.state.now in
    let was = sym c.get_mut.ensures.value ∙ ap option_copied_mut c.in-Some.is ∙ ap Some (sym c.get_mut-running.ensures.value) in
    let planned : PlansToAsk (Some c.get_mut-running.result.now) s.clock c.args.request = rw was at c.requires.planned in
    track_open s.cluster s.corpus.now s.script.now s.history _ _ _ c.requires.tied.ties c.args.task c.args.request c.requires.live c.requires.passed s.clock c.get_mut-running.result.now was planned c.requires.unmarked

pub ask-requires-clause-can : goal.ask-requires-clause-can
ask-requires-clause-can c =
    let s = c.args.state.now in
    let was = sym c.get_mut.ensures.value ∙ ap option_copied_mut c.in-Some.is ∙ ap Some (sym c.get_mut-running.ensures.value) in
    let planned : PlansToAsk (Some c.get_mut-running.result.now) s.clock c.args.request = rw was at c.requires.planned in
    can_now s.cluster s.corpus.now s.script.now s.history _ _ _ c.requires.tied.ties c.args.task c.args.request c.requires.live c.requires.passed s.clock c.get_mut-running.result.now was planned

pub returns-clause-happened : goal.returns-clause-happened
returns-clause-happened c =
    let s = c.args.state.now in
    let r = c.get_mut-running.result.now in
    let was = sym c.get_mut.ensures.value ∙ ap option_copied_mut c.in-Some.is ∙ ap Some (sym c.get_mut-running.ensures.value) in
    let planned : PlansToAsk (Some r) s.clock c.args.request = rw was at c.requires.planned in
    let next = number_is s.cluster s.corpus.now s.script.now s.history _ _ _ c.requires.tied.ties c.args.task c.args.request c.requires.live c.requires.passed s.clock r was planned in
    let number : c.ask-number.result ≡ last_ask c.args.task s.history + 1 = c.ask-number.ensures ∙ ap (λ t. t.ask) c.in-Ok-ask.ensures.token ∙ next in
    then_ok c.append.result _ _ c.append.ensures.ok (λ happened. happened ∙ (λ i. Ask c.args.task (number i) (c.node_for-to.ensures i) c.args.request ∷ s.history))

pub returns-clause-tied : goal.returns-clause-tied
returns-clause-tied c =
    let s = c.args.state.now in
    let r = c.get_mut-running.result.now in
    let was = sym c.get_mut.ensures.value ∙ ap option_copied_mut c.in-Some.is ∙ ap Some (sym c.get_mut-running.ensures.value) in
    let planned : PlansToAsk (Some r) s.clock c.args.request = rw was at c.requires.planned in
    let next = number_is s.cluster s.corpus.now s.script.now s.history _ _ _ c.requires.tied.ties c.args.task c.args.request c.requires.live c.requires.passed s.clock r was planned in
    let number : c.ask-number.result ≡ last_ask c.args.task s.history + 1 = c.ask-number.ensures ∙ ap (λ t. t.ask) c.in-Ok-ask.ensures.token ∙ next in
    let task = track_of s.cluster s.corpus.now s.script.now s.history _ _ _ c.requires.tied.ties c.args.task c.args.request c.requires.live c.requires.passed s.clock r was planned in
    let token : c.in-Ok-ask.token ≡ record { parent = c.args.task; ask = last_ask c.args.task s.history + 1 } = c.in-Ok-ask.ensures.token ∙ (λ i. record { parent = task i; ask = next i }) in
    let flight : c.send.new.flight ≡ s.flight ++ Request c.in-Ok-ask.token c.node_for-to.result (length s.history) c.in-Ok.headers ∷ [] =
    c.in-Ok-send.ensures.ok ∙ ap (λ at. s.flight ++ Request c.in-Ok-ask.token c.node_for-to.result at c.in-Ok.headers ∷ []) c.len-at.ensures in
    let runs = kept_running s.cluster s.corpus.now s.script.now s.history _ _ _ c.requires.tied.ties c.args.task c.requires.live r was in
    let carried : c.in-Ok.headers ≡ headers_of (scripted s.script.now) c.in-Ok-ask.token.parent s.history = c.in-Ok.ensures ∙ runs.headers ∙ ap (λ p. headers_of (scripted s.script.now) p s.history) (sym (ap (λ t. t.parent) token)) in
    let asks = Ask c.args.task (last_ask c.args.task s.history + 1) c.node_for-to.result c.args.request in
    let w = c.ask.new.self in
    let changed = ((c.get_mut.follows.holds w).3 (some_of _ _ was)).0 in
    let here = at_changed c.args.task (Some w) (task_at s.tasks) _ changed ∙ ap Some c.in-Ok-ask.ensures.asked in
    let others = off_changed c.args.task (Some w) (task_at s.tasks) _ changed in
    let ties = after_ask s.cluster s.corpus.now s.script.now s.history _ _ _ c.requires.tied.ties c.args.task c.args.request c.requires.live c.requires.passed s.clock r was planned _ c.node_for-to.result c.in-Ok-ask.token c.in-Ok.headers c.requires.tied.awaits c.requires.unmarked c.node_for-to.ensures token here others in
    let own = asked_own s.cluster s.corpus.now s.script.now s.history _ _ _ c.requires.tied.ties c.args.task c.args.request c.requires.live c.requires.passed s.clock r was planned in
    then_ok c.append.result _ _ c.append.ensures.ok (λ happened. rw (happened, number, flight) (record {
      ties = ties;
      cancels = noted s.cluster (λ t. waiting_for t s.history) s.history _ _ _ _ _ c.requires.tied.cancels (Ask c.args.task (last_ask c.args.task s.history + 1) c.node_for-to.result c.args.request) refl refl;
      counts = still_counts None asks s.history _ refl c.requires.tied.counts;
      tells = quiet_sent s.script.now s.history s.tables.items s.flight _ asks _ refl (carry_both s.script.now s.history s.flight (Request c.in-Ok-ask.token c.node_for-to.result (length s.history) c.in-Ok.headers ∷ []) c.requires.tied.tells.carried (carried, tt)) c.requires.tied.tells;
      pages = asked_pages s.cluster s.corpus.now s.script.now s.history s.contexts.items c.requires.tied.pages c.requires.tied.ties.lawful c.args.task (last_ask c.args.task s.history + 1) c.node_for-to.result c.args.request ties.lawful.0 own;
      shards = c.requires.tied.shards;
      awaits = tt;
      oldest = c.requires.tied.oldest;
      reads = reads_after c.requires.tied.oldest s.cluster s.corpus.now s.script.now s.history c.requires.tied.reads c.requires.tied.ties.lawful asks refl;
    }))

pub returns-clause-room : goal.returns-clause-room
returns-clause-room c = c.append.ensures.room
