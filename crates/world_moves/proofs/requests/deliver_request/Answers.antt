use Rattle.std.proofs.Common.{◌≡◌, ◌∙◌, ◌∷◌, [], ◌++◌, List, Some, None, Err, length, refl, ap, sym, subst, cond, true, arith}
use Rattle.std.specs.Prelude.{remove, is_some}
use Rattle.std.specs.Option.{option_copied}
use Rattle.std.specs.BTreeMap.{is_at}
use Rattle.task_ids.specs.declared.task_id.TaskId.{TaskId}
use Rattle.task_ids.specs.TaskIdOrder.{task_id_cmp}
use Rattle.task_table.specs.Answer.{refused_token}
use Rattle.task_table.specs.declared.ended.PutError.TheVariants.{Full, NumbersSpent}
use Rattle.child_track.specs.Token.{Token}
use Rattle.task_events.specs.declared.event.Event.TheVariants.{Put, Reject}
use Rattle.task_events.specs.declared.request.Request.{Request}
use Rattle.world_moves.specs.declared.flight.Sent.{Sent}
use Rattle.node_parts.specs.declared.running.Running.{Running}
use Rattle.world_moves.specs.Moves.{Delivers}
use Rattle.task_events.specs.Contexts.{asked_page}
use Rattle.task_events.specs.Lawful.{AwaitsNoMark}
use Rattle.world_moves.specs.Paging.{context_in}
use Rattle.world_moves.specs.Cancels.{waiting_for}
use Rattle.world_moves.specs.Describing.{Carries}
use Rattle.node_parts.specs.Starting.{task_for}
use Rattle.task_events.specs.TaskRows.{headers_of}
use Rattle.command_roots.specs.Roots.{scripted}
use Rattle.world_moves.specs.Ties.{task_at}
use Rattle.world_moves.proofs.RequestsInFlight.{arrives}
use Rattle.world_moves.proofs.KeptTasks.{at_changed, off_changed}
use Rattle.world_moves.proofs.SameTies.{same_ties, same_cancels}
use Rattle.corpus_shards.proofs.Cases.{some_of, then_ok, both_ok, of_err}
use Rattle.world_moves.proofs.RequestsAfter.{rejected, delivers_put, after_put, delivers_reject, after_reject}
use Rattle.world_moves.proofs.FirstRuns.{first}
use Rattle.world_moves.proofs.CancelsAfterStart.{noted_put}
use Rattle.world_moves.proofs.Tables.{IsPutOn, node_has_table, no_slot, no_number}
use Rattle.world_moves.proofs.CancelsUntouched.{noted}
use Rattle.task_ids.proofs.Each.{all_here}
use Rattle.world_moves.proofs.DescriptionsAfter.{quiet_sent, carry_both, carry_taken}
use Rattle.world_moves.proofs.DescriptionsStart.{new_number, rows_put, carried_put}
use Rattle.world_moves.proofs.QuietCounts.{still_counts}
use Rattle.world_moves.proofs.CutShort.{cut_only}
use Rattle.task_work.specs.Works.{is_page, IsNewWork}
use Rattle.world_moves.proofs.AskedOwn.{sent_there}
use Rattle.world_moves.proofs.Lent.{copied_alike}
use Rattle.world_moves.proofs.PagesAfter.{quiet_pages, put_pages}
use Rattle.world_moves.specs.Describing.{longest_tick}
use Rattle.world_moves.proofs.DescriptionsAfter.{longer}
use Rattle.world_moves.proofs.ReadsAfter.{reads_after}
use Rattle.world_moves.proofs.requests.deliver_request.Goals as goal

pub child_of-requires : goal.child_of-requires
child_of-requires c =
    let s = c.args.state.now in
    let a = arrives s.cluster s.corpus.now s.script.now s.history _ _ s.flight c.requires.tied.ties c.args.nth _ _ _ _ c.take_request-token.ensures.taken in
    some_of _ _ a.stands

pub request_at-request-requires : goal.request_at-request-requires
request_at-request-requires c =
    let s = c.args.state.now in
    let a = arrives s.cluster s.corpus.now s.script.now s.history _ _ s.flight c.requires.tied.ties c.args.nth _ _ _ _ c.take_request-token.ensures.taken in
    some_of _ _ a.stands

pub put_on-requires-clause-low : goal.put_on-requires-clause-low
put_on-requires-clause-low c =
    let s = c.args.state.now in
    (arrives s.cluster s.corpus.now s.script.now s.history _ _ s.flight c.requires.tied.ties c.args.nth _ _ _ _ c.take_request-token.ensures.taken).low

pub put_on-requires-clause-high : goal.put_on-requires-clause-high
put_on-requires-clause-high c =
    let s = c.args.state.now in
    let a = arrives s.cluster s.corpus.now s.script.now s.history _ _ s.flight c.requires.tied.ties c.args.nth _ _ _ _ c.take_request-token.ensures.taken in
    node_has_table s.cluster s.history s.tables.items c.requires.tied.ties.listed _ a.low a.high

pub put_on-requires-clause-token : goal.put_on-requires-clause-token
put_on-requires-clause-token c =
    let s = c.args.state.now in
    let a = arrives s.cluster s.corpus.now s.script.now s.history _ _ s.flight c.requires.tied.ties c.args.nth _ _ _ _ c.take_request-token.ensures.taken in
    sym (ap (λ x. x.parent) (c.in-Ok.ensures a.asked a.stands) ∙ ap Some c.parent-parent.ensures)

pub with_work-requires : goal.with_work-requires
with_work-requires c =
    let s = c.args.state.now in
    let token = c.take_request-token.result.0 in
    let a = arrives s.cluster s.corpus.now s.script.now s.history _ _ s.flight c.requires.tied.ties c.args.nth _ _ _ _ c.take_request-token.ensures.taken in
    let asked : c.request_at-request.result.now ≡ a.asked = cc (c.request_at-request.ensures, a.stands) in
    let shows = c.page_asked-page.ensures ∙ (λ i. asked_page (λ id. context_in (c.as_slice.ensures.value i) id) (Some (asked i))) in
    let there = sent_there s.cluster s.corpus.now s.script.now s.history c.requires.tied.ties.lawful s.contexts.items c.requires.tied.pages token.parent token.ask a.asked a.requested a.request in
    record { given = sym (copied_alike c.page_asked-page.result) ∙ ap is_some shows ∙ there ∙ sym (ap is_page asked) }

pub returns-in_ok-running-in-Ok-put_on-clause-delivered : goal.returns-in_ok-running-in-Ok-put_on-clause-delivered
returns-in_ok-running-in-Ok-put_on-clause-delivered c =
    let s = c.args.state.now in
    let token = c.take_request-token.result.0 in
    let a = arrives s.cluster s.corpus.now s.script.now s.history _ _ s.flight c.requires.tied.ties c.args.nth _ _ _ _ c.take_request-token.ensures.taken in
    let t = c.in-Ok-put_on.ticket.id in
    let put : IsPutOn s.tables.items c.take_request-token.result.1 t c.in-Ok.child c.put_on.new.tables.items = record { id = c.in-Ok-put_on.ensures.id; row = c.in-Ok-put_on.ensures.row; free = c.in-Ok-put_on.ensures.free } in
    then_ok c.keep_started.result _ _ c.keep_started.ensures.happened (λ kept. (let happened : c.keep_started.new.history ≡ Put t token.parent token.ask ∷ s.history = cc (kept, c.id-task.ensures, c.parent-parent.ensures, c.ask-ask.ensures) in
    subst (λ h. Delivers s.cluster s.history c.args.nth h) (sym happened)
    (delivers_put s.cluster s.corpus.now s.script.now s.history (task_at s.tasks) s.tables.items s.flight c.requires.tied.ties c.requires.tied.awaits c.args.nth token c.take_request-token.result.1 _ a t _ _ put)))

pub returns-in_ok-running-in-Ok-put_on-clause-tied : goal.returns-in_ok-running-in-Ok-put_on-clause-tied
returns-in_ok-running-in-Ok-put_on-clause-tied c =
    let s = c.args.state.now in
    let token = c.take_request-token.result.0 in
    let a = arrives s.cluster s.corpus.now s.script.now s.history _ _ s.flight c.requires.tied.ties c.args.nth _ _ _ _ c.take_request-token.ensures.taken in
    let t = c.in-Ok-put_on.ticket.id in
    let running = c.in_ok-running-in-Ok-put_on.running in
    let put : IsPutOn s.tables.items c.take_request-token.result.1 t c.in-Ok.child c.put_on.new.tables.items = record { id = c.in-Ok-put_on.ensures.id; row = c.in-Ok-put_on.ensures.row; free = c.in-Ok-put_on.ensures.free } in
    let asked : c.request_at-request.result.now ≡ a.asked = cc (c.request_at-request.ensures, a.stands) in
    let headers = c.take_request-token.result.3 in
    let is : running ≡ first t (Some token) true a.asked running.work headers = c.in_ok-running-in-Ok-put_on.ensures.running
    ∙ (λ i. first t (c.in-Ok-put_on.ensures.token i) true (asked i) running.work headers) in
    let page = option_copied c.page_asked-page.result in
    let work = subst (λ (r : Request). IsNewWork t r s.cluster.shards page running.work) asked c.in_ok-running-in-Ok-put_on.ensures.work in
    let carried : headers ≡ headers_of (scripted s.script.now) token.parent s.history = all_here (Carries s.script.now s.history) s.flight c.args.nth _ c.requires.tied.tells.carried c.take_request-token.ensures.taken in
    let child = c.in-Ok.ensures a.asked a.stands ∙ ap (λ q. task_for a.asked (Some q) s.clock headers) c.parent-parent.ensures in
    both_ok c.keep_started.result _ _ _ c.keep_started.ensures.happened c.keep_started.ensures.kept (λ event kept. (let happened : c.keep_started.new.history ≡ Put t token.parent token.ask ∷ s.history = cc (event, c.id-task.ensures, c.parent-parent.ensures, c.ask-ask.ensures) in
    let changed = subst (λ (k : TaskId). (q : TaskId) → task_at c.keep_started.new.tasks q ≡ cond (is_at (task_id_cmp k) q) (Some running) (task_at s.tasks q)) (ap (λ (r : Running). r.ticket.id) is) kept in
    let ties = after_put s.cluster s.corpus.now s.script.now s.history (task_at s.tasks) s.tables.items s.flight c.requires.tied.ties c.requires.tied.awaits c.args.nth token c.take_request-token.result.1 _ a t _ _ put running (task_at c.keep_started.new.tasks) headers is page work carried
    (at_changed t (Some running) (task_at s.tasks) _ changed) (off_changed t (Some running) (task_at s.tasks) _ changed) in
    record {
      ties = same_ties s.cluster s.corpus.now s.script.now (task_at c.keep_started.new.tasks) _ _ _ _ _ _ happened refl c.take_request-token.ensures.rest
          ties;
      cancels = same_cancels s.cluster _ _ _ _ _ _ _ _ happened refl
          (noted_put s.cluster s.history s.tables.items c.requires.tied.ties.listed c.take_request-token.result.1 a.low a.high t _ _ put c.requires.tied.ties.lawful (λ t. waiting_for t s.history) _ _ _ _ c.requires.tied.cancels token.parent token.ask (ap (λ x. x.parent) child));
      counts = rw happened (still_counts None (Put t token.parent token.ask) s.history _ refl c.requires.tied.counts);
      tells = rw (happened, c.take_request-token.ensures.rest) (record {
        rows_are = rows_put s.cluster s.script.now s.history s.tables.items c.requires.tied.ties.listed c.take_request-token.result.1 a.low a.high t _ _ put c.requires.tied.ties.lawful
            token.parent token.ask a.asked s.clock headers child a.request c.requires.tied.tells.clock_is carried c.requires.tied.tells.rows_are;
        carried = carry_taken s.script.now (Put t token.parent token.ask ∷ s.history) s.flight c.args.nth
            (carried_put s.cluster s.corpus.now s.script.now s.history _ _ s.flight c.requires.tied.ties t
            (new_number s.cluster s.script.now s.history s.tables.items c.requires.tied.ties.listed c.take_request-token.result.1 a.low a.high t _ _ put c.requires.tied.ties.lawful) c.requires.tied.tells.carried token.parent token.ask);
        clock_is = c.requires.tied.tells.clock_is;
        clock_low = c.requires.tied.tells.clock_low;
        clock_high = longer longest_tick s.clock (length s.history) (length (Put t token.parent token.ask ∷ s.history)) (omega arith) c.requires.tied.tells.clock_high;
        clock_fits = c.requires.tied.tells.clock_fits;
        few_begun = c.requires.tied.tells.few_begun;
      });
      pages = rw happened (put_pages s.cluster s.corpus.now s.script.now s.history s.contexts.items c.requires.tied.pages c.requires.tied.ties.lawful t token.parent token.ask ties.lawful.0);
      shards = rw happened c.requires.tied.shards;
      awaits = subst AwaitsNoMark (sym happened) tt;
      oldest = c.requires.tied.oldest;
      reads = rw happened (reads_after c.requires.tied.oldest s.cluster s.corpus.now s.script.now s.history c.requires.tied.reads c.requires.tied.ties.lawful (Put t token.parent token.ask) ties.lawful.0.takes.next);
    }))

pub returns-in-Some-clause-delivered : goal.returns-in-Some-clause-delivered
returns-in-Some-clause-delivered c =
    let s = c.args.state.now in
    let token = c.take_request-token.result.0 in
    let to = c.take_request-token.result.1 in
    let a = arrives s.cluster s.corpus.now s.script.now s.history _ _ s.flight c.requires.tied.ties c.args.nth _ _ _ _ c.take_request-token.ensures.taken in
    let back = ap refused_token (sym c.in-Err-Full.field-0-is) ∙ c.in-Err-Full.ensures.given_back in
    let same : c.in-Some.token ≡ token = cc (back, c.in-Some.is) in
    let full = no_slot s.cluster s.history s.tables.items c.requires.tied.ties.listed to a.low a.high c.requires.tied.ties.lawful (λ table e. c.in-Err-Full.ensures.full table e (ap Err (c.in-Err-Full.field-0-is ∙ ap Full back))) in
    then_ok c.reject.result _ _ c.reject.ensures.happened (λ rejects. (let happened : c.reject.new.history ≡ Reject to token.parent token.ask ∷ s.history = cc (rejects, same) in
    subst (λ h. Delivers s.cluster s.history c.args.nth h) (sym happened)
    (delivers_reject s.cluster s.corpus.now s.script.now s.history (task_at s.tasks) s.tables.items s.flight c.requires.tied.ties c.requires.tied.awaits c.args.nth token to _ a full)))

pub returns-in-Some-clause-tied : goal.returns-in-Some-clause-tied
returns-in-Some-clause-tied c =
    let s = c.args.state.now in
    let token = c.take_request-token.result.0 in
    let to = c.take_request-token.result.1 in
    let a = arrives s.cluster s.corpus.now s.script.now s.history _ _ s.flight c.requires.tied.ties c.args.nth _ _ _ _ c.take_request-token.ensures.taken in
    let back = ap refused_token (sym c.in-Err-Full.field-0-is) ∙ c.in-Err-Full.ensures.given_back in
    let same : c.in-Some.token ≡ token = cc (back, c.in-Some.is) in
    let full = no_slot s.cluster s.history s.tables.items c.requires.tied.ties.listed to a.low a.high c.requires.tied.ties.lawful (λ table e. c.in-Err-Full.ensures.full table e (ap Err (c.in-Err-Full.field-0-is ∙ ap Full back))) in
    both_ok c.reject.result _ _ _ c.reject.ensures.happened c.reject.ensures.answered (λ rejects sends. (let happened : c.reject.new.history ≡ Reject to token.parent token.ask ∷ s.history = cc (rejects, same) in
    let answered = sends ∙ ap (λ (queue : List Sent). queue ++ rejected c.in-Some.token (length s.history) ∷ []) c.take_request-token.ensures.rest
    ∙ ap (λ (k : Token). remove s.flight c.args.nth ++ rejected k (length s.history) ∷ []) same in
    record {
      ties = same_ties s.cluster s.corpus.now s.script.now (task_at s.tasks) _ _ _ _ _ _ happened c.in-Err-Full.ensures.err answered
          (after_reject s.cluster s.corpus.now s.script.now s.history (task_at s.tasks) s.tables.items s.flight c.requires.tied.ties c.requires.tied.awaits c.args.nth token to _ a full);
      cancels = same_cancels s.cluster _ _ _ _ _ _ _ _ happened c.in-Err-Full.ensures.err (noted s.cluster (λ t. waiting_for t s.history) s.history _ _ _ _ _ c.requires.tied.cancels (Reject to token.parent token.ask) refl refl);
      counts = rw happened (still_counts None (Reject to token.parent token.ask) s.history _ refl c.requires.tied.counts);
      tells = rw (happened, c.in-Err-Full.ensures.err, answered) (quiet_sent s.script.now s.history s.tables.items s.flight _ (Reject to token.parent token.ask) _ refl
          (carry_both s.script.now s.history (remove s.flight c.args.nth) (rejected token (length s.history) ∷ []) (carry_taken s.script.now s.history s.flight c.args.nth c.requires.tied.tells.carried) (tt, tt)) c.requires.tied.tells);
      pages = rw happened (quiet_pages s.cluster s.corpus.now s.script.now s.history s.contexts.items c.requires.tied.pages (Reject to token.parent token.ask) refl);
      shards = rw happened c.requires.tied.shards;
      awaits = subst AwaitsNoMark (sym happened) tt;
      oldest = c.requires.tied.oldest;
      reads = rw happened (reads_after c.requires.tied.oldest s.cluster s.corpus.now s.script.now s.history c.requires.tied.reads c.requires.tied.ties.lawful (Reject to token.parent token.ask) tt);
    }))

pub returns-in-Err-NumbersSpent-clause-spent : goal.returns-in-Err-NumbersSpent-clause-spent
returns-in-Err-NumbersSpent-clause-spent c = λ _.
    let s = c.args.state.now in
    let to = c.take_request-token.result.1 in
    let a = arrives s.cluster s.corpus.now s.script.now s.history _ _ s.flight c.requires.tied.ties c.args.nth _ _ _ _ c.take_request-token.ensures.taken in
    let back = ap refused_token (sym c.in-Err-NumbersSpent.field-0-is) ∙ c.in-Err-NumbersSpent.ensures.given_back in
    (_, a.here, no_number s.cluster s.history s.tables.items c.requires.tied.ties.listed to a.low a.high c.requires.tied.ties.lawful (λ table e. c.in-Err-NumbersSpent.ensures.spent table e (ap Err (c.in-Err-NumbersSpent.field-0-is ∙ ap NumbersSpent back))))

pub returns-in_ok-running-in-Ok-put_on-clause-full : goal.returns-in_ok-running-in-Ok-put_on-clause-full
returns-in_ok-running-in-Ok-put_on-clause-full c = λ failed.
    let s = c.args.state.now in
    let token = c.take_request-token.result.0 in
    let a = arrives s.cluster s.corpus.now s.script.now s.history _ _ s.flight c.requires.tied.ties c.args.nth _ _ _ _ c.take_request-token.ensures.taken in
    let t = c.in-Ok-put_on.ticket.id in
    let put : IsPutOn s.tables.items c.take_request-token.result.1 t c.in-Ok.child c.put_on.new.tables.items = record { id = c.in-Ok-put_on.ensures.id; row = c.in-Ok-put_on.ensures.row; free = c.in-Ok-put_on.ensures.free } in
    cut_only (λ x y. Delivers s.cluster x c.args.nth y) s.history c.keep_started.new.history (Put t token.parent token.ask)
    (delivers_put s.cluster s.corpus.now s.script.now s.history (task_at s.tasks) s.tables.items s.flight c.requires.tied.ties c.requires.tied.awaits c.args.nth token c.take_request-token.result.1 _ a t _ _ put)
    (c.keep_started.ensures.full failed) (of_err c.keep_started.result _ _ failed c.keep_started.ensures.err)

pub returns-in-Some-clause-full : goal.returns-in-Some-clause-full
returns-in-Some-clause-full c = λ failed.
    let s = c.args.state.now in
    let token = c.take_request-token.result.0 in
    let to = c.take_request-token.result.1 in
    let a = arrives s.cluster s.corpus.now s.script.now s.history _ _ s.flight c.requires.tied.ties c.args.nth _ _ _ _ c.take_request-token.ensures.taken in
    let back = ap refused_token (sym c.in-Err-Full.field-0-is) ∙ c.in-Err-Full.ensures.given_back in
    let full = no_slot s.cluster s.history s.tables.items c.requires.tied.ties.listed to a.low a.high c.requires.tied.ties.lawful (λ table e. c.in-Err-Full.ensures.full table e (ap Err (c.in-Err-Full.field-0-is ∙ ap Full back))) in
    cut_only (λ x y. Delivers s.cluster x c.args.nth y) s.history c.reject.new.history (Reject to token.parent token.ask)
    (delivers_reject s.cluster s.corpus.now s.script.now s.history (task_at s.tasks) s.tables.items s.flight c.requires.tied.ties c.requires.tied.awaits c.args.nth token to _ a full)
    (c.reject.ensures.full failed) (of_err c.reject.result _ _ failed c.reject.ensures.err)
