use Rattle.std.proofs.Common.{◌≡◌, ◌∙◌, ◌∷◌, true, false, length, rules, sym, ap}
use Rattle.std.specs.Prelude.{◌==◌}
use Rattle.task_events.specs.declared.history.TheConstants.{MAX_EVENTS}
use Rattle.world_moves.specs.Cancels.{answer_by, is_due}
use Rattle.world_moves.proofs.TasksNamed.{due_where_none}
use Rattle.world_steps.proofs.NamingEnds.{ties_after_answer, cancels_after_answer, tells_after_answer, pages_after_answer, no_mark_after, counts_answered, counts_open, is_answer_now, no_answer_now, shards_after_answer, reads_after_answer}
use Rattle.world_steps.proofs.naming.answer_if_due.Goals as goal

pub returns-then-not-waits_at_none-clause-happened : goal.returns-then-not-waits_at_none-clause-happened
returns-then-not-waits_at_none-clause-happened c =
    let s = c.args.state.now in
    let due : is_due s.history c.args.number ≡ false = due_where_none c.args.number s.history ∙ ap (λ n. n == 0) (sym (c.requires.tied.counts.counts c.args.number)) ∙ sym c.waits_at_none.ensures ∙ c.if-not-waits_at_none.true in
    sym (no_answer_now s.cluster s.history c.args.number c.args.wait c.requires.naming c.requires.tied.ties.lawful c.requires.tied.awaits due)

pub returns-then-not-waits_at_none-clause-tied : goal.returns-then-not-waits_at_none-clause-tied
returns-then-not-waits_at_none-clause-tied c =
    let s = c.args.state.now in
    let tied = c.requires.tied in
    let due : is_due s.history c.args.number ≡ false = due_where_none c.args.number s.history ∙ ap (λ n. n == 0) (sym (tied.counts.counts c.args.number)) ∙ sym c.waits_at_none.ensures ∙ c.if-not-waits_at_none.true in
    record { ties = tied.ties; cancels = tied.cancels; counts = counts_open s.cluster s.history c.args.number c.args.wait c.requires.naming tied.ties.lawful tied.awaits _ tied.counts due; tells = tied.tells; pages = tied.pages; shards = tied.shards; awaits = tied.awaits; oldest = tied.oldest; reads = tied.reads }

pub returns-in_err-append-clause-full : goal.returns-in_err-append-clause-full
returns-in_err-append-clause-full c = λ failed.
    let s = c.args.state.now in
    let due : is_due s.history c.args.number ≡ true = due_where_none c.args.number s.history ∙ ap (λ n. n == 0) (sym (c.requires.tied.counts.counts c.args.number)) ∙ sym c.waits_at_none.ensures ∙ c.if-not-waits_at_none.false in
    let full : length s.history ≡ MAX_EVENTS = search rules in
    (full, due)

pub returns-clause-happened : goal.returns-clause-happened
returns-clause-happened c =
    let s = c.args.state.now in
    let due : is_due s.history c.args.number ≡ true = due_where_none c.args.number s.history ∙ ap (λ n. n == 0) (sym (c.requires.tied.counts.counts c.args.number)) ∙ sym c.waits_at_none.ensures ∙ c.if-not-waits_at_none.false in
    c.in_ok-append.ensures.ok ∙ ap (λ e. e ∷ s.history) c.answer_by.ensures ∙ sym (is_answer_now s.cluster s.history c.args.number c.args.wait c.requires.naming c.requires.tied.ties.lawful c.requires.tied.awaits due)

pub returns-clause-tied : goal.returns-clause-tied
returns-clause-tied c =
    let s = c.args.state.now in
    let tied = c.requires.tied in
    let due : is_due s.history c.args.number ≡ true = due_where_none c.args.number s.history ∙ ap (λ n. n == 0) (sym (tied.counts.counts c.args.number)) ∙ sym c.waits_at_none.ensures ∙ c.if-not-waits_at_none.false in
    let happened : c.append.new.history ≡ answer_by c.args.wait c.args.number ∷ s.history = c.in_ok-append.ensures.ok ∙ ap (λ e. e ∷ s.history) c.answer_by.ensures in
    record {
      ties = rw happened (ties_after_answer s.cluster s.history c.args.number c.args.wait c.requires.naming tied.ties.lawful tied.awaits due s.corpus.now s.script.now _ _ s.flight tied.ties);
      cancels = rw happened (cancels_after_answer s.cluster s.history c.args.number c.args.wait c.requires.naming tied.ties.lawful tied.awaits _ _ s.bans.items s.cores.items s.listings tied.cancels);
      counts = rw happened (counts_answered s.cluster s.history c.args.number c.args.wait c.requires.naming tied.ties.lawful tied.awaits _ tied.counts due);
      tells = rw happened (tells_after_answer s.cluster s.history c.args.number c.args.wait c.requires.naming tied.ties.lawful tied.awaits s.script.now s.tables.items s.flight s.clock tied.tells);
      pages = rw happened (pages_after_answer s.cluster s.history c.args.number c.args.wait c.requires.naming tied.ties.lawful tied.awaits s.corpus.now s.script.now s.contexts.items tied.pages);
      shards = rw happened (shards_after_answer s.cluster s.history c.args.number c.args.wait c.requires.naming tied.ties.lawful tied.awaits s.corpus.now s.script.now tied.oldest s.shards tied.shards);
      awaits = rw happened (no_mark_after s.cluster s.history c.args.number c.args.wait c.requires.naming tied.ties.lawful tied.awaits);
      oldest = tied.oldest;
      reads = rw happened (reads_after_answer s.cluster s.history c.args.number c.args.wait c.requires.naming tied.ties.lawful tied.awaits tied.oldest s.corpus.now s.script.now tied.reads);
    }
