use Rattle.std.proofs.Common.{rules, ◌≡◌, ◌∙◌, ◌∷◌, length, ap}
use Rattle.task_events.specs.declared.event.Event.TheVariants.{Work}
use Rattle.task_events.specs.declared.history.TheConstants.{MAX_EVENTS}
use Rattle.corpus_shards.proofs.Cases.{on_err}
use Rattle.world_moves.proofs.NoteParts.{none_yet, none_fits, first_notes, next_note, next_misses}
use Rattle.world_moves.proofs.turns.note_turn.Goals as goal

pub returns-in_err-append-clause-part : goal.returns-in_err-append-clause-part
returns-in_err-append-clause-part c = on_err c.from_residual.result _ (none_yet (Work c.args.task) c.args.notes.now c.args.history.now c.append.new.history c.in_err-append.ensures.err)

pub returns-in_err-append-clause-full : goal.returns-in_err-append-clause-full
returns-in_err-append-clause-full c = λ failed.
    let full : length c.args.history.now ≡ MAX_EVENTS = search rules in
    none_fits (Work c.args.task) c.args.notes.now c.args.history.now c.append.new.history full c.in_err-append.ensures.err

pub returns-in_err-write_of-clause-part : goal.returns-in_err-write_of-clause-part
returns-in_err-write_of-clause-part c = on_err c.from_residual-in_err-write_of.result _ (first_notes (Work c.args.task) c.args.notes.now c.loop-note.note-index c.args.history.now _ c.loop-note.invariant.noted)

pub returns-in_err-append-2-clause-part : goal.returns-in_err-append-2-clause-part
returns-in_err-append-2-clause-part c = on_err c.from_residual-in_err-append-2.result _ (first_notes (Work c.args.task) c.args.notes.now c.loop-note.note-index c.args.history.now _ (c.in_err-append-2.ensures.err ∙ c.loop-note.invariant.noted))

pub returns-in_err-append-2-clause-full : goal.returns-in_err-append-2-clause-full
returns-in_err-append-2-clause-full c = λ failed.
    let full : length c.loop-note.history ≡ MAX_EVENTS = search rules in
    next_misses (Work c.args.task) c.args.notes.now c.loop-note.note-index c.note-item.result c.args.history.now c.loop-note.history _ c.loop-note-test.true c.note-item.is c.loop-note.invariant.noted full c.in_err-append-2.ensures.err

pub loop-note-preserved : goal.loop-note-preserved
loop-note-preserved c = record {
  noted = next_note c.args.notes.now c.loop-note.note-index c.note-item.result _ _ c.loop-note.history c.loop-note-test.true c.note-item.is c.loop-note.invariant.noted (c.in_ok-append-2.ensures.ok ∙ ap (λ e. e ∷ c.loop-note.history) c.in_ok-write_of.ensures.event);
  room = c.in_ok-append-2.ensures.room;
}
