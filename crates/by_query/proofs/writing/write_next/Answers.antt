use Rattle.std.proofs.Common.{◌∙◌, arith}
use Rattle.by_query.proofs.ChangeLemmas.{on_err, looks_next, breaks_in_write, breaks_after_write, all_written, all_left, all_noted}
use Rattle.by_query.proofs.writing.write_next.Goals as goal

pub returns-in_err-note-clause-err : goal.returns-in_err-note-clause-err
returns-in_err-note-clause-err c =
    on_err c.from_residual-in_err-note.result _
    (breaks_in_write c.args.index.now c.args.number c.args.shard.now.writes c.args.left.now.items c.loop.counter c.loop.shard.writes c.loop.left.items c.pop_front.new.self.items c.write_one.new.shard.writes c.loop.notes.items c.in-Some.change
    c.loop.invariant.0 c.in-Some.ensures.items (omega arith) c.in_err-note.ensures.err)

pub returns-in_err-add_note-clause-err : goal.returns-in_err-add_note-clause-err
returns-in_err-add_note-clause-err c =
    on_err c.from_residual-in_err-add_note.result _
    (breaks_after_write c.args.index.now c.args.number c.args.shard.now.writes c.args.left.now.items c.loop.counter c.loop.shard.writes c.loop.left.items c.pop_front.new.self.items c.write_one.new.shard.writes c.loop.notes.items c.in-Some.change
    c.loop.invariant.0 c.in-Some.ensures.items (omega arith) c.in_ok-note.ensures.ok)

pub loop-preserved : goal.loop-preserved
loop-preserved c = (
  rw (c.in_ok-note.ensures.ok, c.in_ok-add_note.ensures, c.in_ok-note.ensures.note)
      (looks_next c.args.index.now c.args.number c.args.shard.now.writes c.args.left.now.items c.loop.counter c.loop.shard.writes c.loop.left.items c.pop_front.new.self.items c.loop.notes.items c.in-Some.change c.loop.invariant.0 c.in-Some.ensures.items),
  c.write_one.ensures.oldest ∙ c.loop.invariant.1,
)

pub returns-clause-written : goal.returns-clause-written
returns-clause-written c = all_written c.args.left.now.items c.loop.counter (omega arith) (omega arith) c.args.index.now c.args.number c.args.shard.now.writes c.loop.shard.writes c.loop.left.items c.loop.notes.items c.loop.invariant.0

pub returns-clause-left : goal.returns-clause-left
returns-clause-left c = all_left c.args.left.now.items c.loop.counter (omega arith) (omega arith) c.args.index.now c.args.number c.args.shard.now.writes c.loop.shard.writes c.loop.left.items c.loop.notes.items c.loop.invariant.0

pub returns-clause-notes : goal.returns-clause-notes
returns-clause-notes c = all_noted c.args.left.now.items c.loop.counter (omega arith) (omega arith) c.args.index.now c.args.number c.args.shard.now.writes c.loop.shard.writes c.loop.left.items c.loop.notes.items c.loop.invariant.0

pub returns-in_err-note-clause-oldest : goal.returns-in_err-note-clause-oldest
returns-in_err-note-clause-oldest c = c.write_one.ensures.oldest ∙ c.loop.invariant.1

pub returns-in_err-add_note-clause-oldest : goal.returns-in_err-add_note-clause-oldest
returns-in_err-add_note-clause-oldest c = c.write_one.ensures.oldest ∙ c.loop.invariant.1

pub returns-clause-oldest : goal.returns-clause-oldest
returns-clause-oldest c = c.loop.invariant.1
