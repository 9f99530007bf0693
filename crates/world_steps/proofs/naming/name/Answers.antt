use Rattle.std.proofs.Common.{◌∙◌, [], sym}
use Rattle.task_events.specs.declared.event.Event.TheVariants.{Cancel}
use Rattle.world_moves.proofs.CutShort.{cut_first}
use Rattle.world_steps.proofs.naming.name.Goals as goal

pub returns-then-is_marked-clause-part : goal.returns-then-is_marked-clause-part
returns-then-is_marked-clause-part c = let marked = sym c.is_marked.ensures ∙ c.if-is_marked.true in rw marked c.join.ensures.part

pub returns-else-is_marked-clause-part : goal.returns-else-is_marked-clause-part
returns-else-is_marked-clause-part c = let unmarked = sym c.is_marked.ensures ∙ c.if-is_marked.false in rw unmarked c.name_and_mark.ensures.part

pub returns-else-is_marked-clause-full : goal.returns-else-is_marked-clause-full
returns-else-is_marked-clause-full c = let unmarked = sym c.is_marked.ensures ∙ c.if-is_marked.false in rw unmarked c.name_and_mark.ensures.full

pub returns-then-is_marked-clause-full : goal.returns-then-is_marked-clause-full
returns-then-is_marked-clause-full c = λ failed.
    let h = c.args.state.now.history in
    let marked = sym c.is_marked.ensures ∙ c.if-is_marked.true in
    let found = c.join.ensures.full failed in
    rw marked (cut_first h c.join.new.state.history [] (Cancel c.args.number c.args.task c.args.wait) found.0 found.1)
