-- A number is drawn unless one is left, and the task is entered with it.
use Rattle.std.proofs.Common.{◌+◌, true, false, Some, sym, ap, subst, ◌∙◌}
use Rattle.std.specs.Prelude.{IfOk}
use Rattle.task_ids.specs.declared.task_id.TaskId.{TaskId}
use Rattle.child_track.specs.Token.{token_parent}
use Rattle.node_boards.specs.Calls.{claim}
use Rattle.live_tasks.specs.declared.entry.Entry.{Entry}
use Rattle.live_tasks.specs.Chains.{Chain}
use Rattle.live_tasks.specs.Live.{entry_at, number_at, ChangesAt}
use Rattle.live_tasks.specs.Registers.{IsNewEntry, drawing, registering, is_task}
use Rattle.live_tasks.proofs.Chaining.{chain_on}
use Rattle.live_tasks.proofs.live.LiveTasks.register.Goals as goal

pub enter-requires-clause-id : goal.enter-requires-clause-id
enter-requires-clause-id g c = (c.in-Ok.ensures.id.0 ∙ sym c.next_id.ensures.core.0, c.in-Ok.ensures.id.1)

pub enter-requires-clause-place : goal.enter-requires-clause-place
enter-requires-clause-place g c = c.next_id.ensures.same.1 c.args.wanted.now.place ∙ c.requires.place

pub returns-in-Ok-clause-task : goal.returns-in-Ok-clause-task
returns-in-Ok-clause-task g c = λ t e. let k = c.enter.ensures.task t e in (ap (λ i. i.node) k.0 ∙ c.in-Ok.ensures.id.0, k.1)

pub returns-in-Ok-clause-entry : goal.returns-in-Ok-clause-entry
returns-in-Ok-clause-entry g c = λ t e.
    let k = c.enter.ensures.entry t e in
    subst (λ (i : TaskId). (x : Entry) × IsNewEntry i c.args.token c.args.wanted.now c.args.cluster.now.shards c.args.now x × ChangesAt (entry_at c.args.self.now) (entry_at c.enter.new.self) i.number (Some x))
    (sym (c.enter.ensures.task t e).0) (k.0, k.1, (k.2.0, λ m other. k.2.1 m other ∙ c.next_id.ensures.same.0 m))

pub returns-in-Ok-clause-placed : goal.returns-in-Ok-clause-placed
returns-in-Ok-clause-placed g c = λ t e.
    let k = c.enter.ensures.placed t e in
    subst (λ (i : TaskId). ChangesAt (number_at c.args.self.now) (number_at c.enter.new.self) c.args.wanted.now.place (Some i.number)) (sym (c.enter.ensures.task t e).0) (k.0, λ p other. k.1 p other ∙ c.next_id.ensures.same.1 p)

pub returns-in-Ok-clause-more : goal.returns-in-Ok-clause-more
returns-in-Ok-clause-more g c = λ t e. c.enter.ensures.more t e ∙ ap (λ n. n + 1) c.next_id.ensures.same.2

pub returns-in-Ok-clause-calls : goal.returns-in-Ok-clause-calls
returns-in-Ok-clause-calls g c = λ t e.
    let id = c.in-Ok.id in
    let rests = subst (λ x. IfOk x (λ r. g.B.DataBoard.rests c.next_id.new.board c.enter.new.board (claim id.number (token_parent c.args.token) (is_task r)))) e c.enter.ensures.calls in
    let chain = chain_on g.B.DataBoard.rests c.args.board.now c.next_id.new.board c.enter.new.board (drawing c.args.self.now.drawn id.number) (claim id.number (token_parent c.args.token) true) c.in-Ok.ensures.calls rests in
    subst (λ (i : TaskId). Chain g.B.DataBoard.rests c.args.board.now (registering c.args.self.now.drawn i.number (token_parent c.args.token) true) c.enter.new.board) (sym (c.enter.ensures.task t e).0) chain

pub returns-in-Ok-clause-full : goal.returns-in-Ok-clause-full
returns-in-Ok-clause-full g c = λ t e.
    let k = c.enter.ensures.full t e in
    let same = c.next_id.ensures.same in
    (k.0, ((λ n. k.2.0 n ∙ same.0 n), (λ p. k.2.1 p ∙ same.1 p), k.2.2 ∙ same.2))

pub returns-in-Ok-clause-full_calls : goal.returns-in-Ok-clause-full_calls
returns-in-Ok-clause-full_calls g c = λ t e.
    let id = c.in-Ok.id in
    let rests = subst (λ x. IfOk x (λ r. g.B.DataBoard.rests c.next_id.new.board c.enter.new.board (claim id.number (token_parent c.args.token) (is_task r)))) e c.enter.ensures.calls in (
      id.number,
      (c.enter.ensures.full t e).1 ∙ c.in-Ok.ensures.id.1,
      chain_on g.B.DataBoard.rests c.args.board.now c.next_id.new.board c.enter.new.board (drawing c.args.self.now.drawn id.number) (claim id.number (token_parent c.args.token) false) c.in-Ok.ensures.calls rests,
    )
