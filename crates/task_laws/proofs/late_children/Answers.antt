use Rattle.std.proofs.Common.{◌≡◌, ℕ, true, List, Option, Some, None, refl}
use Rattle.task_ids.specs.declared.task_id.TaskId.{TaskId}
use Rattle.task_events.specs.declared.event.Event.{Event}
use Rattle.task_events.specs.Tasks.{is_live, parent_of}
use Rattle.task_events.specs.Bans.{ban_put, ban_over, standing_ban}
use Rattle.task_events.specs.Laws.{RefusesLateChildren}
use Rattle.task_laws.proofs.Asks.{AskFacts, ask_facts, parent_live}
use Rattle.task_laws.proofs.Late.{LateFacts, late_facts}
use Rattle.task_laws.proofs.late_children.Goals as goal

law : (h : List Event) → LateFacts h → RefusesLateChildren h
law h g = record { not_passed = g.not_passed; refused = g.refused }

-- where no ban of its parent stands over a live child, none was put
none_put : (t p : TaskId) (h : List Event) → AskFacts h → LateFacts h → is_live t h ≡ true → parent_of t h ≡ Some p → ban_over t h ≡ None → (o : Option ℕ) → ban_put t.node p h ≡ o → ban_put t.node p h ≡ None
none_put t p h f g l e no_ban None o = o
none_put t p h f g l e no_ban (Some c) o =
    let stands = g.put_stands t.node p c o (f.live_or_ended p (parent_live t p h f e l)) in
    let none : standing_ban t.node p h ≡ None = rw e at no_ban in
    absurd (cc)

pub returns-clause-refused : goal.returns-clause-refused
returns-clause-refused c = λ cluster h l. law h (late_facts cluster h l)

pub returns-clause-no_pass : goal.returns-clause-no_pass
returns-clause-no_pass c = λ cluster h t p l e. none_put t p h (ask_facts cluster h l.1) (late_facts cluster h l.1) l.0.live e l.0.no_ban (ban_put t.node p h) refl
