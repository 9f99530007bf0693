use Rattle.std.proofs.Common.{List, refl, subst}
use Rattle.task_ids.specs.declared.task_id.TaskId.{TaskId}
use Rattle.control_worker.specs.View.{View, view_of}
use Rattle.control_worker.specs.Steps.{Each, Makes, at}
use Rattle.control_worker.specs.Bans.{BeginsChild}
use Rattle.control_worker.proofs.Belonging.{together_stays}
use Rattle.control_worker.proofs.Making.{moment}
use Rattle.control_worker.proofs.Listed.{lists_on}
use Rattle.control_worker.proofs.listing.list_ban.Goals as goal

pub returns-clause-did : goal.returns-clause-did
returns-clause-did g c =
    let rests = g.B.ControlBoard.rests in
    let listed = c.in_ok-children.ensures.did in
    let children : List TaskId = c.in_ok-children.children.items in
    let v : View = view_of c.args.core.now in
    let mid = c.list_children.new.board in
    let each = rw c.deref.ensures.value at c.in_ok-begin_each.ensures.did in
    let begun = subst (λ (u : View). Makes rests (Each (BeginsChild c.args.ban.cancel) children) (moment mid u c.args.acts.now.items) (at c.begin_each.new.board c.begin_each.new.core c.begin_each.new.acts.items)) c.in_ok-children.ensures.same each in
    let waits = rw c.deref-2.ensures.value at c.await_children.ensures.did in
    lists_on rests c.args.board.now mid c.begin_each.new.board v (view_of c.begin_each.new.core) (view_of c.await_children.new.core) c.args.acts.now.items c.begin_each.new.acts.items c.await_children.new.acts.items c.args.ban c.args.place
    listed.0 children c.await_children.result listed.1 listed.2 begun waits

pub returns-clause-together : goal.returns-clause-together
returns-clause-together g c =
    together_stays _ _ _ _ _ (view_of c.begin_each.new.core) (view_of c.await_children.new.core) c.in_ok-begin_each.ensures.together (λ j p k. ((λ is. is), (λ is. is))) refl c.await_children.ensures.same
