-- A board writes the numbers over the whole of what is found.
use Rattle.std.proofs.Common.{◌≡◌, ℕ, List, length, take, refl, ap, ◌∙◌, subst, arith}
use Rattle.control_worker.specs.View.{View, view_of}
use Rattle.control_worker.specs.Bans.{AreTasks}
use Rattle.control_worker.proofs.Belonging.{has_room, together_unmoved}
use Rattle.control_worker.proofs.Listed.{all_tasks, with_whole}
use Rattle.control_worker.proofs.listing.list_children.Goals as goal

pub list-count-requires-clause-room : goal.list-count-requires-clause-room
list-count-requires-clause-room g c =
    let v : View = view_of c.args.core.now in
    let room = has_room _ _ _ v v c.requires.together in
    let value = ap length c.deref_mut.ensures.value in
    omega (arith, room, value)

pub returns-in_err-children-clause-together : goal.returns-in_err-children-clause-together
returns-in_err-children-clause-together g c =
    let old = c.args.core.now.found in
    let new : List ℕ = c.list-count.new.found in
    let value = ap length c.deref_mut.ensures.value in
    let size = c.list-count.ensures.found.0 in
    let ok = old.ok.0 in
    let whole = with_whole old.len new old.items (omega (arith, value, size, ok)) (omega (arith, ok)) in
    let same : length new ≡ length old.items = omega (arith, value, size) in
    together_unmoved _ _ _ _ _ (view_of c.args.core.now) _ c.requires.together c.list-count.ensures.bans c.list-count.ensures.size.0 refl refl refl (ap length whole ∙ same)

pub returns-clause-together : goal.returns-clause-together
returns-clause-together g c =
    let old = c.args.core.now.found in
    let new : List ℕ = c.list-count.new.found in
    let value = ap length c.deref_mut.ensures.value in
    let size = c.list-count.ensures.found.0 in
    let ok = old.ok.0 in
    let whole = with_whole old.len new old.items (omega (arith, value, size, ok)) (omega (arith, ok)) in
    let same : length new ≡ length old.items = omega (arith, value, size) in
    together_unmoved _ _ _ _ _ (view_of c.args.core.now) _ c.requires.together c.list-count.ensures.bans c.list-count.ensures.size.0 refl refl refl (ap length whole ∙ same)

pub returns-clause-marked : goal.returns-clause-marked
returns-clause-marked g c =
    let old = c.args.core.now.found in
    let new : List ℕ = c.list-count.new.found in
    let value = ap length c.deref_mut.ensures.value in
    let size = c.list-count.ensures.found.0 in
    let ok = old.ok.0 in
    let whole = with_whole old.len new old.items (omega (arith, value, size, ok)) (omega (arith, ok)) in
    let are = rw c.deref.ensures.value at c.in_ok-children.ensures in
    let told = subst (λ (l : List ℕ). AreTasks c.node.result (take c.list-count.result l) c.in_ok-children.children.items) whole are in
    all_tasks (g.B.ControlBoard.marked c.list-count.new.self) _ _ _ told c.list-count.ensures.handed
