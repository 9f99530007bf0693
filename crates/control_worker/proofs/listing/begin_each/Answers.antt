-- One child more is begun.
use Rattle.std.proofs.Common.{◌≡◌, ◌+◌, List, [], ◌∷◌, drop, get_or, sym, ◌∙◌, subst, arith}
use Rattle.std.proofs.lemmas.List.{drop_all}
use Rattle.task_ids.specs.declared.task_id.TaskId.{TaskId}
use Rattle.control_worker.specs.Steps.{Each, Makes, at}
use Rattle.control_worker.specs.Bans.{BeginsChild}
use Rattle.control_worker.proofs.Making.{makes_nothing}
use Rattle.control_worker.proofs.Listed.{each_more, rest_is}
use Rattle.control_worker.proofs.listing.begin_each.Goals as goal

pub loop-child-preserved : goal.loop-child-preserved
loop-child-preserved g c =
    let rests = g.B.ControlBoard.rests in
    let children = c.args.children.now in
    let i = c.loop-child.child-index in
    let begun = c.in_ok-begin_child.ensures in
    let now = at c.loop-child.board c.loop-child.core c.loop-child.acts.items in
    let after = at c.begin_child.new.board c.begin_child.new.core c.begin_child.new.acts.items in
    let rest : drop i children ≡ c.child-item.result ∷ drop (i + 1) children = rest_is children i c.child-item.result c.loop-child-test.true c.child-item.is in
    record {
      together = begun.together;
      marked = λ k d within. (begun.marks (get_or children k d).number).1 (c.loop-child.invariant.marked k d within);
      listings = begun.listings ∙ c.loop-child.invariant.listings;
      kept = begun.kept ∙ c.loop-child.invariant.kept;
      left = λ t later. c.loop-child.invariant.left t
          (subst (λ (l : List TaskId). Makes rests (Each (BeginsChild c.args.cancel) l) now t) (sym rest) (each_more rests (BeginsChild c.args.cancel) now after t c.child-item.result (drop (i + 1) children) begun.did later));
    }

pub returns-clause-did : goal.returns-clause-did
returns-clause-did g c =
    let now = at c.loop-child.board c.loop-child.core c.loop-child.acts.items in
    let none : drop c.loop-child.child-index c.args.children.now ≡ [] = drop_all c.loop-child.child-index c.args.children.now (omega (arith, c.loop-child-test.false)) in
    c.loop-child.invariant.left now (subst (λ (l : List TaskId). Makes g.B.ControlBoard.rests (Each (BeginsChild c.args.cancel) l) now now) (sym none) (makes_nothing g.B.ControlBoard.rests now))
