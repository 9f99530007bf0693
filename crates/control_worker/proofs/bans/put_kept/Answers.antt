use Rattle.std.proofs.Common.{rules, ◌≡◌, true, false, subst}
use Rattle.control_worker.specs.Steps.{at}
use Rattle.control_worker.specs.Bans.{TriesOldest}
use Rattle.control_worker.proofs.Banning.{tries_on, tries_end, tries_kept}
use Rattle.control_worker.proofs.bans.put_kept.Goals as goal

pub returns-then-not-branch-clause-did : goal.returns-then-not-branch-clause-did
returns-then-not-branch-clause-did g c =
    let rests = g.B.ControlBoard.rests in
    let no : c.in_ok-put_oldest.field-0 ≡ false = search rules in
    let start = at c.args.board.now c.args.core.now c.args.acts.now.items in
    let now = at c.loop.board c.loop.core c.loop.acts.items in
    let after = at c.put_oldest.new.board c.put_oldest.new.core c.put_oldest.new.acts.items in
    let old = c.loop.core.kept.items in
    let new = c.put_oldest.new.core.kept.items in
    tries_kept rests start after (tries_end rests start now after c.args.core.now.kept.items old new c.loop.invariant.left (subst (λ b. TriesOldest rests old new now after b) no c.in_ok-put_oldest.ensures.did))

pub loop-preserved : goal.loop-preserved
loop-preserved g c =
    let rests = g.B.ControlBoard.rests in
    let yes : c.in_ok-put_oldest.field-0 ≡ true = search rules in
    let start = at c.args.board.now c.args.core.now c.args.acts.now.items in
    let now = at c.loop.board c.loop.core c.loop.acts.items in
    let after = at c.put_oldest.new.board c.put_oldest.new.core c.put_oldest.new.acts.items in
    let old = c.loop.core.kept.items in
    let new = c.put_oldest.new.core.kept.items in
    let one = subst (λ b. TriesOldest rests old new now after b) yes c.in_ok-put_oldest.ensures.did in
    record {
      together = c.in_ok-put_oldest.ensures.together;
      left = λ t later. tries_on rests start now after t c.args.core.now.kept.items old new c.loop.invariant.left one later;
    }
