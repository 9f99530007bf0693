use Rattle.std.proofs.Common.{rules, ◌≡◌, ◌<◌, true, false, length, drop, refl, sym, ap, ◌∙◌, subst, arith, All, List}
use Rattle.std.proofs.lemmas.List.Elements.{All-drop}
use Rattle.control_worker.specs.declared.control_core.Ban.{Ban}
use Rattle.control_worker.specs.View.{View, view_of}
use Rattle.control_worker.specs.Steps.{Makes, at}
use Rattle.control_worker.specs.Bans.{PutsOrNot}
use Rattle.control_worker.specs.Together.{MayPut}
use Rattle.control_worker.proofs.Belonging.{may_put, together_keeps}
use Rattle.control_worker.proofs.Banning.{none_first, may_oldest, oldest_none, oldest_full, oldest_put}
use Rattle.control_worker.proofs.bans.put_oldest.Goals as goal

pub returns-in_default-clause-did : goal.returns-in_default-clause-did
returns-in_default-clause-did g c =
    let old = c.args.core.now.kept.items in
    let none : 0 < length old → ⊥ = λ some. omega (arith, some, c.in_default.ensures.item.3) in
    oldest_none g.B.ControlBoard.rests (at c.args.board.now c.args.core.now c.args.acts.now.items) old (none_first old none)

pub put_ban-requires-clause-may_put : goal.put_ban-requires-clause-may_put
put_ban-requires-clause-may_put g c =
    let v : View = view_of c.args.core.now in
    let some : 0 < length v.kept = c.in-Some.ensures.item.3.0 in
    may_oldest g.N.BoardName.allowed v.kept c.in-Some.field-0.now (may_put _ _ g.N.BoardName.allowed v v c.requires.together) some c.in-Some.ensures.lookup

pub returns-then-not-branch-clause-did : goal.returns-then-not-branch-clause-did
returns-then-not-branch-clause-did g c =
    let v : View = view_of c.args.core.now in
    let some : 0 < length v.kept = c.in-Some.ensures.item.3.0 in
    let no : c.in_ok-put_ban.field-0 ≡ false = search rules in
    let s = at c.args.board.now c.args.core.now c.args.acts.now.items in
    let m = at c.put_ban.new.board c.put_ban.new.core c.put_ban.new.acts.items in
    let ban : Ban = c.in-Some.field-0.now in
    oldest_full g.B.ControlBoard.rests s m ban v.kept c.put_ban.new.core.kept.items some c.in-Some.ensures.lookup (subst (λ b. Makes g.B.ControlBoard.rests (PutsOrNot ban b) s m) no c.in_ok-put_ban.ensures.did)

pub returns-clause-together : goal.returns-clause-together
returns-clause-together g c =
    let v : View = view_of c.put_ban.new.core in
    let w : View = record v { kept = c.pop_front.new.self.items } in
    let t = c.in_ok-put_ban.ensures.together in
    let all : All (MayPut g.N.BoardName.allowed) v.kept = may_put _ _ g.N.BoardName.allowed v v t in
    together_keeps _ _ g.N.BoardName.allowed v w t refl refl refl (subst (All (MayPut g.N.BoardName.allowed)) (sym c.pop_front.ensures.rest) (All-drop (MayPut g.N.BoardName.allowed) 1 v.kept all))

pub returns-clause-did : goal.returns-clause-did
returns-clause-did g c =
    let v : View = view_of c.args.core.now in
    let u : View = view_of c.put_ban.new.core in
    let w : View = record u { kept = c.pop_front.new.self.items } in
    let some : 0 < length v.kept = c.in-Some.ensures.item.3.0 in
    let yes : c.in_ok-put_ban.field-0 ≡ true = search rules in
    let s = at c.args.board.now c.args.core.now c.args.acts.now.items in
    let m = at c.put_ban.new.board c.put_ban.new.core c.put_ban.new.acts.items in
    let ban : Ban = c.in-Some.field-0.now in
    oldest_put g.B.ControlBoard.rests s c.put_ban.new.board u w c.put_ban.new.acts.items ban v.kept c.pop_front.new.self.items some c.in-Some.ensures.lookup
    (c.pop_front.ensures.rest ∙ ap (λ (l : List Ban). drop 1 l) c.in_ok-put_ban.ensures.kept) (subst (λ b. Makes g.B.ControlBoard.rests (PutsOrNot ban b) s m) yes c.in_ok-put_ban.ensures.did) refl
