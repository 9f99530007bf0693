use Rattle.std.proofs.Common.{rules, ◌≡◌, ◌++◌, refl, sym, subst}
use Rattle.std.proofs.lemmas.Result.{err_from_is_err_and}
use Rattle.node_link.specs.declared.body.Body.{Body}
use Rattle.node_link.specs.Inbox.{TookOne}
use Rattle.node_worker.proofs.Works.{did_turn, halted_told, halted_at, halted_turn}
use Rattle.node_worker.proofs.desk.Desk.take_one.Goals as goal

pub returns-in-Err-clause-halted : goal.returns-in-Err-clause-halted
returns-in-Err-clause-halted g c = halted_told g.T.Turns.did _ _ c.in-Some.letter c.in-Err.stop c.in-Err.ensures c.in-Some.ensures.same c.in-Some.ensures.taken refl

pub returns-in_err-posts-clause-halted : goal.returns-in_err-posts-clause-halted
returns-in_err-posts-clause-halted g c =
    let p = err_from_is_err_and c.from_residual.result c.from_residual.ensures.1 in
    rw (p.1, p.2) (halted_at g.T.Turns.did _ _ c.in-Some.letter _ c.in-Some.ensures.same c.in-Some.ensures.taken refl)

pub returns-in_err-keep-clause-halted : goal.returns-in_err-keep-clause-halted
returns-in_err-keep-clause-halted g c =
    let p = err_from_is_err_and c.from_residual-in_err-keep.result c.from_residual-in_err-keep.ensures.1 in
    let one : TookOne c.args.self.now.inbox c.next_letter.new.inbox c.in-Ok.body = subst (λ (l : Body). TookOne c.args.self.now.inbox c.next_letter.new.inbox l) (sym c.in-Ok.ensures.0) c.in-Some.ensures.taken in
    rw (p.1, p.2) (halted_turn g.T.Turns.did _ _ c.in-Ok.body c.in_ok-posts.posts.items _ c.in-Ok.ensures.1 c.in_ok-posts.ensures.did c.in-Some.ensures.same one refl)

pub returns-clause-did : goal.returns-clause-did
returns-clause-did g c =
    let one : TookOne c.args.self.now.inbox c.next_letter.new.inbox c.in-Ok.body = subst (λ (l : Body). TookOne c.args.self.now.inbox c.next_letter.new.inbox l) (sym c.in-Ok.ensures.0) c.in-Some.ensures.taken in
    let kept : c.keep.new.kept.items ≡ c.args.self.now.kept.items ++ c.in_ok-posts.posts.items = search rules in
    did_turn g.T.Turns.did _ _ c.in-Ok.body c.in_ok-posts.posts.items c.in-Ok.ensures.1 c.in_ok-posts.ensures.did c.in-Some.ensures.same one refl kept
