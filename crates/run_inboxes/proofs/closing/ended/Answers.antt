use Rattle.std.proofs.Common.{List, [], ◌∷◌, ◌++◌, sym, ap, ◌∙◌, subst, append_assoc}
use Rattle.node_link.specs.Inbox.{LeftBy}
use Rattle.run_inboxes.specs.Pairs.{Pairwise}
use Rattle.run_inboxes.proofs.Pairs.{pairs_push}
use Rattle.run_inboxes.proofs.closing.ended.Goals as goal

pub loop-sender-preserved : goal.loop-sender-preserved
loop-sender-preserved g c =
    let i = c.loop-sender.invariant in
    let x = c.in-Some.sender in
    let before = c.loop-sender.yielded in (
      tt,
      tt,
      append_assoc before (x ∷ []) c.next.new.self.rest.items ∙ ap (λ (l : List _). before ++ l) (sym c.in-Some.ensures.steps.0) ∙ i.2,
      subst (λ (l : List _). Pairwise LeftBy (before ++ x ∷ []) l) (sym c.in_ok-push.ensures.items) (pairs_push LeftBy before c.loop-sender.ends.items x c.end.result i.3 c.end.ensures),
    )
