use Rattle.std.proofs.Common.{List, [], ◌∷◌, ◌++◌, sym, ap, ◌∙◌, subst, append_assoc}
use Rattle.std.proofs.lemmas.List.{map-append}
use Rattle.run_inboxes.specs.Pairs.{Pairwise}
use Rattle.run_inboxes.specs.Closed.{AllLeft}
use Rattle.run_inboxes.proofs.Pairs.{pairs_push}
use Rattle.run_inboxes.proofs.closing.taken_apart.Goals as goal

pub loop-ends-preserved : goal.loop-ends-preserved
loop-ends-preserved g c =
    let i = c.loop-ends.invariant in
    let x = c.in-Some.ends in
    let before = c.loop-ends.yielded in (
      tt,
      tt,
      append_assoc before (x ∷ []) c.next.new.self.rest.items ∙ ap (λ (l : List _). before ++ l) (sym c.in-Some.ensures.steps.0) ∙ i.2,
      c.in_ok-push.ensures.items ∙ ap (λ (l : List _). l ++ x.inbox ∷ []) i.3 ∙ sym (map-append (λ e. e.inbox) before (x ∷ [])),
      subst (λ (l : List _). Pairwise AllLeft (before ++ x ∷ []) l) (sym c.in_ok-push-2.ensures.items) (pairs_push AllLeft before c.loop-ends.rows.items x c.in_ok-ended.field-0 i.4 c.in_ok-ended.ensures),
    )
