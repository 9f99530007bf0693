use Rattle.std.proofs.Common.{◌+◌, ℕ, List, [], ◌∷◌, ◌++◌, length, length-append, sym, ap, ◌∙◌, subst}
use Rattle.run_inboxes.specs.Pairs.{Pairwise}
use Rattle.run_inboxes.specs.Ends.{IsOpened}
use Rattle.run_inboxes.proofs.Pairs.{pairs_push}
use Rattle.run_inboxes.proofs.opening.open.Goals as goal

pub loop-preserved : goal.loop-preserved
loop-preserved g c =
    let i = c.loop.invariant in
    let e = c.in_ok-row.ensures in
    let r = c.in_ok-row.own in
    let row = c.in_ok-row.row in
    let new : IsOpened c.args.capacity c.args.count r row = record { made = e.count.1; long = sym row.ok.0 ∙ e.count.0; room = e.room; taken = e.empty; lead = e.lead } in
    let both = pairs_push (IsOpened c.args.capacity c.args.count) c.loop.inboxes.items c.loop.senders.items r row i.1 new in (
      ap length c.in_ok-push.ensures.items ∙ length-append c.loop.inboxes.items (r ∷ []) ∙ ap (λ (n : ℕ). n + 1) i.0,
      subst (λ (l : List _). Pairwise (IsOpened c.args.capacity c.args.count) l c.push-in-loop.new.self.items) (sym c.in_ok-push.ensures.items)
          (subst (λ (l : List _). Pairwise (IsOpened c.args.capacity c.args.count) (c.loop.inboxes.items ++ r ∷ []) l) (sym c.in_ok-push-2.ensures.items) both),
    )
