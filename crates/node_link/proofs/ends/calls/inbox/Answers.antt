use Rattle.std.proofs.Common.{arith, ◌≡◌, ℕ, [], Some, length, ap, ◌∙◌, sym, subst}
use Rattle.std.specs.Prelude.{slice_get}
use Rattle.crossbeam_channel.specs.Ends.{sends_on}
use Rattle.node_link.specs.declared.ends.Sender.{Sender}
use Rattle.node_link.specs.Rule.{one_more}
use Rattle.node_link.specs.Inbox.{put}
use Rattle.node_link.proofs.Moves.{begins, forks}
use Rattle.node_link.proofs.Counts.{each_more}
use Rattle.node_link.proofs.ends.calls.inbox.Goals as goal

pub bounded_with-requires-clause-rule : goal.bounded_with-requires-clause-rule
bounded_with-requires-clause-rule g c = begins _

pub another-seat-requires-clause-rule : goal.another-seat-requires-clause-rule
another-seat-requires-clause-rule g c = forks _ _ (ap (λ v. v.gets) c.loop-number.invariant.1)

pub loop-number-preserved : goal.loop-number-preserved
loop-number-preserved g c =
    let i = c.loop-number.invariant in
    let P : ℕ → Sender g.row.L.Denot → Type 0 = λ k s. (sends_on s.port ≡ sends_on c.in_ok-first.first) × (s.number ≡ k) × (put s ≡ []) in
    let new = c.new_sender.ensures in
    let long : length c.loop-number.all.items ≡ c.loop-number.number = sym c.loop-number.all.ok.0 ∙ i.2 in (
      c.another-seat.ensures.channel.0,
      c.another-seat.ensures.rule.0 ∙ ap one_more i.1,
      (let l = c.in_ok-push.ensures.len in let n = i.2 in omega arith),
      subst (λ xs. (k : ℕ) (s : Sender g.row.L.Denot) → slice_get xs k ≡ Some s → P k s) (sym c.in_ok-push.ensures.items)
          (each_more P c.loop-number.all.items c.new_sender.result i.3 (new.0 ∙ c.in_ok-port.ensures, new.1 ∙ sym long, new.2)),
    )
