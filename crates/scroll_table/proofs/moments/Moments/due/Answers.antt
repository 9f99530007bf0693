use Rattle.std.proofs.Common.{◌≡◌, None, arith, length, refl, sym, ap, ◌∙◌}
use Rattle.std.proofs.lemmas.Option.{slice_get_read, get_or_from_slice_get}
use Rattle.scroll_table.specs.Moments.{is_due, node_at}
use Rattle.scroll_table.proofs.NoneDue.{none_due}
use Rattle.scroll_table.proofs.moments.Moments.due.Goals.{then-self-eq0-via-then-self-eq0, then-self-eq0-via-else-self-eq0+then-not-is_due}
use Rattle.scroll_table.proofs.moments.Moments.due.Goals as goal

pub returns-then-self-eq0-clause-none : goal.returns-then-self-eq0-clause-none
returns-then-self-eq0-clause-none c place within =
    let nodes = c.args.self.now.nodes.items in
    elim c.then-self-eq0.branch [
      | then-self-eq0-via-then-self-eq0 w ↦ absurd (omega arith)
      | then-self-eq0-via-else-self-eq0+then-not-is_due w ↦
          let first : node_at nodes 1 ≡ w.index.result.now = get_or_from_slice_get nodes 1 w.index.result.now None (slice_get_read nodes (length nodes) 1 w.index.result.now refl (omega (arith, c.requires.sized)) w.index.ensures) in
          none_due c.args.now c.args.self.now c.requires (ap (is_due c.args.now) first ∙ sym w.is_due.ensures ∙ w.if-not-is_due.true) place within
    ]
