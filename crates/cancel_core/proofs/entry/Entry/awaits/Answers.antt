use Rattle.std.proofs.Common.{◌≡◌, ℕ, true, false, not, eq-eqb, List, Contains, arith, ap, sym, subst, ◌∙◌}
use Rattle.cancel_core.specs.Stage.{is_open_at}
use Rattle.cancel_core.proofs.Nodes.{node_awaited, awaited_node, open_below}
use Rattle.cancel_core.proofs.entry.Entry.awaits.Goals as goal

pub returns-then-node-ne0 : goal.returns-then-node-ne0
returns-then-node-ne0 c =
    let nodes = ap (λ v. v.awaited) c.self.view_is in (
      (λ open_there.
          let passes = sym c.is_open_at.ensures ∙ open_there in
          subst (λ (ns : List ℕ). Contains ns c.args.node) nodes
          (awaited_node (is_open_at c.self.inside.stage) c.args.node (omega arith, open_below c.self.inside.stage c.args.node passes) passes)),
      (λ within. c.is_open_at.ensures ∙ (node_awaited (is_open_at c.self.inside.stage) c.args.node (subst (λ (ns : List ℕ). Contains ns c.args.node) (sym nodes) within)).1),
    )

pub returns-else-node-ne0 : goal.returns-else-node-ne0
returns-else-node-ne0 c =
    let nodes = ap (λ v. v.awaited) c.self.view_is in (
      (λ other. let wrong : false ≡ true = sym (ap not (eq-eqb _ _ c.if-node-ne0.false)) ∙ other in absurd (cc)),
      (λ within.
          let node = (node_awaited (is_open_at c.self.inside.stage) c.args.node (subst (λ (ns : List ℕ). Contains ns c.args.node) (sym nodes) within)).0 in
          absurd (omega (arith, node.0))),
    )
