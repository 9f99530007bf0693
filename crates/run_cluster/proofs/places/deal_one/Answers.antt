use Rattle.std.proofs.Common.{◌<◌, ℕ, List, [], ◌∷◌, length, length-append, sym, ap, ◌∙◌, subst, arith}
use Rattle.run_inboxes.proofs.Pairs.{pop_is}
use Rattle.run_cluster.proofs.Dealing.{turned_round}
use Rattle.run_cluster.proofs.places.deal_one.Goals as goal

pub unwrap-control-requires : goal.unwrap-control-requires
unwrap-control-requires g c =
    let many = c.requires in
    c.pop.ensures.variant.1 (subst (λ (n : ℕ). 0 < n) (sym c.args.inboxes.now.ok.0) (omega arith))

pub take_off-requires : goal.take_off-requires
take_off-requires g c =
    let many = c.requires in
    let popped = pop_is _ _ _ _ c.pop.ensures.items c.unwrap-control.ensures in
    let one = ap length popped ∙ length-append c.pop.new.self.items (c.unwrap-control.result ∷ []) in
    omega arith

pub returns-clause-inboxes : goal.returns-clause-inboxes
returns-clause-inboxes g c =
    let popped = pop_is _ _ _ _ c.pop.ensures.items c.unwrap-control.ensures in
    turned_round _ c.pop.new.self.items c.unwrap-control.result popped ∙ ap (λ (l : List _). c.unwrap-control.result ∷ l) c.in_ok-datas.ensures.pile
