use Rattle.std.proofs.Common.{rules, ◌<◌, ◌+◌, ℕ, List, [], ◌∷◌, ◌++◌, length, length-append, append_assoc, reverse, sym, ap, ◌∙◌, subst, arith}
use Rattle.run_inboxes.proofs.Pairs.{pop_is}
use Rattle.run_cluster.proofs.Dealing.{turned_round}
use Rattle.run_cluster.proofs.places.take_off.Goals as goal

pub unwrap-own-requires : goal.unwrap-own-requires
unwrap-own-requires g c =
    let i = c.loop.invariant in
    let enough = i.1 in
    let low : c.loop.counter < c.args.count = search rules in
    c.pop.ensures.variant.1 (subst (λ (n : ℕ). 0 < n) (sym c.loop.pile.ok.0) (omega arith))

pub loop-preserved : goal.loop-preserved
loop-preserved g c =
    let i = c.loop.invariant in
    let x = c.unwrap-own.result in
    let taken = c.loop.taken.items in
    let rest = c.pop.new.self.items in
    let enough = i.1 in
    let popped = pop_is _ _ _ _ c.pop.ensures.items c.unwrap-own.ensures in
    let one = ap length popped ∙ length-append rest (x ∷ []) in
    let items = c.in_ok-push.ensures.items in (
      ap length items ∙ length-append taken (x ∷ []) ∙ ap (λ (n : ℕ). n + 1) i.0,
      omega arith,
      i.2 ∙ ap (λ (l : List _). taken ++ l) (turned_round _ rest x popped) ∙ sym (append_assoc taken (x ∷ []) (reverse rest)) ∙ ap (λ (l : List _). l ++ reverse rest) (sym items),
    )
