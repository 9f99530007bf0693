-- The last key stays where the new one does not stand before it, and else goes.
use Rattle.std.proofs.Common.{rules, ◌≡◌, sym, ap, ◌∙◌, take}
use Rattle.task_events.specs.HitOrder.{placed, in_hit_order}
use Rattle.search_phase.proofs.HitKeys.{stands_first}
use Rattle.search_phase.proofs.Kept.{stays_out, takes_top}
use Rattle.search_phase.proofs.keeping.keep_before_last.Goals as goal

stands : (c : goal.After-drop-key-then-le) → stands_first c.in-Some.last.now c.args.key ≡ c.le.result
stands c = search rules

pub returns-then-le-clause-keys : goal.returns-then-le-clause-keys
returns-then-le-clause-keys c =
    stays_out c.args.key c.in-Some.last.now c.args.first.now.data.items (c.in-Some.ensures.greatest c.requires) (stands c ∙ c.if-le.true)
    ∙ ap (λ n. take n (placed c.args.key (in_hit_order c.args.first.now.data.items))) (sym c.args.first.now.data.ok.0)

stands_not : (c : goal.In-Ok) → stands_first c.in-Some.last.now c.args.key ≡ c.le.result
stands_not c = search rules

pub returns-clause-keys : goal.returns-clause-keys
returns-clause-keys c =
    takes_top c.args.key c.in-Some.last.now c.args.first.now.data.items c.pop.new.self.data.items c.push.new.self.data.items c.pop.result (c.pop.ensures.variant.1 (c.in-Some.ensures.variant.0 Rattle.std.specs.Prelude.refl))
    c.pop.ensures.top c.pop.ensures.permutation c.pop.ensures.below_top c.requires c.in-Some.ensures.lookup (stands_not c ∙ c.if-le.false) c.in-Ok.ensures.permutation
    ∙ ap (λ n. take n (placed c.args.key (in_hit_order c.args.first.now.data.items))) (sym c.args.first.now.data.ok.0)
