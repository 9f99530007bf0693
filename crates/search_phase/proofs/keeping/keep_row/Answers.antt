-- A row that does not stand before the last key is not kept; where there is room it is.
use Rattle.std.proofs.Common.{◌≡◌, ◌∷◌, true, false, take, length, sym, ap, ◌∙◌, subst, arith}
use Rattle.std.specs.Ordering.{is_lt}
use Rattle.task_events.specs.Answers.{hit_key}
use Rattle.task_events.specs.HitOrder.{placed, hit_cmp, in_hit_order}
use Rattle.search_phase.proofs.HitKeys.{stands_first, hit_cmp_total}
use Rattle.search_phase.proofs.Kept.{stays_out, all_fit}
use Rattle.search_phase.proofs.Ordered.{turned}
use Rattle.search_phase.proofs.keeping.keep_row.Goals as goal

pub returns-then-not-is_lt-clause-keys : goal.returns-then-not-is_lt-clause-keys
returns-then-not-is_lt-clause-keys c =
    let key = hit_key c.args.ask.now.body c.args.ask.now.shard (c.args.place, c.args.doc.now) in
    let last = c.in-Some.last.now in
    let not_before : is_lt (hit_cmp key last) ≡ false = ap is_lt (sym c.compare_row.ensures) ∙ sym c.is_lt.ensures ∙ c.if-not-is_lt.true in
    let stands : stands_first last key ≡ true = turned (hit_cmp last key) (hit_cmp key last) (hit_cmp_total.antisymm last key) not_before in
    let full : length c.args.first.now.data.items ≡ c.args.most = omega (arith, c.args.first.now.data.ok.0, c.requires.few, c.len.ensures, c.if-most-len.true) in
    stays_out key last c.args.first.now.data.items (c.in-Some.ensures.greatest c.requires.ordered) stands
    ∙ ap (λ n. take n (placed key (in_hit_order c.args.first.now.data.items))) full

pub returns-clause-keys : goal.returns-clause-keys
returns-clause-keys c =
    all_fit (hit_key c.args.ask.now.body c.args.ask.now.shard (c.args.place, c.args.doc.now) ∷ c.args.first.now.data.items) c.push.new.self.data.items c.args.most
    (subst (λ key. Rattle.std.proofs.Common.IsPermutation (key ∷ c.args.first.now.data.items) c.push.new.self.data.items) c.in_ok-key_of_row.ensures c.in_ok-push.ensures.permutation)
    (omega (arith, c.args.first.now.data.ok.0, c.if-most-len.false, c.len.ensures))
