-- The keys, sorted, are in hit order, and the winners are cut from them within their length.
use Rattle.std.proofs.Common.{sym, ap, ◌∙◌, take, drop, map}
use Rattle.std.proofs.lemmas.List.{take-map, drop-map}
use Rattle.std.proofs.lemmas.Result.{IfOk-weaker}
use Rattle.search_phase.proofs.Parts.{cut_within}
use Rattle.search_phase.proofs.Ordered.{in_hit_order-now}
use Rattle.search_phase.proofs.merging.cut_keys.Goals as goal

pub returns : goal.returns
returns c =
    let sorted = ap (map (λ key. key.now)) c.deref.ensures.value ∙ in_hit_order-now c.args.keys.items c.sort_unstable.new.self.items c.sort_unstable.ensures.permutation c.sort_unstable.ensures.sorted in
    let cut = cut_within c.deref.result.now c.len.result c.min-start.result c.min-end.result c.args.from c.args.size (c.len.ensures ∙ sym c.deref.ensures.len) c.min-start.ensures (c.min-end.ensures ∙ ap (λ n. Rattle.std.specs.Prelude.min n (Rattle.std.specs.Prelude.◌+◌ c.min-start.result c.args.size)) (c.len-2.ensures ∙ sym c.len.ensures)) in
    IfOk-weaker c.copy_keys.result _ _
    (λ copies e. e ∙ ap (map (λ key. key.now)) cut
    ∙ sym (take-map (λ key. key.now) c.args.size (drop c.args.from c.deref.result.now)) ∙ ap (take c.args.size) (sym (drop-map (λ key. key.now) c.args.from c.deref.result.now) ∙ ap (drop c.args.from) sorted))
    c.copy_keys.ensures
