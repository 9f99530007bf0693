use Rattle.std.proofs.Common.{◌≡◌, ◌++◌, ℕ, List, OnOk, subst, map, ap, sym, ◌∙◌}
use Rattle.std.proofs.lemmas.List.{drop_all}
use Rattle.serde_json.specs.View.{items_of}
use Rattle.serde_json.specs.Written.{items_text}
use Rattle.task_events.specs.Printed.{hit_json}
use Rattle.line_print.proofs.PrintLemmas.{items_more}
use Rattle.line_print.proofs.print.push_hits.Goals as goal

pub loop-hit-preserved : goal.loop-hit-preserved
loop-hit-preserved c =
    items_more hit_json c.args.hits.now c.loop-hit.hit-index c.hit-item.result c.loop-hit.later c.loop-hit.out.items c.push_comma.new.out.items c.push_hit.new.out.items _ c.loop-hit-test.true c.hit-item.is c.in_ok-push_comma.ensures c.in_ok-push_hit.ensures c.loop-hit.invariant

pub returns : goal.returns
returns c =
    subst (λ (text : List ℕ). OnOk c.push.result (c.push.new.out.items ≡ text))
    (sym (ap (λ rest. c.loop-hit.out.items ++ items_text c.loop-hit.later (items_of (map hit_json rest))) (drop_all c.loop-hit.hit-index c.args.hits.now c.loop-hit-test.false)) ∙ c.loop-hit.invariant)
    c.push.ensures
