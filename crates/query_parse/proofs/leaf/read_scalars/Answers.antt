use Rattle.std.proofs.Common.{Ok, Some, sym, ap, ◌∙◌}
use Rattle.query_parse.specs.Paths.{path_text}
use Rattle.query_match.specs.Values.{value_of}
use Rattle.query_parse.proofs.Each.{goes_on_at, ends_at, is_done_at}
use Rattle.query_parse.proofs.leaf.read_scalars.Goals as goal

pub returns-in-None : goal.returns-in-None
returns-in-None c =
    ends_at value_of (path_text c.args.path.now) c.loop-i.read.items c.loop-i.i c.args.values.now c.index-values-i.result _ c.fault.result (path_text c.place.result)
    c.loop-i-test.true c.index-values-i.is c.in-None.ensures c.loop-i.invariant c.place.ensures c.fault.ensures

pub loop-i-preserved : goal.loop-i-preserved
loop-i-preserved c =
    rw c.in_ok-push-in-Some.ensures.items
    (goes_on_at value_of (path_text c.args.path.now) c.loop-i.read.items c.loop-i.i c.args.values.now c.index-values-i.result _ _ c.loop-i-test.true c.index-values-i.is (ap Some c.in_ok-kept-in-Some.ensures ∙ c.in-Some.ensures) c.loop-i.invariant)

pub returns : goal.returns
returns c = is_done_at value_of (path_text c.args.path.now) c.loop-i.read.items c.loop-i.i c.args.values.now _ c.loop-i-test.false c.loop-i.invariant ∙ ap Ok (sym c.from_vec.ensures)
