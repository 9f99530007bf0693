use Rattle.std.proofs.Common.{◌∙◌, length-take, length-drop, arith}
use Rattle.es_io.proofs.Writing.{appends_more}
use Rattle.es_io.proofs.whole.write_all_of.Goals as goal

pub loop-sent-preserved : goal.loop-sent-preserved
loop-sent-preserved g c = record {
  within = omega (arith, simp (length-take, length-drop) at c.in-Ok.ensures.within);
  taken = appends_more _ _ _ c.args.bytes.now c.loop-sent.sent c.in-Ok.n c.loop-sent.invariant.taken c.in-Ok.ensures.taken;
  quiet = c.in-Ok.ensures.quiet ∙ c.loop-sent.invariant.quiet;
}
