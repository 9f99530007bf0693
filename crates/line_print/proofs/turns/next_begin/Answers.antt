use Rattle.std.proofs.Common.{◌≡◌, Some, ap, sym, ◌∙◌, option_copied, reverse, slice_get, arith}
use Rattle.line_print.proofs.PassLemmas.{begins_here, passed_on}
use Rattle.line_print.proofs.turns.next_begin.Goals as goal

pub returns-then-is_begin-clause-place : goal.returns-then-is_begin-clause-place
returns-then-is_begin-clause-place c =
    let here : slice_get (reverse c.args.history.now) c.loop-at.at ≡ Some c.in-Some.event.now = sym c.get.ensures ∙ ap option_copied c.in-Some.is in
    sym (c.loop-at.invariant.none ∙ begins_here (reverse c.args.history.now) c.loop-at.at c.in-Some.event.now here (sym c.if-is_begin.ensures))

pub loop-at-preserved : goal.loop-at-preserved
loop-at-preserved c =
    let here : slice_get (reverse c.args.history.now) c.loop-at.at ≡ Some c.in-Some.event.now = sym c.get.ensures ∙ ap option_copied c.in-Some.is in
    record {
      later = omega (arith, c.loop-at.invariant.later);
      none = c.loop-at.invariant.none ∙ passed_on (reverse c.args.history.now) c.loop-at.at c.in-Some.event.now here (sym c.if-is_begin.ensures);
      ends = c.in_ok-note_end.ensures (reverse c.args.history.now) here c.loop-at.invariant.ends;
    }
