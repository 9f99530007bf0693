use Rattle.es_io.proofs.Reading.{split_more, split_same, split_drop}
use Rattle.es_io.proofs.whole.read_all.Goals as goal

pub returns-in_err-n-clause-rest : goal.returns-in_err-n-clause-rest
returns-in_err-n-clause-rest g c =
    split_drop _ _ _ (split_same _ _ _ _ c.loop-text.invariant.split c.in_err-n.ensures.kept)

pub returns-then-n-eq0-clause-rest : goal.returns-then-n-eq0-clause-rest
returns-then-n-eq0-clause-rest g c =
    split_drop _ _ _ (split_more _ _ _ _ c.read.new.buf c.in_ok-n.n c.loop-text.invariant.split c.in_ok-n.ensures.next c.in_ok-n.ensures.taken)

pub returns-then-n-limit-clause-rest : goal.returns-then-n-limit-clause-rest
returns-then-n-limit-clause-rest g c =
    split_drop _ _ _ (split_more _ _ _ _ c.read.new.buf c.in_ok-n.n c.loop-text.invariant.split c.in_ok-n.ensures.next c.in_ok-n.ensures.taken)

pub returns-in_err-extend_from_slice-clause-rest : goal.returns-in_err-extend_from_slice-clause-rest
returns-in_err-extend_from_slice-clause-rest g c =
    split_drop _ _ _ (split_more _ _ _ _ c.read.new.buf c.in_ok-n.n c.loop-text.invariant.split c.in_ok-n.ensures.next c.in_ok-n.ensures.taken)
