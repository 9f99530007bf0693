use Rattle.task_laws.proofs.cancels_answered.Goals as goal

pub returns : goal.returns
returns c = λ cluster. record {
  placed = λ d h l. ((l.0.due.placed_once, l.0.due.done_once, l.0.due.found), l.0.kind);
  done = λ d h l. ((l.0.due.placed_once, l.0.due.done_once, l.0.due.found), l.0.kind);
  named = λ d t w h l. ((l.0.not_placed, l.0.not_done, l.0.not_missing), l.0.live, l.0.once);
  one_kind = λ d t w o h l. l.0.one_kind o;
}
