use Rattle.std.proofs.Common.{rules}
use Rattle.std.proofs.lemmas.Fn.{filter_same}
use Rattle.cancel_core.proofs.entry.keep_waiting.Goals as goal

pub returns : goal.returns
returns c = filter_same _ (λ w. w.wait) _ (λ x b f' k. search rules) _ _ c.retain.ensures.filtered
