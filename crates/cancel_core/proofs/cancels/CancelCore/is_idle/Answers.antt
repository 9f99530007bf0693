use Rattle.cancel_core.proofs.Entries.{none_there, none_left}
use Rattle.cancel_core.proofs.cancels.CancelCore.is_idle.Goals as goal

pub returns : goal.returns
returns c = ((λ idle. none_there _ _ c.self.inside.listings _ c.self.view_is (c.is_empty.ensures.0 idle)), (λ none. c.is_empty.ensures.1 (none_left _ _ c.self.inside.listings _ c.self.view_is none)))
