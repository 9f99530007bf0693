use Rattle.std.proofs.Common.{◌∙◌}
use Rattle.child_track.specs.NodeSet.{all_nodes}
use Rattle.cancel_core.specs.Stage.{is_open_at}
use Rattle.cancel_core.proofs.Placed.{none_passes}
use Rattle.cancel_core.proofs.stage.Stage.is_placed.Goals as goal

pub returns : goal.returns
returns c = c.is_open_nowhere.ensures ∙ none_passes (is_open_at c.args.self.now) all_nodes
