use Rattle.tasks_api.proofs.Ways.{all_levels}
use Rattle.tasks_api.proofs.levels.no_level_is_missing.Goals as goal

pub returns : goal.returns
returns c = all_levels
