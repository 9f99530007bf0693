use Rattle.std.proofs.Common.{sym, ap, ◌∙◌}
use Rattle.race_board.specs.Keys as keys
use Rattle.race_board.specs.Board.{ban}
use Rattle.race_board.specs.declared.views.View.{View}
use Rattle.board_races.proofs.calls.bans_one.Goals as goal

pub ban-requires-then-not-unban-clause-new : goal.ban-requires-then-not-unban-clause-new
unfolding keys.task_key
ban-requires-then-not-unban-clause-new c =
    let gone = c.if-not-unban.ensures.gone in
    λ j low is_other. gone.1 j low (ap (λ (v : View). (ban v j).parent) (sym gone.0) ∙ is_other)
