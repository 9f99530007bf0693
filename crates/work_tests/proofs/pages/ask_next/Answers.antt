-- The next number is above those of all asks, whether one more was asked for or not.
use Rattle.std.proofs.Common.{◌≡◌, ℕ, ◌+◌, true, sym, subst}
use Rattle.search_phase.specs.Searching.{Searching, is_above}
use Rattle.work_tests.proofs.AskedAbove.{above_more, above_asked}
use Rattle.work_tests.proofs.pages.ask_next.Goals as goal

pub returns-in_default : goal.returns-in_default
returns-in_default c = above_more c.args.number c.args.root.now.asked c.requires

pub returns : goal.returns
returns c =
    subst (λ (u : Searching). is_above (c.args.number + 1) u.asked ≡ true) (sym c.asked.ensures) (above_asked c.args.root.now c.args.number c.requires)
