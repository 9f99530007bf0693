use Rattle.std.proofs.Common.{◌≡◌, true}
use Rattle.search_phase.specs.Searching.{is_above}
use Rattle.work_tests.proofs.pages.page.Given as goal

abbrev pub invariant-loop-number : goal.invariant-loop-number
invariant-loop-number l = is_above l.number l.root.asked ≡ true
