use Rattle.std.proofs.Common.{◌∙◌, ap, map, string_bytes, subst, sym, true≢false}
use Rattle.command_line.specs.Plan.{asked_in}
use Rattle.command_line.specs.Takes.{IsFound}
use Rattle.command_line.proofs.TakenWords.{asked_where, told}
use Rattle.command_line.proofs.words.plan.Goals as goal

pub plan_in-requires : goal.plan_in-requires
plan_in-requires c = record { found = subst IsFound (sym c.in_ok-matches.ensures.rows) (told (map string_bytes c.args.words.now) c.in_ok-matches.ensures.takes) }

pub returns-in-Some-clause-plan : goal.returns-in-Some-clause-plan
returns-in-Some-clause-plan c = asked_where (map string_bytes c.args.words.now) c.in_ok-matches.ensures.takes ∙ ap asked_in (sym c.in_ok-matches.ensures.rows) ∙ c.in-Some.ensures.plan

pub returns-clause-usage : goal.returns-clause-usage
returns-clause-usage c usage = absurd (true≢false (sym c.in-None.ensures.some))
