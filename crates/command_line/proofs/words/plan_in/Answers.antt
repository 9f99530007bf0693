use Rattle.std.proofs.Common.{◌∙◌, ap, codes, subst, sym}
use Rattle.clap.specs.Matches.{found_of}
use Rattle.clap.specs.Simple.{subcommand_rows_of}
use Rattle.clap.specs.Walk.{rows_of}
use Rattle.command_line.specs.Plan.{number_of, run_in, size_in}
use Rattle.command_line.specs.Takes.{HasNumber, HasRun, HasSize}
use Rattle.command_line.proofs.TakenWords.{asked_gen, asked_run, asked_sim, is_gen, is_run, is_sim, no_other, parts_met}
use Rattle.command_line.proofs.words.plan_in.Goals as goal

pub cluster_in-requires : goal.cluster_in-requires
cluster_in-requires c =
    let p = c.requires.found.0 in
    let met = parts_met c.args.matches.now p c.in_ok-name.name.now (rows_of (found_of c.in_ok-name.arguments.now)) c.requires.found.1 c.in_ok-name.ensures.name c.in_ok-name.ensures.rows in
    record { sizes = subst HasSize met.1 (is_sim p c.requires.found.2 (met.0 ∙ c.in-sim.is)) }

pub number_in-requires : goal.number_in-requires
number_in-requires c =
    let p = c.requires.found.0 in
    let met = parts_met c.args.matches.now p c.in_ok-name.name.now (rows_of (found_of c.in_ok-name.arguments.now)) c.requires.found.1 c.in_ok-name.ensures.name c.in_ok-name.ensures.rows in
    record { number = subst HasNumber met.1 (is_gen p c.requires.found.2 (met.0 ∙ c.in-gen.is)) }

pub returns-in_ok-cluster_in-in-sim-clause-plan : goal.returns-in_ok-cluster_in-in-sim-clause-plan
returns-in_ok-cluster_in-in-sim-clause-plan c =
    let p = c.requires.found.0 in
    let met = parts_met c.args.matches.now p c.in_ok-name.name.now (rows_of (found_of c.in_ok-name.arguments.now)) c.requires.found.1 c.in_ok-name.ensures.name c.in_ok-name.ensures.rows in
    let size = c.in_ok-cluster_in-in-sim.ensures in
    asked_sim (subcommand_rows_of c.args.matches.now) p _ c.requires.found.1 (met.0 ∙ c.in-sim.is) (ap size_in met.1 ∙ size.2 ∙ sym size.1)

pub returns-in_ok-number_in-in-gen-clause-plan : goal.returns-in_ok-number_in-in-gen-clause-plan
returns-in_ok-number_in-in-gen-clause-plan c =
    let p = c.requires.found.0 in
    let met = parts_met c.args.matches.now p c.in_ok-name.name.now (rows_of (found_of c.in_ok-name.arguments.now)) c.requires.found.1 c.in_ok-name.ensures.name c.in_ok-name.ensures.rows in
    let number = c.in_ok-number_in-in-gen.ensures in
    asked_gen (subcommand_rows_of c.args.matches.now) p _ c.requires.found.1 (met.0 ∙ c.in-gen.is) (ap (number_of (codes "number")) met.1 ∙ number.2 ∙ sym number.1)

pub run_in-requires : goal.run_in-requires
run_in-requires c =
    let p = c.requires.found.0 in
    let met = parts_met c.args.matches.now p c.in_ok-name.name.now (rows_of (found_of c.in_ok-name.arguments.now)) c.requires.found.1 c.in_ok-name.ensures.name c.in_ok-name.ensures.rows in
    record { run = subst HasRun met.1 (is_run p c.requires.found.2 (met.0 ∙ c.in-run.is)) }

pub returns-in_ok-run_in-in-run-clause-plan : goal.returns-in_ok-run_in-in-run-clause-plan
returns-in_ok-run_in-in-run-clause-plan c =
    let p = c.requires.found.0 in
    let met = parts_met c.args.matches.now p c.in_ok-name.name.now (rows_of (found_of c.in_ok-name.arguments.now)) c.requires.found.1 c.in_ok-name.ensures.name c.in_ok-name.ensures.rows in
    asked_run (subcommand_rows_of c.args.matches.now) p _ c.requires.found.1 (met.0 ∙ c.in-run.is) (ap run_in met.1 ∙ c.in_ok-run_in-in-run.ensures.plan)

pub returns-in_default-clause-some : goal.returns-in_default-clause-some
returns-in_default-clause-some c =
    let p = c.requires.found.0 in
    let met = parts_met c.args.matches.now p c.in_ok-name.name.now (rows_of (found_of c.in_ok-name.arguments.now)) c.requires.found.1 c.in_ok-name.ensures.name c.in_ok-name.ensures.rows in
    absurd (no_other p c.requires.found.2 (λ sim. c.in_default.not-sim (sym met.0 ∙ sim)) (λ run. c.in_default.not-run (sym met.0 ∙ run)) (λ gen. c.in_default.not-gen (sym met.0 ∙ gen)))
