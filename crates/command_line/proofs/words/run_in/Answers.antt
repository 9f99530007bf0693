-- The number of data workers, where it was given.
use Rattle.std.proofs.Common.{◌∙◌, None, Some, ap, arith, sym}
use Rattle.std.specs.Prelude.{codes, option_map}
use Rattle.std.specs.Str.Parse.{ParsesUnsigned, ExplainsUnsignedError, HasUnsignedDigitsIfOk}
use Rattle.clap.specs.Matches.{found_of}
use Rattle.clap.specs.Walk.{rows_of}
use Rattle.command_line.specs.Plan.{run_with, size_in}
use Rattle.command_line.proofs.NumbersRead.{given, left_out}
use Rattle.command_line.proofs.words.run_in.Goals as goal

pub returns-in-Some-clause-plan : goal.returns-in-Some-clause-plan
returns-in-Some-clause-plan c =
    let rows = rows_of (found_of c.args.options.now) in
    let size = c.in_ok-cluster.ensures in
    let data_is = given (λ text r. ParsesUnsigned 32 10 text r × ExplainsUnsignedError 10 text r × HasUnsignedDigitsIfOk text r) 32 (λ text r read. read.0)
    4 (codes "data") (found_of c.args.options.now) c.get_one.result c.in-Some.workers (omega arith) c.requires.run.workers c.get_one.ensures.none c.get_one.ensures.value c.in-Some.is in
    ap (λ n. option_map (run_with n) (size_in rows)) data_is.2 ∙ ap (option_map (run_with (Some c.in-Some.workers))) (size.2 ∙ sym size.1)

pub returns-in-Some-clause-workers : goal.returns-in-Some-clause-workers
returns-in-Some-clause-workers c =
    let data_is = given (λ text r. ParsesUnsigned 32 10 text r × ExplainsUnsignedError 10 text r × HasUnsignedDigitsIfOk text r) 32 (λ text r read. read.0)
    4 (codes "data") (found_of c.args.options.now) c.get_one.result c.in-Some.workers (omega arith) c.requires.run.workers c.get_one.ensures.none c.get_one.ensures.value c.in-Some.is in
    (data_is.0, data_is.1)

pub returns-in-None-clause-plan : goal.returns-in-None-clause-plan
returns-in-None-clause-plan c =
    let rows = rows_of (found_of c.args.options.now) in
    let size = c.in_ok-cluster.ensures in
    let none = left_out (λ text r. ParsesUnsigned 32 10 text r × ExplainsUnsignedError 10 text r × HasUnsignedDigitsIfOk text r) 32 (λ text r read. read.0)
    4 (codes "data") (found_of c.args.options.now) c.get_one.result (omega arith) c.requires.run.workers c.get_one.ensures.value c.in-None.is in
    ap (λ n. option_map (run_with n) (size_in rows)) none ∙ ap (option_map (run_with None)) (size.2 ∙ sym size.1)
