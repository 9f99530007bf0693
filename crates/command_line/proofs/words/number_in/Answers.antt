use Rattle.std.proofs.Common.{arith}
use Rattle.std.specs.Str.Parse.{ParsesUnsigned, ExplainsUnsignedError, HasUnsignedDigitsIfOk}
use Rattle.clap.specs.Matches.{found_of}
use Rattle.command_line.proofs.NumbersRead.{number_read}
use Rattle.command_line.proofs.words.number_in.Goals as goal

pub returns : goal.returns
returns c =
    number_read (λ text r. ParsesUnsigned 64 10 text r × ExplainsUnsignedError 10 text r × HasUnsignedDigitsIfOk text r) 64 (λ text r read. read.0)
    (found_of c.args.arguments.now) c.get_one.result (omega arith) c.requires.number c.get_one.ensures.value
