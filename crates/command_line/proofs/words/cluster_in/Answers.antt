use Rattle.std.proofs.Common.{arith, refl}
use Rattle.std.specs.Prelude.{codes}
use Rattle.std.specs.Str.Parse.{ParsesUnsigned, ExplainsUnsignedError, HasUnsignedDigitsIfOk}
use Rattle.clap.specs.Matches.{found_of}
use Rattle.clap.specs.Walk.{rows_of}
use Rattle.command_line.proofs.NumbersRead.{option_none, option_some}
use Rattle.command_line.proofs.TakenWords.{sized}
use Rattle.command_line.proofs.words.cluster_in.Goals as goal

pub returns-in_err-get_one : goal.returns-in_err-get_one
returns-in_err-get_one c = absurd (option_none (λ text r. ParsesUnsigned 32 10 text r × ExplainsUnsignedError 10 text r × HasUnsignedDigitsIfOk text r) 32 (λ text r read. read.0)
    15 (codes "nodes") (found_of c.args.options.now) c.get_one.result (omega arith) c.requires.sizes.nodes c.get_one.ensures.value (c.in_err-get_one.was))

pub returns-in_err-get_one-2 : goal.returns-in_err-get_one-2
returns-in_err-get_one-2 c = absurd (option_none (λ text r. ParsesUnsigned 32 10 text r × ExplainsUnsignedError 10 text r × HasUnsignedDigitsIfOk text r) 32 (λ text r read. read.0)
    15 (codes "shards") (found_of c.args.options.now) c.get_one-2.result (omega arith) c.requires.sizes.shards c.get_one-2.ensures.value (c.in_err-get_one-2.was))

pub returns-in_err-get_one-3 : goal.returns-in_err-get_one-3
returns-in_err-get_one-3 c = absurd (option_none (λ text r. ParsesUnsigned 32 10 text r × ExplainsUnsignedError 10 text r × HasUnsignedDigitsIfOk text r) 32 (λ text r read. read.0)
    1024 (codes "slots") (found_of c.args.options.now) c.get_one-3.result (omega arith) c.requires.sizes.slots c.get_one-3.ensures.value (c.in_err-get_one-3.was))

pub invariant_of-result : goal.invariant_of-result
invariant_of-result c =
    let nodes = option_some (λ text r. ParsesUnsigned 32 10 text r × ExplainsUnsignedError 10 text r × HasUnsignedDigitsIfOk text r) 32 (λ text r read. read.0)
    15 (codes "nodes") (found_of c.args.options.now) c.get_one.result c.in_ok-get_one.field-0 (omega arith) c.requires.sizes.nodes c.get_one.ensures.value (c.in_ok-get_one.was) in
    let shards = option_some (λ text r. ParsesUnsigned 32 10 text r × ExplainsUnsignedError 10 text r × HasUnsignedDigitsIfOk text r) 32 (λ text r read. read.0)
    15 (codes "shards") (found_of c.args.options.now) c.get_one-2.result c.in_ok-get_one-2.field-0 (omega arith) c.requires.sizes.shards c.get_one-2.ensures.value (c.in_ok-get_one-2.was) in
    let slots = option_some (λ text r. ParsesUnsigned 32 10 text r × ExplainsUnsignedError 10 text r × HasUnsignedDigitsIfOk text r) 32 (λ text r read. read.0)
    1024 (codes "slots") (found_of c.args.options.now) c.get_one-3.result c.in_ok-get_one-3.field-0 (omega arith) c.requires.sizes.slots c.get_one-3.ensures.value (c.in_ok-get_one-3.was) in
    record {
      nodes_in_range = (nodes.0, nodes.1);
      shards_in_range = (shards.0, shards.1);
      slots_in_range = (slots.0, slots.1);
    }

pub returns : goal.returns
returns c =
    let nodes = option_some (λ text r. ParsesUnsigned 32 10 text r × ExplainsUnsignedError 10 text r × HasUnsignedDigitsIfOk text r) 32 (λ text r read. read.0)
    15 (codes "nodes") (found_of c.args.options.now) c.get_one.result c.in_ok-get_one.field-0 (omega arith) c.requires.sizes.nodes c.get_one.ensures.value (c.in_ok-get_one.was) in
    let shards = option_some (λ text r. ParsesUnsigned 32 10 text r × ExplainsUnsignedError 10 text r × HasUnsignedDigitsIfOk text r) 32 (λ text r read. read.0)
    15 (codes "shards") (found_of c.args.options.now) c.get_one-2.result c.in_ok-get_one-2.field-0 (omega arith) c.requires.sizes.shards c.get_one-2.ensures.value (c.in_ok-get_one-2.was) in
    let slots = option_some (λ text r. ParsesUnsigned 32 10 text r × ExplainsUnsignedError 10 text r × HasUnsignedDigitsIfOk text r) 32 (λ text r read. read.0)
    1024 (codes "slots") (found_of c.args.options.now) c.get_one-3.result c.in_ok-get_one-3.field-0 (omega arith) c.requires.sizes.slots c.get_one-3.ensures.value (c.in_ok-get_one-3.was) in
    (_, refl, sized (rows_of (found_of c.args.options.now)) _ _ _ nodes.2 shards.2 slots.2)
