use Rattle.std.proofs.Common.{◌∙◌, ap}
use Rattle.world_moves.specs.Cancels.{with_answer}
use Rattle.world_steps.proofs.NamingEnds.{begins_naming, counts_begin}
use Rattle.world_steps.proofs.WholeNaming.{named_part, named_cut, answer_part, answer_cut}
use Rattle.world_steps.proofs.cancel_commands.cancel_tasks.Goals as goal

pub name_all-requires-clause-tied : goal.name_all-requires-clause-tied
name_all-requires-clause-tied c =
    let s = c.args.state.now in
    let tied = c.requires.tied in
    record { ties = tied.ties; cancels = tied.cancels; counts = counts_begin s.cluster s.history c.args.number c.requires.begun tied.ties.lawful _ tied.counts; tells = tied.tells; pages = tied.pages; shards = tied.shards; awaits = tied.awaits; oldest = tied.oldest; reads = tied.reads }

pub name_all-requires-clause-naming : goal.name_all-requires-clause-naming
name_all-requires-clause-naming c =
    let s = c.args.state.now in
    begins_naming s.cluster s.history c.args.number c.requires.begun c.requires.tied.ties.lawful c.args.wait

pub returns-in-Err-clause-part : goal.returns-in-Err-clause-part
returns-in-Err-clause-part c = named_part c.args.number c.args.wait c.args.tasks.now c.args.state.now.history c.name_all.new.state.history c.in-Err.ensures.part

pub returns-in-Err-clause-full : goal.returns-in-Err-clause-full
returns-in-Err-clause-full c = λ failed. named_cut c.args.number c.args.wait c.args.tasks.now c.args.state.now.history c.name_all.new.state.history (c.in-Err.ensures.full failed)

pub returns-in-Ok-answer_if_due-clause-happened : goal.returns-in-Ok-answer_if_due-clause-happened
returns-in-Ok-answer_if_due-clause-happened c = c.in-Ok-answer_if_due.ensures.happened ∙ ap (with_answer c.args.number c.args.wait) c.in-Ok.ensures.happened

pub returns-in-Err-answer_if_due-clause-part : goal.returns-in-Err-answer_if_due-clause-part
returns-in-Err-answer_if_due-clause-part c =
    answer_part c.args.number c.args.wait c.args.tasks.now c.args.state.now.history c.answer_if_due.new.state.history (c.in-Err-answer_if_due.ensures.err ∙ c.in-Ok.ensures.happened)

pub returns-in-Err-answer_if_due-clause-full : goal.returns-in-Err-answer_if_due-clause-full
returns-in-Err-answer_if_due-clause-full c = λ failed.
    let found = c.in-Err-answer_if_due.ensures.full failed in
    answer_cut c.args.number c.args.wait c.args.tasks.now c.args.state.now.history c.name_all.new.state.history c.answer_if_due.new.state.history c.in-Ok.ensures.happened c.in-Err-answer_if_due.ensures.err found.0 found.1
