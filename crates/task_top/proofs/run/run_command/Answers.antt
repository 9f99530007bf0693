use Rattle.std.proofs.Common.{◌≡◌, ◌≤◌, ◌<◌, arith, length, ◌+◌, List, [], ◌∷◌, ◌++◌, Option, OnOk, subst, sym, rules}
use Rattle.std.proofs.lemmas.Option.{slice_get_within}
use Rattle.task_events.specs.Cancels.{last_command}
use Rattle.script_lang.specs.declared.command.Script.{Script}
use Rattle.line_print.specs.declared.note.Note.{Note}
use Rattle.task_top.specs.Progress.{HasCome}
use Rattle.task_top.proofs.ProgressLemmas.{has_come, stops_in_command}
use Rattle.task_top.proofs.run.run_command.Goals as goal

pub returns-clause-ok : goal.returns-clause-ok
returns-clause-ok c =
    let pushed : c.push.new.self.items ≡ c.args.found.now.items ++ c.in_ok-note.note ∷ [] = search rules in
    subst (λ (items : List (Option Note)). OnOk c.command.result (HasCome c.args.script.now (c.args.place + 1) items c.command.new.self)) (sym pushed)
    (has_come c.args.script.now c.args.place c.args.found.now.items c.args.world.now c.command.new.self c.requires.come c.in_ok-note.note c.args.command.now c.requires.next c.in_ok-note.ensures.ok c.command.ensures.keeps
    c.command.result c.command.ensures.done c.command.ensures.turn c.command.ensures.number c.command.ensures.goes_on)

pub returns-clause-early : goal.returns-clause-early
returns-clause-early c =
    stops_in_command c.args.script.now c.args.place c.args.found.now.items c.args.world.now c.command.new.self.past c.requires.come c.command.result c.command.ensures.part c.command.ensures.cause

-- a command that is still to come is one of the script
pub note_of-requires-clause-before : goal.note_of-requires-clause-before
note_of-requires-clause-before c =
    let come = c.requires.come in
    let there : c.args.place < length c.args.script.now.commands = slice_get_within c.args.script.now.commands c.args.place c.args.command.now c.requires.next in
    subst (λ (script : Script). last_command c.args.world.now.past ≤ length script.commands) (sym come.reads) (omega (arith, come.last, there))
