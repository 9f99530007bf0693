-- The line of each command is added.
use Rattle.std.proofs.Common.{sym, ◌∙◌, ap, subst, ◌++◌, length, take, Bor}
use Rattle.std.specs.Prelude.{flat_map, zip}
use Rattle.std.proofs.lemmas.List.{length_push}
use Rattle.std.proofs.lemmas.Slice.Zip.{zip_turn, zip_end}
use Rattle.script_lang.specs.declared.command.Command.{Command}
use Rattle.line_print.specs.RunLines.{IsPrintable}
use Rattle.run_book.specs.declared.entry.LineNote.{LineNote}
use Rattle.run_top.specs.Lines.{line_by}
use Rattle.run_top.proofs.Printing.{pair_more, all_pairs}
use Rattle.run_top.proofs.lines.print_notes.Goals as goal

pub loop-command-init : goal.loop-command-init
loop-command-init c = c.new-text.ensures.items

pub print_reply-requires : goal.print_reply-requires
print_reply-requires c =
    let pair : Bor Command × Bor LineNote = (c.in-Some.command, c.in-Some.note) in
    let turn = zip_turn c.args.script.now c.args.notes.now c.loop-command.yielded c.into_iter-command-iterator.result c.loop-command.command-iterator c.next.new.self c.next.result (cc) (cc) c.loop-command.yielded_by pair c.in-Some.is c.next.ensures.steps in
    record { moment = subst (λ (note : LineNote). IsPrintable note.reply) (sym (turn.3 c.in-Some.note.now)) (c.requires.moments (length c.loop-command.yielded) c.in-Some.note.now turn.1) }

pub loop-command-preserved : goal.loop-command-preserved
loop-command-preserved c =
    let line = line_by c.args.cluster.now c.args.script.now in
    let script = c.args.script.now in
    let notes = c.args.notes.now in
    let command = c.in-Some.command.now in
    let note = c.in-Some.note.now in
    let before = c.loop-command.yielded in
    let pair : Bor Command × Bor LineNote = (c.in-Some.command, c.in-Some.note) in
    let turn = zip_turn script notes before c.into_iter-command-iterator.result c.loop-command.command-iterator c.next.new.self c.next.result (cc) (cc) c.loop-command.yielded_by pair c.in-Some.is c.next.ensures.steps in
    c.in_ok-print_reply.ensures ∙ ap (λ t. t ++ line (command, note)) c.loop-command.invariant
    ∙ sym (ap (λ n. flat_map line (take n (zip script notes))) (length_push before pair)
    ∙ pair_more line script notes (length before) command note turn.0 turn.1 (turn.2 command) (turn.3 note))

pub returns : goal.returns
returns c =
    let end = zip_end c.args.script.now c.args.notes.now c.loop-command.yielded c.into_iter-command-iterator.result c.loop-command.command-iterator c.next.new.self c.next.result (cc) (cc) c.loop-command.yielded_by c.in-None.is c.next.ensures.steps in
    c.loop-command.invariant ∙ all_pairs (line_by c.args.cluster.now c.args.script.now) c.args.script.now c.args.notes.now (length c.loop-command.yielded) end
