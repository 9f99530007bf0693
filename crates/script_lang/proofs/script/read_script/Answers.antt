use Rattle.std.proofs.Common.{◌≡◌, ◌<◌, IsTrue, length, true, false, eqb, ap, ◌∙◌, sym, arith}
use Rattle.std.proofs.lemmas.Result.{err_from_is_err_and}
use Rattle.std.specs.Str.Lines.{lines}
use Rattle.shard_docs.specs.Fault.{on_line}
use Rattle.shard_docs.specs.Json.{is_text}
use Rattle.shard_docs.proofs.RunningOut.{ok_at}
use Rattle.shard_docs.proofs.TextLines.{begins_after, begins_at}
use Rattle.script_lang.specs.Answers.{same_error}
use Rattle.script_lang.specs.Script.{max_commands}
use Rattle.script_lang.proofs.Fitting.{script_fits}
use Rattle.script_lang.proofs.LineLemmas.{read_at_end, after_empty, command_fails, goes_on, short_here, short_after, text_of_command}
use Rattle.script_lang.proofs.RunningOut.{tells_at, short_at}
use Rattle.script_lang.proofs.script.read_script.Goals as goal
use Rattle.script_lang.proofs.script.read_script.Goals.{then-not-is_empty+in_ok-command+in-Ok, else-not-is_empty}

pub returns-in_err-command-clause-gives : goal.returns-in_err-command-clause-gives
returns-in_err-command-clause-gives c =
    let some : eqb (length c.in-Some.text.now) 0 ≡ false = sym c.is_empty.ensures ∙ c.if-not-is_empty.true in
    let p = err_from_is_err_and c.from_residual.result c.from_residual.ensures.1 in
    rw (p.1, p.2)
    (command_fails c.args.mode c.args.cluster.now.nodes c.loop-text.number c.loop-text.commands (lines c.loop-text.rest.now) _ c.loop-text.invariant.reads c.in-Some.text.now (lines c.in-Some.after.now) c.in-Some.ensures.found some
    (same_error c.in_err-command.field-0.0)
    (tells_at c.loop-text.number c.command_of_line-read.result _ c.in_err-command.field-0.0 c.in_err-command.ensures (rw c.as_slice-before.ensures at c.command_of_line-read.ensures.command)))

pub returns-in_err-command-clause-memory : goal.returns-in_err-command-clause-memory
returns-in_err-command-clause-memory c =
    let some : eqb (length c.in-Some.text.now) 0 ≡ false = sym c.is_empty.ensures ∙ c.if-not-is_empty.true in
    let p = err_from_is_err_and c.from_residual.result c.from_residual.ensures.1 in
    rw (p.1, p.2)
    (short_at c.loop-text.number ((length c.loop-text.commands < 65535) × IsTrue (is_text c.in-Some.text.now)) _ c.command_of_line-read.result c.in_err-command.field-0.0 c.in_err-command.ensures
    (rw c.as_slice-before.ensures at c.command_of_line-read.ensures.memory)
    (λ facts.
    short_here c.args.mode c.args.cluster.now.nodes c.loop-text.number c.loop-text.commands (lines c.loop-text.rest.now) _ c.loop-text.invariant.reads c.in-Some.text.now (lines c.in-Some.after.now) c.in-Some.ensures.found some facts.0 facts.1))

pub returns-in_err-command-clause-begins : goal.returns-in_err-command-clause-begins
returns-in_err-command-clause-begins c =
    let some : eqb (length c.in-Some.text.now) 0 ≡ false = sym c.is_empty.ensures ∙ c.if-not-is_empty.true in
    let p = err_from_is_err_and c.from_residual.result c.from_residual.ensures.1 in
    rw (p.1, p.2)
    (short_at c.loop-text.number ((length c.loop-text.commands < 65535) × IsTrue (is_text c.in-Some.text.now)) _ c.command_of_line-read.result c.in_err-command.field-0.0 c.in_err-command.ensures
    (rw c.as_slice-before.ensures at c.command_of_line-read.ensures.memory)
    (λ facts. c.loop-text.invariant.begins (begins_at c.in-Some.text.now (lines c.loop-text.rest.now) (lines c.in-Some.after.now) c.in-Some.ensures.found some facts.1)))

pub returns-in_default-push-clause-memory : goal.returns-in_default-push-clause-memory
returns-in_default-push-clause-memory c =
    let some : eqb (length c.in-Some.text.now) 0 ≡ false = sym c.is_empty.ensures ∙ c.if-not-is_empty.true in
    let read = ok_at c.loop-text.number (λ x. x) c.command_of_line-read.result _ c.in_ok-command.command c.in_ok-command.ensures (rw c.as_slice-before.ensures at c.command_of_line-read.ensures.command) in
    short_after c.args.mode c.args.cluster.now.nodes c.loop-text.number c.loop-text.commands (lines c.loop-text.rest.now) _ c.loop-text.invariant.reads c.in-Some.text.now (lines c.in-Some.after.now) c.in-Some.ensures.found some
    c.in_ok-command.command (ap (on_line c.loop-text.number) read)

pub returns-in_default-push-clause-begins : goal.returns-in_default-push-clause-begins
returns-in_default-push-clause-begins c =
    let some : eqb (length c.in-Some.text.now) 0 ≡ false = sym c.is_empty.ensures ∙ c.if-not-is_empty.true in
    let read = ok_at c.loop-text.number (λ x. x) c.command_of_line-read.result _ c.in_ok-command.command c.in_ok-command.ensures c.command_of_line-read.ensures.command in
    c.loop-text.invariant.begins
    (begins_at c.in-Some.text.now (lines c.loop-text.rest.now) (lines c.in-Some.after.now) c.in-Some.ensures.found some
    (text_of_command c.args.mode c.args.cluster.now.nodes c.loop-text.number _ c.in-Some.text.now c.in_ok-command.command (ap (on_line c.loop-text.number) read)))

pub loop-text-preserved : goal.loop-text-preserved
loop-text-preserved c = record {
  reads = elim c.if-not-is_empty.branch [
    | then-not-is_empty+in_ok-command+in-Ok w ↦
        let some : eqb (length c.in-Some.text.now) 0 ≡ false = sym c.is_empty.ensures ∙ w.if-not-is_empty.true in
        let read = ok_at c.loop-text.number (λ x. x) w.command_of_line-read.result _ w.in_ok-command.command w.in_ok-command.ensures (rw w.as_slice-before.ensures at w.command_of_line-read.ensures.command) in
        rw (w.commands-is, w.in-Ok.ensures.ok)
        (goes_on c.args.mode c.args.cluster.now.nodes c.loop-text.number c.loop-text.commands (lines c.loop-text.rest.now) _ c.loop-text.invariant.reads c.in-Some.text.now (lines c.in-Some.after.now) c.in-Some.ensures.found some
        w.in_ok-command.command (ap (on_line c.loop-text.number) read))
    | else-not-is_empty w ↦
        let empty : eqb (length c.in-Some.text.now) 0 ≡ true = sym c.is_empty.ensures ∙ w.if-not-is_empty.false in
        rw w.commands-is
        (after_empty c.args.mode c.args.cluster.now.nodes c.loop-text.number c.loop-text.commands (lines c.loop-text.rest.now) _ c.loop-text.invariant.reads c.in-Some.text.now (lines c.in-Some.after.now) c.in-Some.ensures.found empty)
  ];
  begins = elim c.if-not-is_empty.branch [
    | then-not-is_empty+in_ok-command+in-Ok w ↦
        let some : eqb (length c.in-Some.text.now) 0 ≡ false = sym c.is_empty.ensures ∙ w.if-not-is_empty.true in
        let read = ok_at c.loop-text.number (λ x. x) w.command_of_line-read.result _ w.in_ok-command.command w.in_ok-command.ensures w.command_of_line-read.ensures.command in
        λ _. c.loop-text.invariant.begins
        (begins_at c.in-Some.text.now (lines c.loop-text.rest.now) (lines c.in-Some.after.now) c.in-Some.ensures.found some
        (text_of_command c.args.mode c.args.cluster.now.nodes c.loop-text.number _ c.in-Some.text.now w.in_ok-command.command (ap (on_line c.loop-text.number) read)))
    | else-not-is_empty w ↦
        let empty : eqb (length c.in-Some.text.now) 0 ≡ true = sym c.is_empty.ensures ∙ w.if-not-is_empty.false in
        λ text. c.loop-text.invariant.begins (begins_after c.in-Some.text.now (lines c.loop-text.rest.now) (lines c.in-Some.after.now) c.in-Some.ensures.found empty text)
  ];
  fits = omega (arith, c.in-Some.ensures.shorter);
}

pub returns-clause-gives : goal.returns-clause-gives
returns-clause-gives c =
    read_at_end c.args.mode c.args.cluster.now.nodes c.loop-text.number c.loop-text.commands (lines c.loop-text.rest.now) _ c.loop-text.invariant.reads (ap lines c.in_default.ensures.found)

pub returns-clause-fits : goal.returns-clause-fits
returns-clause-fits c =
    (script_fits c.args.mode c.args.cluster.now.nodes c.args.line (lines c.args.bytes.now) c.loop-text.commands (c.args.cluster.now.nodes_in_range.0)
    (read_at_end c.args.mode c.args.cluster.now.nodes c.loop-text.number c.loop-text.commands (lines c.loop-text.rest.now) _ c.loop-text.invariant.reads (ap lines c.in_default.ensures.found))).0

pub returns-clause-few : goal.returns-clause-few
unfolding max_commands
returns-clause-few c =
    (script_fits c.args.mode c.args.cluster.now.nodes c.args.line (lines c.args.bytes.now) c.loop-text.commands (c.args.cluster.now.nodes_in_range.0)
    (read_at_end c.args.mode c.args.cluster.now.nodes c.loop-text.number c.loop-text.commands (lines c.loop-text.rest.now) _ c.loop-text.invariant.reads (ap lines c.in_default.ensures.found))).1
