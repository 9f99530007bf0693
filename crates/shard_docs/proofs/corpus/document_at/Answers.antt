use Rattle.std.proofs.Common.{IsTrue, arith}
use Rattle.std.proofs.lemmas.Result.{err_from_is_err_and}
use Rattle.std.specs.Str.Lines.{lines}
use Rattle.shard_docs.specs.BulkAction.{action_of}
use Rattle.shard_docs.specs.Json.{is_text}
use Rattle.shard_docs.specs.Seen.{has_name}
use Rattle.shard_docs.proofs.RunningOut.{action_runs_out, document_runs_out, ok_at, short_at, short_so}
use Rattle.shard_docs.proofs.TextLines.{text_of_action}
use Rattle.shard_docs.proofs.corpus.document_at.Goals as goal

pub returns-in_err-action-clause-memory : goal.returns-in_err-action-clause-memory
returns-in_err-action-clause-memory c =
    let p = err_from_is_err_and c.from_residual.result c.from_residual.ensures.1 in
    rw (p.1, p.2)
    (short_at c.args.number (IsTrue (is_text c.args.line.now)) _ c.action_of_line.result c.in_err-action.field-0.0 c.in_err-action.ensures c.action_of_line.ensures.memory
    (λ text. (omega arith, text, action_runs_out c.args.number (λ index id. has_name index id c.args.seen.now) c.args.line.now (lines c.args.after.now) text)))

pub returns-in_err-document-clause-memory : goal.returns-in_err-document-clause-memory
returns-in_err-document-clause-memory c =
    let p = err_from_is_err_and c.from_residual-in_err-document.result c.from_residual-in_err-document.ensures.1 in
    let action = c.in_ok-action.action in
    let read = ok_at c.args.number (λ x. x) c.action_of_line.result (action_of c.args.number c.args.line.now) action c.in_ok-action.ensures c.action_of_line.ensures.action in
    let text = text_of_action c.args.line.now c.args.number action read in
    rw (p.1, p.2)
    (short_so _ _ c.in_err-document.field-0.0
    (λ at short. (short.0, text, document_runs_out c.args.number (λ index id. has_name index id c.args.seen.now) c.args.line.now (lines c.args.after.now) at action (c.in_ok-source.source.now, lines c.in_ok-source.left.now) read c.in_ok-source.ensures.gives short.1))
    c.in_err-document.ensures.memory)
