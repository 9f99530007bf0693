use Rattle.std.proofs.Common.{◌+◌, IsTrue, arith}
use Rattle.std.proofs.lemmas.Result.{err_from_is_err_and}
use Rattle.shard_docs.specs.Corpus.{noted}
use Rattle.shard_docs.specs.Json.{is_text}
use Rattle.shard_docs.specs.Seen.{has_name}
use Rattle.shard_docs.proofs.RunningOut.{noting_runs_out, ok_at, short_at, source_runs_out}
use Rattle.shard_docs.proofs.TextLines.{said}
use Rattle.shard_docs.proofs.corpus.document_of.Goals as goal

pub returns-in_err-read_at-clause-memory : goal.returns-in_err-read_at-clause-memory
returns-in_err-read_at-clause-memory c =
    let p = err_from_is_err_and c.from_residual.result c.from_residual.ensures.1 in
    let there = has_name c.args.action.index c.args.action.id c.args.seen.now in
    rw (p.1, p.2)
    (short_at c.args.number (Unit {0}) _ c.note.result c.in_err-read_at.field-0.0 c.in_err-read_at.ensures (said (Unit {0}) c.note.result tt)
    (λ _. (omega arith, noting_runs_out c.args.number there c.args.action c.args.source.now)))

pub returns-in_err-source-clause-memory : goal.returns-in_err-source-clause-memory
returns-in_err-source-clause-memory c =
    let p = err_from_is_err_and c.from_residual-in_err-source.result c.from_residual-in_err-source.ensures.1 in
    let there = has_name c.args.action.index c.args.action.id c.args.seen.now in
    let known = ok_at c.args.number (λ _. tt) c.note.result (noted there c.args.action) c.in_ok-read_at.field-0 c.in_ok-read_at.ensures c.note.ensures.reads in
    rw (p.1, p.2)
    (short_at (c.args.number + 1) (IsTrue (is_text c.args.source.now)) _ c.source_of_line.result c.in_err-source.field-0.0 c.in_err-source.ensures c.source_of_line.ensures.memory
    (λ text. (omega arith, source_runs_out c.args.number there c.args.action c.args.source.now tt known text)))
