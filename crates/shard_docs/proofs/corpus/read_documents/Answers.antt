use Rattle.std.proofs.Common.{◌≡◌, ◌+◌, [], length, ℕ, List, true, false, eqb, Ok, ap, ◌∙◌, sym, arith}
use Rattle.std.proofs.lemmas.Result.{err_from_is_err_and}
use Rattle.std.specs.Str.{bytes_eq}
use Rattle.std.specs.Str.Lines.{lines}
use Rattle.shard_docs.specs.Corpus.{dashes, documents}
use Rattle.shard_docs.proofs.CorpusLemmas.{found_at_end, after_empty, found_at_dashes, document_fails, short_here, short_after, goes_on, place_is}
use Rattle.shard_docs.proofs.LinesLemmas.{end_of_end}
use Rattle.shard_docs.proofs.NamesLemmas.{names_more}
use Rattle.shard_docs.proofs.RunningOut.{short_so}
use Rattle.shard_docs.proofs.TextLines.{begins_after, begins_at, text_of_next}
use Rattle.shard_docs.proofs.corpus.read_documents.Goals as goal

pub loop-line-preserved-then-is_empty : goal.loop-line-preserved-then-is_empty
loop-line-preserved-then-is_empty c =
    let empty : eqb (length c.in-Some.line.now) 0 ≡ true = sym c.is_empty.ensures ∙ c.if-is_empty.true in
    record {
      reads = after_empty c.loop-line.number c.loop-line.found (lines c.loop-line.rest.now) (documents 1 [] (lines c.args.bytes.now)) c.loop-line.invariant.reads c.in-Some.line.now (lines c.in-Some.after.now) c.in-Some.ensures.found empty;
      begins = λ text. c.loop-line.invariant.begins (begins_after c.in-Some.line.now (lines c.loop-line.rest.now) (lines c.in-Some.after.now) c.in-Some.ensures.found empty text);
      names = c.loop-line.invariant.names;
      ends = end_of_end c.in-Some.after.now c.loop-line.rest.now c.args.bytes.now c.in-Some.ensures.ends c.loop-line.invariant.ends;
      fits = omega (arith, c.in-Some.ensures.shorter);
    }

pub returns-then-eq-clause-gives : goal.returns-then-eq-clause-gives
returns-then-eq-clause-gives c =
    let some : eqb (length c.in-Some.line.now) 0 ≡ false = sym c.is_empty.ensures ∙ c.if-is_empty.false in
    let is_dashes : bytes_eq c.in-Some.line.now dashes ≡ true = sym (c.if-eq.ensures ∙ ap (bytes_eq c.in-Some.line.now) c.as_bytes.ensures.value) in
    found_at_dashes c.loop-line.number c.loop-line.found (lines c.loop-line.rest.now) (documents 1 [] (lines c.args.bytes.now)) c.loop-line.invariant.reads c.in-Some.line.now (lines c.in-Some.after.now) c.in-Some.ensures.found some is_dashes
    ∙ ap Ok (place_is c.args.bytes.now c.in-Some.after.now c.loop-line.found (c.loop-line.number + 1) (end_of_end c.in-Some.after.now c.loop-line.rest.now c.args.bytes.now c.in-Some.ensures.ends c.loop-line.invariant.ends))

pub returns-in_err-document-clause-gives : goal.returns-in_err-document-clause-gives
returns-in_err-document-clause-gives c =
    let some : eqb (length c.in-Some.line.now) 0 ≡ false = sym c.is_empty.ensures ∙ c.if-is_empty.false in
    let no_dashes : bytes_eq c.in-Some.line.now dashes ≡ false = sym (c.if-eq.ensures ∙ ap (bytes_eq c.in-Some.line.now) c.as_bytes.ensures.value) in
    let p = err_from_is_err_and c.from_residual.result c.from_residual.ensures.1 in
    rw (p.1, p.2)
    (document_fails c.loop-line.number c.loop-line.found (lines c.loop-line.rest.now) (documents 1 [] (lines c.args.bytes.now)) c.loop-line.invariant.reads c.in-Some.line.now (lines c.in-Some.after.now) c.in-Some.ensures.found some no_dashes
    c.loop-line.seen c.loop-line.invariant.names c.in_err-document.field-0.0 c.in_err-document.ensures.gives)

pub returns-in_err-document-clause-memory : goal.returns-in_err-document-clause-memory
returns-in_err-document-clause-memory c =
    let some : eqb (length c.in-Some.line.now) 0 ≡ false = sym c.is_empty.ensures ∙ c.if-is_empty.false in
    let no_dashes : bytes_eq c.in-Some.line.now dashes ≡ false = sym (c.if-eq.ensures ∙ ap (bytes_eq c.in-Some.line.now) c.as_bytes.ensures.value) in
    let p = err_from_is_err_and c.from_residual.result c.from_residual.ensures.1 in
    rw (p.1, p.2)
    (short_so _ _ c.in_err-document.field-0.0
    (λ at short.
    short_here c.loop-line.number c.loop-line.found (lines c.loop-line.rest.now) (documents 1 [] (lines c.args.bytes.now)) c.loop-line.invariant.reads c.in-Some.line.now (lines c.in-Some.after.now) c.in-Some.ensures.found some no_dashes
    c.loop-line.seen c.loop-line.invariant.names at short.0 short.2)
    c.in_err-document.ensures.memory)

pub returns-in_err-document-clause-begins : goal.returns-in_err-document-clause-begins
returns-in_err-document-clause-begins c =
    let some : eqb (length c.in-Some.line.now) 0 ≡ false = sym c.is_empty.ensures ∙ c.if-is_empty.false in
    let p = err_from_is_err_and c.from_residual.result c.from_residual.ensures.1 in
    rw (p.1, p.2)
    (short_so _ _ c.in_err-document.field-0.0
    (λ at short. c.loop-line.invariant.begins (begins_at c.in-Some.line.now (lines c.loop-line.rest.now) (lines c.in-Some.after.now) c.in-Some.ensures.found some short.1))
    c.in_err-document.ensures.memory)

pub returns-in_default-push-clause-memory : goal.returns-in_default-push-clause-memory
returns-in_default-push-clause-memory c =
    let some : eqb (length c.in-Some.line.now) 0 ≡ false = sym c.is_empty.ensures ∙ c.if-is_empty.false in
    let no_dashes : bytes_eq c.in-Some.line.now dashes ≡ false = sym (c.if-eq.ensures ∙ ap (bytes_eq c.in-Some.line.now) c.as_bytes.ensures.value) in
    short_after c.loop-line.number c.loop-line.found (lines c.loop-line.rest.now) (documents 1 [] (lines c.args.bytes.now)) c.loop-line.invariant.reads c.in-Some.line.now (lines c.in-Some.after.now) c.in-Some.ensures.found some no_dashes
    c.loop-line.seen c.loop-line.invariant.names _ c.in_ok-document.ensures.gives

pub returns-in_default-push-clause-begins : goal.returns-in_default-push-clause-begins
returns-in_default-push-clause-begins c =
    let some : eqb (length c.in-Some.line.now) 0 ≡ false = sym c.is_empty.ensures ∙ c.if-is_empty.false in
    c.loop-line.invariant.begins
    (begins_at c.in-Some.line.now (lines c.loop-line.rest.now) (lines c.in-Some.after.now) c.in-Some.ensures.found some
    (text_of_next c.in-Some.line.now c.loop-line.number _ (lines c.in-Some.after.now) _ c.in_ok-document.ensures.gives))

pub loop-line-preserved : goal.loop-line-preserved
loop-line-preserved c =
    let some : eqb (length c.in-Some.line.now) 0 ≡ false = sym c.is_empty.ensures ∙ c.if-is_empty.false in
    let no_dashes : bytes_eq c.in-Some.line.now dashes ≡ false = sym (c.if-eq.ensures ∙ ap (bytes_eq c.in-Some.line.now) c.as_bytes.ensures.value) in
    let document = c.in_ok-document.document in
    rw (c.in-Ok.ensures.ok, c.in_ok-document.ensures.noted)
    (record {
      reads =
          goes_on c.loop-line.number c.loop-line.found (lines c.loop-line.rest.now) (documents 1 [] (lines c.args.bytes.now)) c.loop-line.invariant.reads c.in-Some.line.now (lines c.in-Some.after.now) c.in-Some.ensures.found some no_dashes
          c.loop-line.seen c.loop-line.invariant.names document (lines c.in_ok-document.left.now) c.in_ok-document.ensures.gives;
      begins =
          λ _. c.loop-line.invariant.begins
          (begins_at c.in-Some.line.now (lines c.loop-line.rest.now) (lines c.in-Some.after.now) c.in-Some.ensures.found some
          (text_of_next c.in-Some.line.now c.loop-line.number _ (lines c.in-Some.after.now) _ c.in_ok-document.ensures.gives));
      names = names_more c.loop-line.seen c.loop-line.found document c.loop-line.invariant.names;
      ends =
          end_of_end c.in_ok-document.left.now c.in-Some.after.now c.args.bytes.now c.in_ok-document.ensures.ends
          (end_of_end c.in-Some.after.now c.loop-line.rest.now c.args.bytes.now c.in-Some.ensures.ends c.loop-line.invariant.ends);
      fits = omega (arith, c.in-Some.ensures.shorter, c.in_ok-document.ensures.shorter);
    })

pub returns-clause-gives : goal.returns-clause-gives
returns-clause-gives c =
    let nothing : lines c.loop-line.rest.now ≡ [] = ap lines c.in_default.ensures.found in
    found_at_end c.loop-line.number c.loop-line.found (lines c.loop-line.rest.now) (documents 1 [] (lines c.args.bytes.now)) c.loop-line.invariant.reads nothing
    ∙ ap (λ (left : List (List ℕ)). Ok (c.loop-line.found, c.loop-line.number, left)) (sym nothing)
    ∙ ap Ok (place_is c.args.bytes.now c.loop-line.rest.now c.loop-line.found c.loop-line.number c.loop-line.invariant.ends)
