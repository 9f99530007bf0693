use Rattle.std.proofs.Common.{rules, sym, ◌∙◌, ap}
use Rattle.script_lang.specs.Generator.{next_number, documents}
use Rattle.script_lang.proofs.GeneratorLemmas.{next_step, one_document, then_more}
use Rattle.script_lang.proofs.generator.write_documents.Goals as goal

pub loop-id-init : goal.loop-id-init
unfolding documents
loop-id-init c = search rules

pub loop-id-preserved : goal.loop-id-preserved
loop-id-preserved c =
    let moved = c.next_number-chance.ensures ∙ ap next_number c.loop-id.invariant.moved ∙ sym (next_step c.args.number c.loop-id.id) in
    record {
      written = then_more _ _ _ _ _ _ c.loop-id.invariant.written c.in_ok-write_document.ensures (one_document c.args.number c.loop-id.id c.next_number-chance.result moved);
      moved = moved;
    }
