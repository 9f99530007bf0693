use Rattle.std.proofs.Common.{◌≡◌, sym, ◌∙◌, ap, arith}
use Rattle.std.specs.Str.Lines.{lines}
use Rattle.top_parts.specs.Reading.{read_lines}
use Rattle.top_parts.proofs.NumberLemmas.{refused_at}
use Rattle.top_parts.proofs.SourceLemmas.{read_as, too_long, told_as}
use Rattle.top_parts.proofs.reading.read_whole.Goals as goal

pub returns-in-Err-TooLong-clause-input : goal.returns-in-Err-TooLong-clause-input
returns-in-Err-TooLong-clause-input g c = too_long c.args.mode c.args.cluster.now (g.S.Source.left c.args.source.now) (rw c.in-Err-TooLong.field-0-is at c.in-Err-TooLong.ensures.longer)

pub returns-in-Ok-read_input-clause-input : goal.returns-in-Ok-read_input-clause-input
returns-in-Ok-read_input-clause-input g c =
    read_as c.args.mode c.args.cluster.now (g.S.Source.left c.args.source.now) c.in-Ok.bytes.items _
    (ap (λ bytes. read_lines c.args.mode c.args.cluster.now.nodes (lines bytes)) (sym c.as_slice.ensures.value) ∙ c.in-Ok-read_input.ensures.gives) c.in-Ok.ensures.all c.in-Ok.ensures.fits

pub returns-in-Err-Bad-clause-input : goal.returns-in-Err-Bad-clause-input
returns-in-Err-Bad-clause-input g c =
    read_as c.args.mode c.args.cluster.now (g.S.Source.left c.args.source.now) c.in-Ok.bytes.items _
    (ap (λ bytes. read_lines c.args.mode c.args.cluster.now.nodes (lines bytes)) (sym c.as_slice.ensures.value) ∙ (rw c.in-Err-Bad.field-0-is at c.in-Err-Bad.ensures.gives)) c.in-Ok.ensures.all c.in-Ok.ensures.fits

pub returns-in-Err-Bad-clause-too_long : goal.returns-in-Err-Bad-clause-too_long
returns-in-Err-Bad-clause-too_long g c =
    let blame = refused_at c.args.mode c.args.cluster.now.nodes (lines c.in-Ok.bytes.items) (c.in-Err-Bad.line, c.in-Err-Bad.cause)
    (ap (λ bytes. read_lines c.args.mode c.args.cluster.now.nodes (lines bytes)) (sym c.as_slice.ensures.value) ∙ (rw c.in-Err-Bad.field-0-is at c.in-Err-Bad.ensures.gives)) in
    told_as _ _ (g.S.Source.left c.args.source.now) (g.S.Source.left c.read_all.new.source) c.in-Ok.ensures.too_long
    (λ given. cc)
    (λ told. let none : c.in-Err-Bad.line ≡ 0 = cc in absurd (omega (arith, blame, none)))
