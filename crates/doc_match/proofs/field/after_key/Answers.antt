use Rattle.std.proofs.Common.{Bor, List, ℕ, option_map, ap, ◌∙◌}
use Rattle.doc_match.proofs.Members.{no_prefix, behind_key}
use Rattle.doc_match.proofs.field.after_key.Goals as goal

pub returns-in_err-strip_prefix : goal.returns-in_err-strip_prefix
returns-in_err-strip_prefix c =
    ap (option_map (λ (x : Bor (List ℕ)). x.now)) c.from_residual.ensures ∙ no_prefix c.args.key.now c.args.field.now c.in_err-strip_prefix.ensures.cases

pub returns : goal.returns
returns c =
    behind_key c.args.key.now c.args.field.now c.in_ok-strip_prefix.field-0.now c.strip_prefix-2.result c.in_ok-strip_prefix.ensures.cases c.strip_prefix-2.ensures.cases
