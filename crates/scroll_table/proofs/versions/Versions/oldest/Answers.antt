use Rattle.std.proofs.Common.{ap, sym, ◌∙◌}
use Rattle.std.proofs.lemmas.Option.{IfSome_then}
use Rattle.scroll_table.specs.declared.versions.Kept.{Kept}
use Rattle.scroll_table.specs.Versions.{has_kept}
use Rattle.scroll_table.proofs.versions.Versions.oldest.Goals as goal

pub returns-in-Some-clause-kept : goal.returns-in-Some-clause-kept
returns-in-Some-clause-kept c =
    IfSome_then c.least_of.result c.least_of.ensures.kept
    (λ version p.
    let k : Kept = record { shard = c.args.shard; version = version; id = p.0 } in
    (p.0, sym (ap (λ o. has_kept o k) c.in-Some.ensures.value) ∙ p.1))
