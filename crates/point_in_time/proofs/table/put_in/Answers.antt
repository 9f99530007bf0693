use Rattle.std.proofs.Common.{◌≡◌, List, ℕ, false, cond, ap, subst, ◌∙◌}
use Rattle.task_events.specs.declared.context.Context.{Context}
use Rattle.scroll_table.specs.declared.versions.Kept.{Kept}
use Rattle.scroll_table.specs.Versions.{keeps, is_kept_by}
use Rattle.scroll_table.proofs.Versioned.{none_noted, version_added, version_back}
use Rattle.point_in_time.proofs.table.put_in.Goals as goal

pub add-requires : goal.add-requires
add-requires c = record { fresh = none_noted c.args.versions.now c.args.contexts.now c.args.id c.requires.versions c.requires.fresh }

pub returns-in_err-add-clause-versions : goal.returns-in_err-add-clause-versions
returns-in_err-add-clause-versions c i k = c.in_err-add.ensures.err i k ∙ c.requires.versions i k

pub returns-in-Ok-clause-versions : goal.returns-in-Ok-clause-versions
returns-in-Ok-clause-versions c =
    version_added c.args.versions.now c.args.contexts.now c.insert.new.self c.args.id c.requires.versions c.add.new.self c.args.context c.requires.fresh c.in-Ok.ensures.updates.0 c.in_ok-add.ensures.ok

pub returns-clause-versions : goal.returns-clause-versions
returns-clause-versions c =
    let removed = subst (λ (d : Context). (i : List ℕ) (k : Kept) → keeps c.remove.new.self i k ≡ cond (is_kept_by c.args.id d i k) false (keeps c.add.new.self i k)) (ap (λ p. p.1) c.in-Err.ensures.value_returned) c.remove.ensures in
    version_back c.args.versions.now c.add.new.self c.remove.new.self c.args.contexts.now c.insert.new.self c.args.id c.args.context c.requires.versions c.requires.fresh c.in-Err.ensures.err c.in_ok-add.ensures.ok removed
