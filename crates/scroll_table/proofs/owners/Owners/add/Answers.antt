use Rattle.std.proofs.Common.{true, cond, ap, ◌∙◌}
use Rattle.scroll_table.specs.Owners.{owns}
use Rattle.scroll_table.proofs.Ranked.{pair_at}
use Rattle.scroll_table.proofs.owners.Owners.add.Goals as goal

pub returns-in_ok-insert-clause-ok : goal.returns-in_ok-insert-clause-ok
returns-in_ok-insert-clause-ok c o q =
    c.in_ok-insert.ensures.updates.0 (record { owner = o; id = q })
    ∙ ap (λ b. cond b true (owns c.args.self.now o q)) (pair_at c.args.owner c.in-Some.owner c.args.id o q c.in-Some.is)
