use Rattle.std.proofs.Common.{false, cond, ap, ◌∙◌}
use Rattle.scroll_table.specs.Owners.{owns}
use Rattle.scroll_table.proofs.Ranked.{pair_at}
use Rattle.scroll_table.proofs.owners.Owners.remove.Goals as goal

pub returns-in-Some : goal.returns-in-Some
returns-in-Some c o q =
    c.remove.ensures.updates.0 (record { owner = o; id = q })
    ∙ ap (λ b. cond b false (owns c.args.self.now o q)) (pair_at c.args.owner c.in-Some.owner c.args.id o q c.in-Some.is)
