-- The ban that is found is the parent's, since ids that compare as equal are one.
use Rattle.std.proofs.Common.{arith, ◌≡◌, sym, ◌∙◌}
use Rattle.std.proofs.lemmas.Grind.{common_steps}
use Rattle.task_ids.proofs.SameId.{same_id-from_test}
use Rattle.node_boards.proofs.plain_rows.find_placed.Goals as goal

pub returns-in-Some : goal.returns-in-Some
returns-in-Some c =
    let same : c.in-Some.ban.parent ≡ c.args.parent = same_id-from_test _ _ (sym c.eq.ensures ∙ c.if-eq.true) in
    (grind (arith, common_steps), grind (arith, common_steps), same)
