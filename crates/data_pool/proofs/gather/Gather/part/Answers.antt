-- Where memory runs out the part is taken back.
use Rattle.std.proofs.Common.{◌≡◌, true, false, ◌++◌, take, set, sym, subst, ap, ◌∙◌}
use Rattle.std.proofs.Math.Seq.{take-append_seam}
use Rattle.data_pool.specs.Gathered.{Gathered, takes}
use Rattle.data_pool.proofs.Undone.{undone}
use Rattle.data_pool.proofs.gather.Gather.part.Goals as goal

pub returns-clause-err : goal.returns-clause-err
returns-clause-err c =
    let given = c.self.inside.given.items in
    let rows = c.self.inside.rows.items in
    let worker = c.args.worker in
    let seen = c.self-2.view_is ∙ c.in-Err.ensures.err in
    let was = subst (λ (g : Gathered). takes g worker ≡ true) (sym c.self.view_is) c.requires in
    let given_again = ap (λ (g : Gathered). set g.given worker false) seen ∙ undone given worker was in
    let rows_again = c.truncate.ensures.items ∙ ap (λ (g : Gathered). take c.len-before.result g.rows) seen ∙ ap (take c.len-before.result) c.in_ok-append.ensures.items
    ∙ ap (λ n. take n (rows ++ c.args.rows.items)) (c.len-before.ensures ∙ c.self.inside.rows.ok.0) ∙ take-append_seam rows c.args.rows.items in
    (λ i. record { given = given_again i; rows = rows_again i }) ∙ c.self.view_is
