-- The rows were sorted by id, those of one id in their order.
use Rattle.std.proofs.Common.{◌∙◌, ap, rules}
use Rattle.std.proofs.lemmas.List.Sorted.{answers_always}
use Rattle.data_pool.proofs.IdOrder.{sorted_by_id}
use Rattle.data_pool.proofs.gather.Gather.take_all.Goals as goal

pub returns-clause-all : goal.returns-clause-all
returns-clause-all c =
    let sort = c.in_ok-sort_by_key.ensures in
    rw (← c.self.view_is)
    (ap (λ v. v.items) c.replace.ensures.value
    ∙ sorted_by_id c.self.inside.rows.items c.sort_by_key.new.self.items
    (sort.sorted (λ row. row.id) (answers_always _ _ _ (λ f a r g h. search rules)))
    (sort.stable (λ row. row.id) (answers_always _ _ _ (λ f a r g h. search rules))))
