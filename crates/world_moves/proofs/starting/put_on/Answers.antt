use Rattle.std.proofs.Common.{◌≡◌, ◌≢◌, ◌<◌, Ok, Err, length, subst, ◌∙◌}
use Rattle.std.specs.Prelude.{Result, OnOk, IsErrOf}
use Rattle.std.proofs.lemmas.Option.{get_or_from_slice_get}
use Rattle.task_table.specs.Table.{Table}
use Rattle.world_moves.specs.Moves.{greatest_number}
use Rattle.world_moves.proofs.starting.put_on.Goals as goal

not_refused : {A E : Type 0} (r : Result A E) (e : E) (P : Type 0) → (P → IsErrOf r e) → OnOk r (P → ⊥)
not_refused (Ok a) e P f = λ p. let x = f p in absurd (cc)
not_refused (Err x) e P f = tt

pub returns-clause-free : goal.returns-clause-free
returns-clause-free c = λ table e.
    let same = c.index_mut.ensures.value ∙ get_or_from_slice_get c.args.tables.now.items _ table _ e in
    subst (λ (x : Table). OnOk c.put.result (length x.live ≢ x.slots)) same (not_refused c.put.result _ _ c.put.ensures.full.1)

pub returns-clause-full : goal.returns-clause-full
returns-clause-full c = λ table e r.
    let same = c.index_mut.ensures.value ∙ get_or_from_slice_get c.args.tables.now.items _ table _ e in
    subst (λ (x : Table). length x.live ≡ x.slots) same (c.put.ensures.full.0 r)

pub returns-clause-spent : goal.returns-clause-spent
unfolding greatest_number
returns-clause-spent c = λ table e r.
    let same = c.index_mut.ensures.value ∙ get_or_from_slice_get c.args.tables.now.items _ table _ e in
    subst (λ (x : Table). (length x.live < x.slots) × (x.last ≡ greatest_number)) same (c.put.ensures.spent.0 r)
