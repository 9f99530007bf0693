-- A change that is not in conflict is written, and noted as an update.
use Rattle.std.proofs.Common.{◌≡◌, [], ◌∷◌, false, cond, sym, ap, ◌∙◌, rules}
use Rattle.task_events.specs.Written.{notes_of}
use Rattle.by_query.specs.Changes.{is_in_conflict, doc_of}
use Rattle.by_query.proofs.ChangeLemmas.{noted_as_update}
use Rattle.by_query.proofs.writing.write_one.Goals as goal

pub returns-clause-note : goal.returns-clause-note
returns-clause-note c =
    let change = c.args.change in
    let writes = c.args.shard.now.writes in
    let free : is_in_conflict c.args.change c.args.shard.now.writes ≡ false = sym c.is_in_conflict.ensures ∙ c.if-is_in_conflict.false in
    let index : c.in_ok-index.index ≡ c.args.index.now = search rules in
    let id : c.in_ok-noted.noted ≡ c.args.change.id = search rules in
    (λ i. record { index = index i; shard = c.args.number; created = false; id = id i } ∷ [])
    ∙ ap (λ n. n ∷ []) (sym (noted_as_update c.args.index.now c.args.number change writes free))
    ∙ sym (ap (λ b. notes_of c.args.index.now c.args.number writes (cond b [] (doc_of change ∷ []))) free)
