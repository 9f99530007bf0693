use Rattle.std.proofs.Common.{◌≡◌, length, not, ap, ◌∙◌, arith}
use Rattle.std.specs.Prelude.{count_by}
use Rattle.task_events.specs.declared.request.WriteNote.{WriteNote}
use Rattle.task_events.specs.Looking.{rows_per_turn}
use Rattle.reindex.proofs.WriteLemmas.{counts_and_rest}
use Rattle.reindex.proofs.shard_work.BulkShardWork.turn.Goals as goal

-- all that is counted and all that is left fits
pub invariant_of-self-2 : goal.invariant_of-self-2
invariant_of-self-2 c =
    let all = counts_and_rest c.self.inside.index c.self.inside.shard c.args.shard.now.writes c.self.inside.left.items rows_per_turn c.in_ok-notes.notes.items c.in_ok-notes.ensures.notes in
    let created : c.number_created.result ≡ count_by (λ (note : WriteNote). note.created) c.in_ok-notes.notes.items = c.number_created.ensures ∙ ap (count_by (λ (note : WriteNote). note.created)) c.as_slice.ensures.value in
    let updated : c.number_updated.result ≡ count_by (λ (note : WriteNote). not note.created) c.in_ok-notes.notes.items = c.number_updated.ensures ∙ ap (count_by (λ (note : WriteNote). not note.created)) c.as_slice-2.ensures.value in
    let rest = ap length c.in_ok-notes.ensures.left in
    omega arith

pub overflow_add-self : goal.overflow_add-self
overflow_add-self c =
    let all = counts_and_rest c.self.inside.index c.self.inside.shard c.args.shard.now.writes c.self.inside.left.items rows_per_turn c.in_ok-notes.notes.items c.in_ok-notes.ensures.notes in
    let created : c.number_created.result ≡ count_by (λ (note : WriteNote). note.created) c.in_ok-notes.notes.items = c.number_created.ensures ∙ ap (count_by (λ (note : WriteNote). note.created)) c.as_slice.ensures.value in
    omega arith

pub overflow_add-self-2 : goal.overflow_add-self-2
overflow_add-self-2 c =
    let all = counts_and_rest c.self.inside.index c.self.inside.shard c.args.shard.now.writes c.self.inside.left.items rows_per_turn c.in_ok-notes.notes.items c.in_ok-notes.ensures.notes in
    let updated : c.number_updated.result ≡ count_by (λ (note : WriteNote). not note.created) c.in_ok-notes.notes.items = c.number_updated.ensures ∙ ap (count_by (λ (note : WriteNote). not note.created)) c.as_slice-2.ensures.value in
    omega arith
